use mathlib.Core.Path.{ap, ◌∙◌}
use Rattle.images.specs.declared.Form.TheVariants.{Radio}
use Rattle.image_sections.specs.Read.{Read}
use Rattle.image_reader.specs.Read.{cells_as, marks_in}
use Rattle.answers.specs.Answers.{of_read}
use Rattle.exports.proofs.gelfost_read_radio.Goals as goal

pub returns : goal.returns
returns c = let a = c.args in
    let b = a.image.now in
    let w = c.read_radio_image-read.ensures in
    (w.1 ∙ ap (λ (r : Read). cells_as Radio r b a.cells.now) w.0, w.2 ∙ ap (λ (r : Read). marks_in r b a.marks.now) w.0, c.put_read.ensures ∙ ap of_read w.0)
