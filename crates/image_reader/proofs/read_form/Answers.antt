use mathlib.Core.Path.{ap, ◌∙◌}
use lib.ListN.{length}
use Rattle.rules.specs.Rules.{winch}
use Rattle.rules.specs.declared.Limits.{Limits}
use Rattle.image_sections.specs.Read.{Read, at_most}
use Rattle.image_sections.proofs.Order.{no_twelve}
use Rattle.image_reader.specs.Read.{roomed, read_in_form}
use Rattle.image_reader.proofs.read_form.Goals as goal

pub returns : goal.returns
returns c = let a = c.args in
    let w = c.read_as.ensures in
    let b = a.image.now in
    let n = length a.cells.now in
    let m = length a.marks.now in
    (w.0 ∙ ap (λ (L : Limits). read_in_form a.alone a.form L (at_most L.rows) b n m) c.winch-limits.ensures ∙ ap (λ (r : Read). roomed r n m) (no_twelve a.alone a.form winch b), w.1, w.2)
