use mathlib.Core.Path.{ap, ◌∙◌}
use Rattle.answers.specs.Answers.{of_count}
use Rattle.exports.proofs.gelfost_write_radio.Goals as goal

pub returns : goal.returns
returns c = let w = c.write_radio_image-written.ensures in
    (w.1, c.put_count.ensures ∙ ap of_count w.0)
