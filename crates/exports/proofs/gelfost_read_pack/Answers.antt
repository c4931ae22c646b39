use mathlib.Core.Path.{ap, ◌∙◌}
use Rattle.answers.specs.Answers.{of_count}
use Rattle.exports.proofs.gelfost_read_pack.Goals as goal

pub returns : goal.returns
returns c = let w = c.read_pack-found.ensures in
    (w.1, w.2, w.3, c.put_count.ensures ∙ ap of_count w.0)
