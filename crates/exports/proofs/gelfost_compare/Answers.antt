use mathlib.Core.Path.{ap, ◌∙◌}
use Rattle.answers.specs.Answers.{of_ordered}
use Rattle.exports.proofs.gelfost_compare.Goals as goal

pub returns : goal.returns
returns c = let w = c.compare-ordered.ensures in
    (c.put_ordered.ensures ∙ ap of_ordered w.0, w.1)
