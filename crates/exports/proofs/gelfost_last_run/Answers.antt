use mathlib.Core.Path.{ap, ◌∙◌}
use Rattle.answers.specs.Answers.{of_told}
use Rattle.exports.proofs.Kept.{run_kept}
use Rattle.exports.proofs.gelfost_last_run.Goals as goal

pub returns : goal.returns
returns c = let w = run_kept _ _ _ _ _ _ _ _ _ _ _ c.offset_of-from.ensures c.last_run-told.ensures in
    (c.put_told.ensures ∙ ap of_told w.0, w.1)
