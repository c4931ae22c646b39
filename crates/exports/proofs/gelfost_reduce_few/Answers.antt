use mathlib.Core.Path.{ap, ◌∙◌}
use Rattle.answers.specs.Answers.{of_count}
use Rattle.exports.proofs.Kept.{reduce_kept}
use Rattle.exports.proofs.gelfost_reduce_few.Goals as goal

pub returns : goal.returns
returns c = let w = reduce_kept _ _ _ _ _ _ _ _ _ _ _ _ _ c.offset_of-k.ensures c.reduce_table-found.ensures in
    (c.put_count.ensures ∙ ap of_count w.0, w.1)
