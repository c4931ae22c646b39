use mathlib.Core.Path.{refl}
use Rattle.row_starts.proofs.Rule.{ruled}
use Rattle.row_starts.proofs.table.Goals as goal

-- The checker counts the entries stored, and tests each of them against the rule.
pub returns : goal.returns
returns c = ruled _ refl refl
