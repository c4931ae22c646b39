use Prim.Native.Nat.{ℕ, ◌≤◌, ◌<◌}
use lib.ListN.{get_or}
use Rattle.quick_folding.specs.Parts.{list_at}
use Rattle.levels.specs.Cells.{need_cell}
use Rattle.quick_folding.proofs.until.Given as goal

abbrev pub invariant-loop-x : goal.invariant-loop-x
invariant-loop-x l = (y : ℕ) → l.i ≤ y → y < l.x → need_cell l.k (get_or l.scratch (list_at l.n l.scratch y) 0) ≤ l.level
