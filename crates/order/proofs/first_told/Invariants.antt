use Prim.Native.Nat.{ℕ, suc, ◌<◌}
use mathlib.Core.Path.{◌≡◌}
use lib.ListN.{get_or}
use Rattle.order.specs.Cells.{tells}
use Rattle.order.specs.Search.{graph_by}
use Rattle.order.proofs.first_told.Given as goal

abbrev pub invariant-loop-event : goal.invariant-loop-event
invariant-loop-event l = (a : ℕ) → a < l.event → tells (suc l.level) (get_or l.scratch ((graph_by l.rows l.events l.cells l.marks l.rows2 l.cells2 l.marks2).step l.k a) 0) ≡ 0
