use Prim.Native.Nat.{ℕ, ◌+◌, ◌-◌, ◌*◌, ◌≤◌, ◌<◌}
use mathlib.Core.Path.{◌≡◌}
use lib.ListN.{get_or}
use Rattle.tables.specs.Table.{mark_of, weight_by}
use Rattle.pairs.specs.Pairs.{pair_at}
use Rattle.distances.proofs.pair_fits.Given as goal

abbrev pub invariant-loop-event : goal.invariant-loop-event
invariant-loop-event l = record {
  marks : l.level ≡ 0 → mark_of l.marks l.q ≡ mark_of l.marks l.p;
  targets : (a : ℕ) → a < l.event → pair_at l.scratch (get_or l.cells (l.q * l.events + a) 0) (get_or l.cells (l.p * l.events + a) 0) ≤ l.level - weight_by l.mask a;
}
