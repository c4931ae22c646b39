use Prim.Native.Nat.{ℕ, ◌≤◌, ◌<◌}
use mathlib.Core.Path.{◌≡◌}
use Rattle.splitting.specs.Places.{nxt_at}
use Rattle.splitting.proofs.canonical.Given as goal

abbrev pub invariant-loop-i : goal.invariant-loop-i
invariant-loop-i l = (j : ℕ) → j < l.i → (nxt_at l.n l.scratch j ≤ j) × (nxt_at l.n l.scratch (nxt_at l.n l.scratch j) ≡ nxt_at l.n l.scratch j)
