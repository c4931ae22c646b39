use Prim.Native.Nat.{ℕ, ◌<◌}
use mathlib.Core.Path.{◌≡◌}
use Rattle.splitting.specs.Places.{nxt_at}
use Rattle.classes.specs.Values.{value}
use Rattle.classes.specs.Steps.{values_of}
use Rattle.classes.proofs.Level.tell_apart.Given as goal

abbrev pub invariant-loop-a : goal.invariant-loop-a
invariant-loop-a l = (b : ℕ) → b < l.a → value (values_of l.self l.scratch) (nxt_at l.self.n l.scratch) l.q b ≡ value (values_of l.self l.scratch) (nxt_at l.self.n l.scratch) l.p b
