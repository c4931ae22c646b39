use Prim.Native.Nat.{ℕ, ◌<◌}
use mathlib.Core.Path.{◌≡◌}
use Rattle.std.specs.Prelude.{IfSome}
use Rattle.signatures.specs.Signatures.{stamp_at, target_at}
use Rattle.signatures.proofs.changed.Given as goal

abbrev pub invariant-loop-a : goal.invariant-loop-a
invariant-loop-a l =
    ((b : ℕ) → b < l.a → stamp_at l.n l.scratch (target_at l.m l.cells l.q b) ≡ l.last → ⊥)
    × IfSome l.before (λ (t : ℕ). stamp_at l.n l.scratch t ≡ l.last → ⊥)
