use Prim.Native.Nat.{ℕ, ◌<◌}
use Rattle.signatures.specs.Signatures.{Says}
use Rattle.signatures.proofs.same.Given as goal

abbrev pub invariant-loop-a : goal.invariant-loop-a
invariant-loop-a l = (b : ℕ) → b < l.a → Says l.mask l.n l.m l.cells l.scratch l.q l.p b
