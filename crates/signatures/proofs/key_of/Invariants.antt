use Prim.Native.Nat.{◌<◌}
use mathlib.Core.Path.{◌≡◌}
use Rattle.signatures.specs.Signatures.{mixed_to}
use Rattle.signatures.proofs.key_of.Given as goal

abbrev pub invariant-loop-a : goal.invariant-loop-a
invariant-loop-a l = (l.x ≡ mixed_to l.mask l.n l.m l.cells l.scratch l.q l.a) × (l.x < 4294967296)
