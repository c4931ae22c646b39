use Prim.Native.Nat.{ℕ, ◌<◌}
use Rattle.quick_folding.specs.Parts.{StaysAt}
use Rattle.quick_folding.proofs.all_stay.Given as goal

abbrev pub invariant-loop-a : goal.invariant-loop-a
invariant-loop-a l = (b : ℕ) → b < l.a → StaysAt l.mask l.n l.m l.cells l.scratch b
