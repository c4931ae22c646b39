use Prim.Native.Nat.{ℕ, ◌+◌, ◌*◌, ◌<◌}
use mathlib.Core.Path.{◌≡◌}
use lib.ListN.{get_or}
use Rattle.scratch.specs.Scratch.{lead_in}
use Rattle.quick_folding.proofs.stays.Given as goal

abbrev pub invariant-loop-q : goal.invariant-loop-q
invariant-loop-q l = (p : ℕ) → p < l.q → (lead_in l.scratch p ≡ 0 → ⊥) → get_or l.cells (p * l.m + l.a) 0 ≡ p
