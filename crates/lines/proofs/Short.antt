-- How long lines are at most: a line or a refusal with numbers below 100,000.
use mathlib.Core.List.{List}
use Prim.Native.Nat.{ℕ, ◌+◌, ◌≤◌}
use native.Mathlib.Omega.{arith}
use lib.ListN.{length, length-append}
use Rattle.text.proofs.Short.{Small, number_short}
use Rattle.lines.specs.Lines.{pair_line, head_line, refusal_line}

pub pair_short : (first second : ℕ) → Small first → Small second → length (pair_line first second) ≤ 12
unfolding pair_line
pair_short first second h g = simp length-append (omega (arith, number_short first h, number_short second g))

pub head_short : (word : List ℕ) (rows events counted : ℕ) → Small rows → Small events → Small counted → length (head_line word rows events counted) ≤ length word + 18
unfolding head_line
head_short word rows events counted h g f = simp length-append (omega (arith, number_short rows h, pair_short events counted g f))

pub refusal_short : (number place : ℕ) → Small number → Small place → length (refusal_line number place) ≤ 20
unfolding refusal_line
refusal_short number place h g = omega (arith, pair_short number place h g)
