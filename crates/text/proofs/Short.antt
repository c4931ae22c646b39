-- How long texts are at most: a number below 100,000, and many texts of bounded length.
use mathlib.Core.List.{List}
use Prim.Native.Nat.{ℕ, zero, suc, ◌*◌, ◌≤◌, ◌<◌}
use native.Mathlib.Omega.{arith}
use lib.ListN.{length, length-append}
use Rattle.text.specs.Text.{decimal, joined}
use Rattle.text.proofs.Decimal.{decimal-length}

abbrev pub Small : ℕ → Type 0
Small n = n < 100000

pub number_short : (n : ℕ) → Small n → length (decimal n) ≤ 5
number_short n h = decimal-length 4 n h

pub joined_short : (n most : ℕ) (f : ℕ → List ℕ) → ((i : ℕ) → i < n → length (f i) ≤ most) → length (joined n f) ≤ n * most
unfolding joined
joined_short zero most f h = omega arith
joined_short (suc n) most f h = omega (arith, length-append (joined n f) (f n), joined_short n most f (λ i l. h i (omega arith)), h n (omega arith))
