-- The cell of two rows.
use Prim.Native.Nat.{ℕ, ◌+◌, ◌<◌}
use mathlib.Core.Path.{◌≡◌}
use mathlib.Core.List.{List}
use native.Mathlib.Nat.{le_of_lt}
use native.Mathlib.Omega.{arith}
use borrow.Author.Tests.{lt-ltb, le-ltb}
use lib.ListN.{get_or}
use Rattle.pairs.specs.Pairs.{triangle, pair_from, pair_at}

-- ---- two rows, each row's first cell being `from` of it
module _ (from : ℕ → ℕ) (s : List ℕ) (q p : ℕ) where
  pub from_greater : p < q → pair_from from s q p ≡ get_or s (from q + p) 0
  unfolding pair_from
  from_greater h = rw (lt-ltb p q h)

  pub from_less : q < p → pair_from from s q p ≡ get_or s (from p + q) 0
  unfolding pair_from
  from_less h = rw (le-ltb p q (le_of_lt h), lt-ltb q p h)

  pub from_same : q ≡ p → pair_from from s q p ≡ 0
  unfolding pair_from
  from_same e = rw (le-ltb p q (omega arith), le-ltb q p (omega arith))

pub pair_greater : (s : List ℕ) (q p : ℕ) → p < q → pair_at s q p ≡ get_or s (triangle q + p) 0
pair_greater = from_greater triangle

pub pair_less : (s : List ℕ) (q p : ℕ) → q < p → pair_at s q p ≡ get_or s (triangle p + q) 0
pair_less = from_less triangle

pub pair_same : (s : List ℕ) (q p : ℕ) → q ≡ p → pair_at s q p ≡ 0
pair_same = from_same triangle
