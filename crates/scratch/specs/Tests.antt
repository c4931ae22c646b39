-- What tests made at run time say.
use Rattle.std.specs.Prelude.{◌≡◌, Bool, true, false, cond, List, ℕ, zero, suc, ◌+◌, ◌≤◌, eqb, length, get_or}

-- What a test says of a property.
pub record Tested (r : Bool) (P : Type 0) : Type 0 where
  pub holds : r ≡ true → P
  pub fails : r ≡ false → P → ⊥

-- How many of the first `count` cells from a place on hold x.
unfoldable pub tally : List ℕ → ℕ → ℕ → ℕ → ℕ
tally s from x zero = 0
tally s from x (suc i) = tally s from x i + cond (eqb (get_or s (from + i) 0) x) 1 0

-- There are so many cells, no more than 65,535, and just one of them holds x.
pub record Once (from count x : ℕ) (s : List ℕ) : Type 0 where
  pub there : from + count ≤ length s
  pub few : count ≤ 65535
  pub one : tally s from x count ≡ 1
