-- How the order is found: pairs of rows are met level by level from the starts; then what the last level tells is told back to them.
use Rattle.std.specs.Prelude.{◌≡◌, ℕ, zero, suc, ◌+◌, ◌*◌, ◌/◌, ◌%◌, ◌≤◌, ◌<◌}
use Rattle.automata.specs.Runs.{Events, Machine}
use Rattle.ordering.specs.Order.{by_marks}
use Rattle.ordering.specs.declared.Order.{Order}
use Rattle.ordering.specs.declared.Order.TheVariants.{First, Equal, Second}

-- The places are the numbers below `places`; `step` of a place and an event is the place that follows. `mark` is 0 where nothing is told.
pub record Graph : Type 0 where
  pub count : ℕ
  pub places : ℕ
  pub step : ℕ → ℕ → ℕ
  pub mark : ℕ → ℕ

-- Every event leads to a place.
abbrev pub Inside : Graph → Type 0
Inside G = (k a : ℕ) → k < G.places → a < G.count → G.step k a < G.places

-- An order as a number, 0 if equal.
abbrev pub number_of : Order → ℕ
number_of Equal = 0
number_of First = 1
number_of Second = 2

abbrev pub order_of : ℕ → Order
order_of zero = Equal
order_of (suc zero) = First
order_of (suc (suc x)) = Second

-- The pairs of a row of M and a row of N. They are told apart by their marks.
abbrev pub pairs_of : Events → Machine → Machine → Graph
pairs_of E M N = record {
  count = E.count;
  places = M.rows * N.rows;
  step = λ k a. M.target (k / N.rows) a * N.rows + N.target (k % N.rows) a;
  mark = λ k. number_of (by_marks (M.mark (k / N.rows)) (N.mark (k % N.rows)));
}

-- The first of f 0, .. f (n - 1) that is not 0.
abbrev pub nonzero : ℕ → ℕ → ℕ
nonzero zero y = y
nonzero (suc x) y = suc x

unfoldable pub first_found : ℕ → (ℕ → ℕ) → ℕ
first_found zero f = 0
first_found (suc n) f = nonzero (first_found n f) (f n)

module _ (G : Graph) where
  -- The mark after the first run of n events, lower events first, whose mark is not 0; 0 if there is none.
  unfoldable pub found_at : ℕ → ℕ → ℕ
  found_at zero k = G.mark k
  found_at (suc n) k = first_found G.count (λ a. found_at n (G.step k a))

  -- The places that runs of at most L events from `start` lead to are met: `level` is one more than the least number of events, 0 where none
  -- leads. At levels before L nothing is told.
  pub record Met (start L : ℕ) (level : ℕ → ℕ) : Type 0 where
    pub begins : level start ≡ 1
    pub only : (k : ℕ) → k < G.places → level k ≡ 1 → k ≡ start
    pub came : (k i : ℕ) → k < G.places → level k ≡ suc (suc i) → (y : ℕ) × (y < G.places) × (level y ≡ suc i) × ((a : ℕ) × (a < G.count) × (G.step y a ≡ k))
    pub at_most : (k : ℕ) → k < G.places → level k ≤ suc L
    pub goes : (k i a : ℕ) → k < G.places → level k ≡ suc i → i < L → a < G.count → (0 < level (G.step k a)) × (level (G.step k a) ≤ suc (suc i))
    pub quiet : (k i : ℕ) → k < G.places → level k ≡ suc i → i < L → G.mark k ≡ 0

  -- What a sweep over level L makes of the levels: a place that was not met, and to which a place of level L leads, is met.
  pub record Wider (L : ℕ) (level wider : ℕ → ℕ) : Type 0 where
    pub kept : (k : ℕ) → k < G.places → 0 < level k → wider k ≡ level k
    pub new : (k : ℕ) → k < G.places → level k ≡ 0 → 0 < wider k
        → (wider k ≡ suc (suc L)) × ((y : ℕ) × (y < G.places) × (level y ≡ suc L) × ((a : ℕ) × (a < G.count) × (G.step y a ≡ k)))
    pub all : (y a : ℕ) → y < G.places → level y ≡ suc L → a < G.count → 0 < wider (G.step y a)
