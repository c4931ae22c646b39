-- The sweep over the levels: the rows of the order taken so far, those kept among them, and what is known of them after each level.
use Rattle.std.specs.Prelude.{◌≡◌, List, [], ◌++◌, ℕ, suc, ◌-◌, ◌≤◌, ◌<◌, length, get_or, take, drop}
use Rattle.automata.specs.Runs.{Events, Machine, Near}
use Rattle.tables.specs.Table.{offset}
use Rattle.tables.specs.Lists.{sift}
use Rattle.tables.specs.Reduction.{order, similar, fold}
use Rattle.levels.specs.Levels.{row_at, need_at}

module _ (E : Events) (M : Machine) where
  -- q is one of the first i rows of the order.
  abbrev pub Placed : ℕ → ℕ → Type 0
  Placed i q = (j : ℕ) × (j < i) × (row_at E M j ≡ q)

  -- On W, what is near at level L + 1 is near at level L.
  pub record Rests (W : ℕ → Type 0) (L : ℕ) : Type 0 where
    pub down : (q p : ℕ) → W q → W p → Near E M M (suc L) q p → Near E M M L q p

  -- ---- at offset k
  module _ (k : ℕ) where
    -- The kept rows among the first i of the order.
    unfoldable pub kept_to : ℕ → List ℕ
    kept_to i = sift (similar E M (offset k)) [] (take i (order E M))

    -- The kept rows among the first u of the order, and behind them all rows of the places from u up to e.
    unfoldable pub listed : ℕ → ℕ → List ℕ
    listed u e = kept_to u ++ take (e - u) (drop u (order E M))

    -- The first i rows of the order are just those that need no more than L.
    pub record Border (L i : ℕ) : Type 0 where
      pub within : i ≤ length (order E M)
      pub low : (j : ℕ) → j < i → need_at E M k (row_at E M j) ≤ L
      pub high : (j : ℕ) → i ≤ j → j < length (order E M) → L < need_at E M k (row_at E M j)

    -- `val` gives, for each of the first i rows of the order, the first place among those kept whose row is near at level L.
    pub record Led (L i : ℕ) (val : ℕ → ℕ) : Type 0 where
      pub inside : (j : ℕ) → j < i → val (row_at E M j) < length (kept_to i)
      pub close : (j : ℕ) → j < i → Near E M M L (row_at E M j) (get_or (kept_to i) (val (row_at E M j)) 0)
      pub least : (j h : ℕ) → j < i → h < val (row_at E M j) → Near E M M L (row_at E M j) (get_or (kept_to i) h 0) → ⊥

    -- `lab` gives, for each of the first i rows of the order, the place among those kept of the row into which it folds.
    pub record Labelled (i : ℕ) (lab : ℕ → ℕ) : Type 0 where
      pub inside : (j : ℕ) → j < i → lab (row_at E M j) < length (kept_to i)
      pub folds : (j : ℕ) → j < i → get_or (kept_to i) (lab (row_at E M j)) 0 ≡ fold E M (offset k) (row_at E M j)

    -- `nxt` gives, for each place of `listed`, the first place whose row is near at level L.
    pub record Settled (L u e : ℕ) (nxt : ℕ → ℕ) : Type 0 where
      pub no_later : (c : ℕ) → c < length (listed u e) → nxt c ≤ c
      pub close : (c : ℕ) → c < length (listed u e) → Near E M M L (get_or (listed u e) c 0) (get_or (listed u e) (nxt c) 0)
      pub least : (c h : ℕ) → c < length (listed u e) → h < nxt c → Near E M M L (get_or (listed u e) c 0) (get_or (listed u e) h 0) → ⊥
