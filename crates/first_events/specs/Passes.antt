-- What a pass over all pairs makes of each, by the cells that there are before it, and how far a pass and the rounds have come.
use Rattle.std.specs.Prelude.{◌≡◌, Bool, false, List, ◌⊎◌, ℕ, ◌+◌, ◌≤◌, ◌<◌, length, drop, set}
use Rattle.automata.specs.Runs.{Events, Machine, Sound}
use Rattle.chosen.specs.declared.First.TheVariants.{Unsettled}
use Rattle.pairs.specs.Pairs.{triangle, pair_at}
use Rattle.measures.specs.Measures.{settled_at, measure_in}
use Rattle.first_events.specs.declared.Pass.{Pass}
use Rattle.first_events.specs.declared.Pass.TheVariants.{Ends, Takes, Settles}

module _ (E : Events) (M : Machine) (c : ℕ → ℕ → ℕ) where
  -- The cell of the rows to which an event leads from q and p.
  abbrev pub led : ℕ → ℕ → ℕ → ℕ
  led q p a = c (M.target q a) (M.target p a)

  -- It is settled, at a distance that is less than d by the weight of the event.
  pub record Ready (d q p a : ℕ) : Type 0 where
    pub known : (measure_in (led q p a)).first ≡ Unsettled → ⊥
    pub less : (measure_in (led q p a)).distance + E.weight a ≡ d

  -- a is the lowest of the first n events that is ready; n if none is.
  pub record Lowest (d q p n a : ℕ) : Type 0 where
    pub at_most : a ≤ n
    pub ready : a < n → Ready d q p a
    pub none_lower : (b : ℕ) → b < a → Ready d q p b → ⊥

  -- First pass: the run of a pair of distance 1 whose marks differ is at its end.
  abbrev pub Ended : ℕ → ℕ → ℕ → Type 0
  Ended q p x =
      ((c q p ≡ 1) × (M.mark q ≡ M.mark p → ⊥) × (x ≡ settled_at 1 32))
      ⊎ (((c q p ≡ 1) × (M.mark q ≡ M.mark p → ⊥) → ⊥) × (x ≡ c q p))

  -- In each round, an unsettled pair takes the lowest event that is ready, as a number from 1,024 on, so that no other pair of the round sees it settled. A pair of a distance above `most`, or that is settled, is left as it is.
  abbrev pub Taken : ℕ → ℕ → ℕ → ℕ → Type 0
  Taken most q p x =
      ((most < c q p) × (x ≡ c q p))
      ⊎ ((c q p ≤ most) × ((a : ℕ) × Lowest (c q p) q p E.count a × (((a < E.count) × (x ≡ 1024 + a)) ⊎ ((E.count ≤ a) × (x ≡ c q p)))))

  -- Then a pair that took an event is settled, at the distance to which the event leads and its weight.
  abbrev pub Settled : ℕ → ℕ → ℕ → Type 0
  Settled q p x =
      (((c q p < 1024) ⊎ (1056 ≤ c q p)) × (x ≡ c q p))
      ⊎ ((a : ℕ) × (c q p ≡ 1024 + a) × (a < 32) × (let d = (measure_in (led q p a)).distance + E.weight a in ((d < 1024) × (x ≡ settled_at d a)) ⊎ ((1024 ≤ d) × (x ≡ c q p))))

-- What a pass makes of rows q and p, by the cells c: x is their cell afterwards.
abbrev pub Turned : Pass → Events → Machine → (ℕ → ℕ → ℕ) → ℕ → ℕ → ℕ → Type 0
Turned Ends E M c q p x = Ended E M c q p x
Turned (Takes most) E M c q p x = Taken E M c most q p x
Turned Settles E M c q p x = Settled E M c q p x

-- One pair's turn, from s to t; r says whether its cell changed.
pub record Visited (pass : Pass) (E : Events) (M : Machine) (q p : ℕ) (s t : List ℕ) (r : Bool) : Type 0 where
  pub cell : ℕ
  pub turned : Turned pass E M (pair_at s) q p cell
  pub put : t ≡ set s (triangle q + p) cell
  pub kept : r ≡ false → t ≡ s

-- What a pass leans on: `most` is a distance; an event that was taken leads to a settled pair.
abbrev pub Before : Pass → Events → Machine → (ℕ → ℕ → ℕ) → Type 0
Before Ends E M c = Unit {0}
Before (Takes most) E M c = most < 1024
Before Settles E M c = (q p a : ℕ) → q < M.rows → p < M.rows → c q p ≡ 1024 + a → a < 32 → (a < E.count) × ((measure_in (led E M c q p a)).first ≡ Unsettled → ⊥)

-- A pass over s₀ has come to a cell: before it each pair has had its turn, and from there on nothing has changed.
pub record Sweeping (pass : Pass) (E : Events) (M : Machine) (at : ℕ) (s₀ s : List ℕ) : Type 0 where
  pub done : (q p : ℕ) → q < M.rows → p < q → triangle q + p < at → Turned pass E M (pair_at s₀) q p (pair_at s q p)
  pub left : (q p : ℕ) → q < M.rows → p < q → at ≤ triangle q + p → pair_at s q p ≡ pair_at s₀ q p
  pub size : length s ≡ length s₀
  pub rest : drop (triangle M.rows) s ≡ drop (triangle M.rows) s₀

-- A pass goes on from one cell to another, from s to t; r says whether a cell changed.
pub record Swept (pass : Pass) (E : Events) (M : Machine) (from to : ℕ) (s t : List ℕ) (r : Bool) : Type 0 where
  pub goes : (s₀ : List ℕ) → Sound E M → triangle M.rows ≤ length s₀ → Before pass E M (pair_at s₀) → Sweeping pass E M from s₀ s → Sweeping pass E M to s₀ t
  pub size : length t ≡ length s
  pub kept : r ≡ false → t ≡ s
