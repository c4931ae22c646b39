-- What the steps of the search ensure of scratch, level by level.
use Rattle.std.specs.Prelude.{◌≡◌, Bool, true, false, cond, List, [], ◌∷◌, ◌⊎◌, ℕ, suc, ◌+◌, ◌-◌, ◌≤◌, ◌<◌, eqb, length, get_or, drop}
use Rattle.automata.specs.Runs.{Events, Machine, Sound, Near}
use Rattle.tables.specs.Table.{weight_by}
use Rattle.pairs.specs.Pairs.{triangle, pair_at}

-- The events that a search runs.
abbrev pub events_by : ℕ → ℕ → Events
events_by mask events = record { count = events; weight = weight_by mask }

-- How many cells are v.
unfoldable pub occurrences : ℕ → List ℕ → ℕ
occurrences v [] = 0
occurrences v (x ∷ s) = cond (eqb x v) 1 0 + occurrences v s

module _ (E : Events) (M : Machine) where
  -- What the cells D of other pairs say of rows q and p at a level: equal marks at level 0, and each pair of targets has a level that is less by the event's weight.
  pub record Fits (D : ℕ → ℕ → ℕ) (level q p : ℕ) : Type 0 where
    pub marks : level ≡ 0 → M.mark q ≡ M.mark p
    pub targets : (a : ℕ) → a < E.count → D (M.target q a) (M.target p a) ≤ level - E.weight a

  -- A level's cells in scratch, where those below `done` fit for good.
  pub record Cells (done level : ℕ) (s : List ℕ) : Type 0 where
    pub closed : (q p : ℕ) → q < M.rows → p < M.rows → pair_at s q p < done → Fits (pair_at s) (pair_at s q p) q p
    pub none_above : (L q p : ℕ) → L ≤ level → q < M.rows → p < M.rows → Near E M M L q p → pair_at s q p ≤ L
    pub values : (k : ℕ) → k < triangle M.rows → (get_or s k 0 ≤ level) ⊎ (get_or s k 0 ≡ 65535)

  -- What every step leans on.
  pub record Given (s : List ℕ) : Type 0 where
    pub sound : Sound E M
    pub few : M.rows ≤ 1024
    pub room : triangle M.rows ≤ length s

  -- What a step of the search begins with.
  pub record Begun (level : ℕ) (s : List ℕ) : Type 0 where
    pub given : Given s
    pub in_range : level < M.rows
    pub cells : Cells level level s

  -- A step from s to t; r says whether it changed anything.
  pub record Moved (level : ℕ) (s t : List ℕ) (r : Bool) : Type 0 where
    pub cells : Cells level level t
    pub size : length t ≡ length s
    pub rest : drop (triangle M.rows) t ≡ drop (triangle M.rows) s
    pub kept : r ≡ false → t ≡ s
    pub fewer : r ≡ true → occurrences level t < occurrences level s

  -- A step that, if it changed nothing, found P of the cells.
  pub record Turned (P : List ℕ → Type 0) (level : ℕ) (s t : List ℕ) (r : Bool) : Type 0 where
    pub moved : Moved level s t r
    pub quiet : r ≡ false → P s

  -- A pair that has the level fits; so does each pair of row q and one of the first k rows; so do all pairs of the first k rows.
  abbrev pub Quiet : ℕ → ℕ → ℕ → List ℕ → Type 0
  Quiet level q p s = pair_at s q p ≡ level → Fits (pair_at s) level q p

  abbrev pub QuietRow : ℕ → ℕ → ℕ → List ℕ → Type 0
  QuietRow level q k s = (p : ℕ) → p < k → Quiet level q p s

  abbrev pub QuietRows : ℕ → ℕ → List ℕ → Type 0
  QuietRows level k s = (q : ℕ) → q < k → QuietRow level q q s

  -- A turn of one pair; of the pairs of row q and lower rows; of all pairs.
  abbrev pub Visited : ℕ → ℕ → ℕ → List ℕ → List ℕ → Bool → Type 0
  Visited level q p s t r = Turned (Quiet level q p) level s t r

  abbrev pub RowSwept : ℕ → ℕ → List ℕ → List ℕ → Bool → Type 0
  RowSwept level q s t r = Turned (QuietRow level q q) level s t r

  abbrev pub Swept : ℕ → List ℕ → List ℕ → Bool → Type 0
  Swept level s t r = Turned (QuietRows level M.rows) level s t r

  -- A level is settled, from s to t.
  pub record Settled (level : ℕ) (s t : List ℕ) : Type 0 where
    pub cells : Cells (suc level) level t
    pub size : length t ≡ length s
    pub rest : drop (triangle M.rows) t ≡ drop (triangle M.rows) s

  -- What a next level begins with: the one below is settled.
  pub record Ready (level : ℕ) (s : List ℕ) : Type 0 where
    pub given : Given s
    pub above : 0 < level
    pub in_range : level < M.rows
    pub cells : Cells level (level - 1) s

  -- The next level is settled, and r says whether a pair has it.
  pub record Risen (level : ℕ) (s t : List ℕ) (r : Bool) : Type 0 where
    pub settled : Settled level s t
    pub none : r ≡ false → (k : ℕ) → k < triangle M.rows → get_or t k 0 ≡ level → ⊥

-- Each of the first `count` cells of s that is 65,535 is `level` in t, and nothing else changed.
pub record Lowered (count level : ℕ) (s t : List ℕ) : Type 0 where
  pub left : (k : ℕ) → k < count → get_or s k 0 ≡ 65535 → get_or t k 0 ≡ level
  pub kept : (k : ℕ) → (get_or s k 0 ≡ 65535 → ⊥) → get_or t k 0 ≡ get_or s k 0
  pub size : length t ≡ length s
  pub rest : drop count t ≡ drop count s
