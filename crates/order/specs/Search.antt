-- How far the search has come, in the cells of scratch.
use Rattle.std.specs.Prelude.{◌≡◌, cond, List, ◌⊎◌, ℕ, suc, ◌+◌, ◌-◌, ◌*◌, ◌≤◌, ◌<◌, eqb, length, get_or}
use Rattle.automata.specs.Runs.{Events, Machine, Sound}
use Rattle.scratch.specs.Scratch.{machine_by}
use Rattle.rules.specs.Rules.{table_of}
use Rattle.ordering.specs.Order.{comparison}
use Rattle.ordering.specs.declared.Order.{Order}
use Rattle.order_rules.specs.Checks.{Ready}
use Rattle.ordering.specs.Found.{Graph, pairs_of, first_found, found_at, Met}
use Rattle.order.specs.Cells.{level_at, tells}

-- Every event counts.
abbrev pub events_in : ℕ → Events
events_in events = record { count = events; weight = λ a. 1 }

-- The pairs of rows of two tables over the same events.
abbrev pub graph_by : ℕ → ℕ → List ℕ → List ℕ → ℕ → List ℕ → List ℕ → Graph
graph_by rows events cells marks rows2 cells2 marks2 = pairs_of (events_in events) (machine_by rows events cells marks) (machine_by rows2 events cells2 marks2)

-- What every step leans on.
pub record Given (E : Events) (M N : Machine) (s : List ℕ) : Type 0 where
  pub first : Sound E M
  pub second : Sound E N
  pub room : M.rows * N.rows ≤ length s

abbrev pub given_as : ℕ → ℕ → List ℕ → List ℕ → ℕ → List ℕ → List ℕ → List ℕ → Type 0
given_as rows events cells marks rows2 cells2 marks2 s = Given (events_in events) (machine_by rows events cells marks) (machine_by rows2 events cells2 marks2) s

-- Nothing differs but the cells of pairs.
pub record Framed (G : Graph) (s t : List ℕ) : Type 0 where
  pub size : length t ≡ length s
  pub beyond : (i : ℕ) → G.places ≤ i → get_or t i 0 ≡ get_or s i 0

module _ (G : Graph) where
  -- ---- meeting pairs

  -- An event leads to x from a pair of a level.
  abbrev pub From : ℕ → List ℕ → ℕ → Type 0
  From level s x = (y : ℕ) × (y < G.places) × (get_or s y 0 ≡ level) × ((a : ℕ) × (a < G.count) × (G.step y a ≡ x))

  -- The first i events of pair k were followed, and all of the pairs before it.
  abbrev pub Followed : ℕ → ℕ → ℕ → ℕ → Type 0
  Followed k i y a = (y < k) ⊎ ((y ≡ k) × (a < i))

  -- A sweep over a level of s has come to event i of pair k, and has left t.
  pub record Spreading (level k i : ℕ) (s t : List ℕ) (most : ℕ) : Type 0 where
    pub each : (x : ℕ) → x < G.places → (get_or t x 0 ≡ get_or s x 0) ⊎ ((get_or s x 0 ≡ 0) × (get_or t x 0 ≡ 4096 * G.mark x + suc level) × From level s x)
    pub met : (y a : ℕ) → y < G.places → a < G.count → get_or s y 0 ≡ level → Followed k i y a → 0 < get_or t (G.step y a) 0
    pub still : most ≡ 0 → t ≡ s
    pub quiet : most ≤ 1 → (x : ℕ) → x < G.places → get_or s x 0 ≡ 0 → 0 < get_or t x 0 → G.mark x ≡ 0
    pub told : 2 ≤ most → (x : ℕ) × (x < G.places) × (get_or s x 0 ≡ 0) × (0 < get_or t x 0) × (¬ (G.mark x ≡ 0))
    pub framed : Framed G s t

  -- The sweep goes on from pair k, which is of the level, by i of its events: from t to u.
  abbrev pub Going : ℕ → ℕ → List ℕ → ℕ → ℕ → List ℕ → ℕ → Type 0
  Going level k t most i u r = (s : List ℕ) → 0 < level → get_or s k 0 ≡ level → Spreading level k 0 s t most → Spreading level k i s u r

  -- And to the next pair.
  pub record Carried (level k : ℕ) (t : List ℕ) (most : ℕ) (u : List ℕ) (r : ℕ) : Type 0 where
    pub size : length u ≡ length t
    pub goes : (s : List ℕ) → 0 < level → get_or s k 0 ≡ level → Spreading level k 0 s t most → Spreading level (k + 1) 0 s u r

  -- All pairs that runs of at most L events lead to are met. Each is told by its marks; at the levels before L these are equal.
  pub record Reached (start L : ℕ) (s : List ℕ) : Type 0 where
    pub met : Met G start L (level_at s)
    pub cells : (k : ℕ) → k < G.places → (get_or s k 0 ≡ 0) ⊎ ((0 < level_at s k) × (get_or s k 0 ≡ 4096 * G.mark k + level_at s k))

  -- At level L as well.
  abbrev pub Quiet : ℕ → List ℕ → Type 0
  Quiet L s = (k : ℕ) → k < G.places → level_at s k ≡ suc L → G.mark k ≡ 0

  -- The search that began on s has met the pairs up to level L, and all is quiet.
  pub record Climbing (start L : ℕ) (s t : List ℕ) : Type 0 where
    pub reached : Reached start L t
    pub quiet : Quiet L t
    pub framed : Framed G s t

  -- Before the search: the cells of pairs are 0, and the marks of the start are equal.
  pub record Bare (start : ℕ) (s : List ℕ) : Type 0 where
    pub start_inside : start < G.places
    pub same : G.mark start ≡ 0
    pub zeros : (k : ℕ) → k < G.places → get_or s k 0 ≡ 0

  -- ---- telling back

  -- What the pairs of the next level tell a pair, the lowest event first.
  abbrev pub told_from : ℕ → List ℕ → ℕ → ℕ
  told_from level s k = first_found G.count (λ a. tells (suc level) (get_or s (G.step k a) 0))

  -- The cell of a pair, if those of a level are told so.
  abbrev pub settled_to : ℕ → List ℕ → ℕ → ℕ
  settled_to level s k = cond (eqb (get_or s k 0) level) (4096 * told_from level s k + level) (get_or s k 0)

  -- A sweep over a level of s has come to a pair, and has left t.
  pub record Settling (level at : ℕ) (s t : List ℕ) : Type 0 where
    pub done : (k : ℕ) → k < G.places → k < at → get_or t k 0 ≡ settled_to level s k
    pub left : (k : ℕ) → at ≤ k → get_or t k 0 ≡ get_or s k 0
    pub size : length t ≡ length s

  -- From level i on, each pair is told what the runs that end at level L find.
  pub record Told (start L i : ℕ) (s : List ℕ) : Type 0 where
    pub met : Met G start L (level_at s)
    pub told : (k j n : ℕ) → k < G.places → level_at s k ≡ suc j → i ≤ j → j + n ≡ L → get_or s k 0 ≡ 4096 * found_at G n k + suc j
    pub left : (k j : ℕ) → k < G.places → level_at s k ≡ suc j → j < i → get_or s k 0 ≡ suc j

  -- From the last level to the first.
  pub record ToldBack (L : ℕ) (s t : List ℕ) : Type 0 where
    pub goes : (start : ℕ) → start < G.places → Told start L L s → Told start L 0 t
    pub framed : Framed G s t

  -- ---- the whole

  -- Pairs are met until marks differ at level r; r is 0 if they never do, as far as runs of fewer events than `bound` tell.
  pub record Sought (start bound : ℕ) (s t : List ℕ) (r : ℕ) : Type 0 where
    pub framed : Framed G s t
    pub none : r ≡ 0 → (n : ℕ) → n < bound → found_at G n start ≡ 0
    pub some : (L : ℕ) → r ≡ suc L → (L < bound) × Told start L L t × ((n : ℕ) → n < L → found_at G n start ≡ 0) × (¬ (found_at G L start ≡ 0))

-- Two tables that break no rule, and room for the pairs of their rows.
abbrev pub ready_by : ℕ → ℕ → ℕ → List ℕ → List ℕ → ℕ → ℕ → List ℕ → List ℕ → List ℕ → Type 0
ready_by rows events start cells marks rows2 start2 cells2 marks2 s = Ready (table_of rows events start cells marks) (table_of rows2 events start2 cells2 marks2) (length s)

-- The search answers which table comes first, and uses the cells of pairs only.
pub record Searched (rows events start : ℕ) (cells marks : List ℕ) (rows2 start2 : ℕ) (cells2 marks2 s t : List ℕ) (r : Order) : Type 0 where
  pub answers : r ≡ comparison (table_of rows events start cells marks) (table_of rows2 events start2 cells2 marks2)
  pub framed : Framed (graph_by rows events cells marks rows2 cells2 marks2) s t
