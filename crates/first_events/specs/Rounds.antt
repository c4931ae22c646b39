-- How far the rounds have come, in the cells of scratch.
use Rattle.std.specs.Prelude.{◌≡◌, Bool, true, false, List, ℕ, suc, ◌+◌, ◌≤◌, ◌<◌, length, drop}
use Rattle.automata.specs.Runs.{Events, Machine, Sound}
use Rattle.tables.specs.Lengths.{distance}
use Rattle.chosen.specs.declared.First.{First}
use Rattle.chosen.specs.Rounds.{Stage}
use Rattle.pairs.specs.Pairs.{triangle, pair_at}
use Rattle.scratch.specs.Scratch.{len_cell}
use Rattle.measures.specs.Measures.{cell_of, measure_in, cell_for}

-- How the run of two rows begins, as their cell says.
abbrev pub first_at : List ℕ → ℕ → ℕ → First
first_at s q p = (measure_in (pair_at s q p)).first

-- Nothing but the cells of pairs differs.
pub record Framed (M : Machine) (s t : List ℕ) : Type 0 where
  pub size : length t ≡ length s
  pub rest : drop (triangle M.rows) t ≡ drop (triangle M.rows) s

module _ (E : Events) (M : Machine) where
  -- What the rounds lean on.
  pub record Given (s : List ℕ) : Type 0 where
    pub sound : Sound E M
    pub few_rows : M.rows ≤ 1024
    pub few_events : E.count ≤ 32
    pub room : triangle M.rows ≤ length s

  -- Each pair's cell holds its distance.
  abbrev pub Distances : List ℕ → Type 0
  Distances s = (q p : ℕ) → q < M.rows → p < M.rows → pair_at s q p ≡ len_cell (distance E M q p)

  -- After round l each pair's cell holds its distance and, where its run has at most l events, how that begins.
  pub record Reached (l : ℕ) (s : List ℕ) : Type 0 where
    pub stage : Stage E M (distance E M) (first_at s) l
    pub cells : (q p : ℕ) → q < M.rows → p < M.rows → pair_at s q p ≡ cell_of (distance E M q p) (first_at s q p)

  -- Each pair's cell holds all.
  abbrev pub Complete : List ℕ → Type 0
  Complete s = (q p : ℕ) → q < M.rows → p < M.rows → pair_at s q p ≡ cell_for E M q p

  -- A round from s to t that looks at distances up to `most`; r says whether a pair took an event.
  pub record Rounded (most : ℕ) (s t : List ℕ) (r : Bool) : Type 0 where
    pub framed : (l : ℕ) → l + 2 ≤ most → Reached l s → Framed M s t
    pub next : (l : ℕ) → l + 2 ≤ most → Reached l s → r ≡ true → Reached (suc l) t
    pub last : (l : ℕ) → l + 2 ≤ most → Reached l s → r ≡ false → Complete t

  -- The whole search, from s to t.
  pub record Searched (s t : List ℕ) : Type 0 where
    pub framed : Framed M s t
    pub complete : Complete t
