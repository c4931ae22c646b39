-- Machines and runs: where a run leads, what it shows, and which rows no long run tells apart.
use Rattle.std.specs.Prelude.{◌≡◌, List, [], ◌∷◌, ℕ, ◌+◌, ◌≤◌, ◌<◌}

-- The events are the numbers below `count`. Each adds its `weight`, 0 or 1, to the size of a run.
pub record Events : Type 0 where
  pub count : ℕ
  pub weight : ℕ → ℕ

-- The rows are the numbers below `rows`; `target` of a row and an event is the row that follows.
pub record Machine : Type 0 where
  pub rows : ℕ
  pub start : ℕ
  pub target : ℕ → ℕ → ℕ
  pub mark : ℕ → ℕ

-- The start is a row, and so is every target.
pub record Sound (E : Events) (M : Machine) : Type 0 where
  pub start_inside : M.start < M.rows
  pub target_inside : (q a : ℕ) → q < M.rows → a < E.count → M.target q a < M.rows

-- Every event weighs 0 or 1.
pub record Light (E : Events) : Type 0 where
  pub at_most : (a : ℕ) → E.weight a ≤ 1

-- "Run": a finite list of events, perhaps empty.
abbrev pub Run : Events → List ℕ → Type 0
Run E [] = Unit {0}
Run E (a ∷ w) = (a < E.count) × Run E w

-- The length of a run: every event adds its weight. It is 1 for an event that counts, 0 for an idle one.
abbrev pub size : Events → List ℕ → ℕ
size E [] = 0
size E (a ∷ w) = E.weight a + size E w

-- The row after a run, begun at row q.
abbrev pub after : Machine → ℕ → List ℕ → ℕ
after M q [] = q
after M q (a ∷ w) = after M (M.target q a) w

-- The mark after a run, begun at the start.
abbrev pub shows : Machine → List ℕ → ℕ
shows M w = M.mark (after M M.start w)

-- Begun at row q of M and at row p of N, every run of size L or more ends at equal marks.
pub record Near (E : Events) (M N : Machine) (L q p : ℕ) : Type 0 where
  pub same : (w : List ℕ) → Run E w → L ≤ size E w → M.mark (after M q w) ≡ N.mark (after N p w)

-- M and N agree after every run of size L or more.
abbrev pub AgreeFrom : Events → ℕ → Machine → Machine → Type 0
AgreeFrom E L M N = Near E M N L M.start N.start

-- A length, or endless.
pub data Len : Type 0 where
  len : ℕ → Len
  endless : Len

-- "Distance": the least length L such that, begun at either, every run of length L or more ends at equal marks.
abbrev pub IsDistance : Events → Machine → ℕ → ℕ → Len → Type 0
IsDistance E M q p (len L) = Near E M M L q p × ((K : ℕ) → Near E M M K q p → L ≤ K)
IsDistance E M q p endless = (L : ℕ) → ¬ Near E M M L q p

-- A run that leads from row q to row p.
pub record Leads (E : Events) (M : Machine) (q p : ℕ) (w : List ℕ) : Type 0 where
  pub run : Run E w
  pub ends : after M q w ≡ p

-- "Unreached": no run leads from the start to the row.
abbrev pub Unreached : Events → Machine → ℕ → Type 0
Unreached E M q = (w : List ℕ) → ¬ Leads E M M.start q w

-- "Depth": the length of the longest run from the start to the row; endless if there is no longest.
abbrev pub IsDepth : Events → Machine → ℕ → Len → Type 0
IsDepth E M q (len d) =
    ((w : List ℕ) × Leads E M M.start q w × (size E w ≡ d)) × ((w : List ℕ) → Leads E M M.start q w → size E w ≤ d)
IsDepth E M q endless = (c : ℕ) → (w : List ℕ) × Leads E M M.start q w × (c ≤ size E w)
