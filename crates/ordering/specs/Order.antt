-- "Tables put in order": two tables are compared by the shortest run after which their marks differ, lowest events first.
use Rattle.std.specs.Prelude.{◌≡◌, List, ◌⊎◌, Bool, true, false, ℕ, zero, suc, ◌+◌, ◌<◌, ltb, length}
use Rattle.automata.specs.Runs.{Events, Machine, Run, after, shows}
use Rattle.tables.specs.Table.{Table, machine, events_of}
use Rattle.chosen.specs.Choice.{Lower}
use Rattle.ordering.specs.declared.Order.{Order}
use Rattle.ordering.specs.declared.Order.TheVariants.{First, Equal, Second}

-- v comes before w: the shorter run first, and of equally long ones the one with lower events. Every event counts.
abbrev pub Sooner : List ℕ → List ℕ → Type 0
Sooner v w = (length v < length w) ⊎ ((length v ≡ length w) × Lower v w)

-- Begun at row q of M and at row p of N, the marks after v are equal.
abbrev pub SameMarks : Machine → Machine → ℕ → ℕ → List ℕ → Type 0
SameMarks M N q p v = M.mark (after M q v) ≡ N.mark (after N p v)

-- w is "the shortest run after which their marks differ, lowest events first".
pub record FirstDifference (E : Events) (M N : Machine) (q p : ℕ) (w : List ℕ) : Type 0 where
  pub run : Run E w
  pub differ : ¬ SameMarks M N q p w
  pub before : (v : List ℕ) → Run E v → Sooner v w → SameMarks M N q p v

-- M comes before N: after that run it shows the lower mark. Wait is 0, so "the one showing wait comes first".
pub record Before (E : Events) (M N : Machine) : Type 0 where
  pub by : List ℕ
  pub first : FirstDifference E M N M.start N.start by
  pub lower : shows M by < shows N by

-- The order "takes every event as counted".
abbrev pub all_events : Table → Events
all_events T = events_of (λ a. 1) T

-- Table T comes before table U, over the same number of events.
abbrev pub ComesBefore : Table → Table → Type 0
ComesBefore T U = Before (all_events T) (machine T) (machine U)

-- "No run tells them apart."
abbrev pub Alike : Table → Table → Type 0
Alike T U = (w : List ℕ) → Run (all_events T) w → shows (machine T) w ≡ shows (machine U) w

-- ---- the same as a function that computes

-- The lower mark first.
abbrev by_tests : Bool → Bool → Order
by_tests true g = First
by_tests false true = Second
by_tests false false = Equal

unfoldable pub by_marks : ℕ → ℕ → Order
by_marks x y = by_tests (ltb x y) (ltb y x)

-- What x says, and if it is that they are equal what y says.
abbrev pub or_else : Order → Order → Order
or_else First y = First
or_else Equal y = y
or_else Second y = Second

-- The first of f 0, .. f (n - 1) that is not equal.
unfoldable pub first_told : ℕ → (ℕ → Order) → Order
first_told zero f = Equal
first_told (suc n) f = or_else (first_told n f) (f n)

module _ (E : Events) (M N : Machine) where
  -- What the runs of n events say of rows q and p: the first that tells them apart, lower events first.
  unfoldable pub compared_at : ℕ → ℕ → ℕ → Order
  compared_at zero q p = by_marks (M.mark q) (N.mark p)
  compared_at (suc n) q p = first_told E.count (λ a. compared_at n (M.target q a) (N.target p a))

  -- What the runs say, shorter ones first; those with fewer events than there are rows together are enough.
  unfoldable pub compared_rows : ℕ → ℕ → Order
  compared_rows q p = first_told (M.rows + N.rows) (λ n. compared_at n q p)

-- The order of two tables over the same number of events.
unfoldable pub comparison : Table → Table → Order
comparison T U = compared_rows (all_events T) (machine T) (machine U) T.start U.start
