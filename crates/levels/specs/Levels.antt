-- At which offsets a row is kept: by its depth, and by its least distance from the rows before it in the order.
use Rattle.std.specs.Prelude.{Bool, true, false, ◌&&◌, ◌||◌, cond, List, [], ◌∷◌, ℕ, zero, suc, ◌+◌, ◌*◌, ◌-◌, min, ltb, get_or, take}
use Rattle.automata.specs.Runs.{Events, Machine, Len, len, endless}
use Rattle.tables.specs.Lengths.{distance, lead, depth, reached}
use Rattle.tables.specs.Table.{Offset, offset, none}
use Rattle.tables.specs.Lists.{place}
use Rattle.tables.specs.Reduction.{same_len, order}

-- ---- lengths

-- The level at which a row of the given depth is compared at offset k: what the depth leaves of the offset.
abbrev pub need : ℕ → Len → ℕ
need k (len d) = k - d
need k endless = 0

-- The same by the row's lead, which is one more than its depth.
abbrev pub need_by : ℕ → Len → ℕ
need_by k (len c) = suc k - c
need_by k endless = 0

-- An offset as a number, of n rows: none is taken as twice the rows.
abbrev pub far : ℕ → Offset → ℕ
far n (offset k) = k
far n none = 2 * n

-- The shorter of two lengths.
abbrev pub shorter : Len → Len → Len
shorter (len a) (len b) = len (min a b)
shorter (len a) endless = len a
shorter endless b = b

-- The first length is longer.
abbrev pub longer : Len → Len → Bool
longer (len a) (len b) = ltb b a
longer endless (len b) = true
longer x endless = false

-- The first offset at which a row of depth d is not kept, where m is its least distance from the rows before it; endless if it always is.
abbrev pub till : Len → Len → Len
till (len zero) d = len 0
till (len (suc m)) (len d) = len (suc m + d)
till (len (suc m)) endless = endless
till endless d = endless

-- k is below the length.
abbrev pub under : ℕ → Len → Bool
under k (len t) = ltb k t
under k endless = true

module _ (E : Events) (M : Machine) where
  -- ---- by the order

  -- The row at place i of the order.
  abbrev pub row_at : ℕ → ℕ
  row_at i = get_or (order E M) i 0

  -- The level that row q needs at offset k.
  abbrev pub need_at : ℕ → ℕ → ℕ
  need_at k q = need k (depth E M q)

  -- The least distance of q from a row of the list; endless if there is none.
  unfoldable pub nearest : ℕ → List ℕ → Len
  nearest q [] = endless
  nearest q (p ∷ l) = shorter (distance E M q p) (nearest q l)

  -- The rows before q in the order.
  unfoldable pub before : ℕ → List ℕ
  before q = take (place q (order E M)) (order E M)

  -- The least distance of q from a row before it in the order; endless if there is none.
  unfoldable pub apart : ℕ → Len
  apart q = nearest q (before q)

  -- The first offset at which q is not kept; endless if it always is. An unreached row is not kept at any.
  unfoldable pub goes : ℕ → Len
  goes q = cond (reached E M q) (till (apart q) (depth E M q)) (len 0)

  -- ---- without the order

  -- p comes before q in the order: by their leads, which are one more than the depths and 0 for an unreached row.
  unfoldable pub ahead : ℕ → ℕ → Bool
  ahead q p = longer (lead E M p) (lead E M q) || (same_len (lead E M p) (lead E M q) && ltb p q)

  -- The least distance of q from one of the rows below m that passes the test; endless if there is none.
  unfoldable pub nearest_of : ℕ → (ℕ → Bool) → ℕ → Len
  nearest_of q f zero = endless
  nearest_of q f (suc m) = cond (f m) (shorter (nearest_of q f m) (distance E M q m)) (nearest_of q f m)
