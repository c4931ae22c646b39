-- "The rules of reduction", in document 01's order.
use Rattle.std.specs.Prelude.{Bool, true, false, ◌&&◌, ◌||◌, List, [], ◌∷◌, ◌++◌, map, ℕ, zero, suc, ◌+◌, ◌*◌, ◌/◌, ◌%◌, min, eqb, leb, length, get_or}
use Rattle.automata.specs.Runs.{Events, Machine, Len, len, endless}
use Rattle.tables.specs.Lengths.{distance, depth, reached}
use Rattle.tables.specs.Table.{Table, Offset, offset, none, machine, events_of, pack}
use Rattle.tables.specs.Lists.{tabulate, filter, some, first, place, sift}

-- A depth as a number: an endless one is replaced by k.
abbrev pub replaced : ℕ → Len → ℕ
replaced k (len d) = d
replaced k endless = k

-- The length is not endless.
abbrev pub finite : Len → Bool
finite (len d) = true
finite endless = false

-- "Similar", of rows at the given distance and of depths d and e.
unfoldable pub similar_by : Offset → Len → Len → Len → Bool
similar_by (offset k) (len L) d e = leb (L + min k (min (replaced k d) (replaced k e))) k
similar_by (offset k) endless d e = false
similar_by none (len L) d e = eqb L 0 || (finite d || finite e)
similar_by none endless d e = false

-- Two lengths are equal.
abbrev pub same_len : Len → Len → Bool
same_len (len d) (len e) = eqb d e
same_len (len d) endless = false
same_len endless (len e) = false
same_len endless endless = true

-- What becomes of a given row: kept as a new row, folded into a given row, or unreached.
pub data Fate : Type 0 where
  kept_as : ℕ → Fate
  folded_into : ℕ → Fate
  unreached : Fate

-- A row's record.
pub record Record : Type 0 where
  pub depth : Len
  pub fate : Fate

module _ (E : Events) (M : Machine) where
  -- The reached rows of depth d, lower numbers first.
  unfoldable pub level : Len → List ℕ
  level d = filter (λ q. reached E M q && same_len (depth E M q) d) (tabulate M.rows (λ q. q))

  -- The levels below d, the deepest first.
  unfoldable pub levels : ℕ → List ℕ
  levels zero = []
  levels (suc d) = level (len d) ++ levels d

  -- The reached rows by falling depth, endless first, equal depths by lower row number.
  unfoldable pub order : List ℕ
  order = level endless ++ levels M.rows

  module _ (k : Offset) where
    -- Whether rows q and p are similar.
    unfoldable pub similar : ℕ → ℕ → Bool
    similar q p = similar_by k (distance E M q p) (depth E M q) (depth E M p)

    -- Each row in turn is kept if it is similar to no row kept so far.
    unfoldable pub kept : List ℕ
    kept = sift similar [] order

    -- Otherwise it folds into the first kept row to which it is similar; a kept row is its own.
    unfoldable pub fold : ℕ → ℕ
    fold q = first (similar q) q kept

-- The new numbers, of a machine over so many events, where f gives the kept row into which a row folds. Breadth-first order takes all events, counted or not.
module _ (events : ℕ) (M : Machine) (f : ℕ → ℕ) where
  -- The rows met from the start, breadth first and lower events first, once the first i of them have been gone through.
  unfoldable pub met : ℕ → List ℕ
  met zero = f M.start ∷ []
  met (suc i) =
      let l = met i in
      sift eqb l (tabulate events (λ a. f (M.target (get_or l i (f M.start)) a)))

  -- The kept rows in the order of their new numbers.
  unfoldable pub numbering : List ℕ
  numbering = met M.rows

  -- The new number of the row into which q folds.
  unfoldable pub number : ℕ → ℕ
  number q = place (f q) numbering

  -- The kept rows with their own marks, each target replaced by the row into which it folds. The new start is 0.
  unfoldable pub renumbered : Table
  renumbered =
      let l = numbering in
      record {
        rows = length l;
        events = events;
        start = 0;
        cells = tabulate (length l * events) (λ c. number (M.target (get_or l (c / events) 0) (c % events)));
        marks = pack (map M.mark l);
      }

-- What becomes of a row that is reached or not, and kept or not; i is its new number, p the row into which it folds.
abbrev pub fate_by : Bool → Bool → ℕ → ℕ → Fate
fate_by false keeps i p = unreached
fate_by true true i p = kept_as i
fate_by true false i p = folded_into p

-- The fate of row q.
unfoldable pub fate_of : Events → Machine → Offset → ℕ → Fate
fate_of E M k q = fate_by (reached E M q) (some (eqb q) (kept E M k)) (number E.count M (fold E M k) q) (fold E M k q)

-- The reduced table.
unfoldable pub reduced : (ℕ → ℕ) → Offset → Table → Table
reduced weight k T = renumbered T.events (machine T) (fold (events_of weight T) (machine T) k)

-- The records of the given rows.
unfoldable pub records : (ℕ → ℕ) → Offset → Table → List Record
records weight k T = tabulate T.rows (λ q. record { depth = depth (events_of weight T) (machine T) q; fate = fate_of (events_of weight T) (machine T) k q })
