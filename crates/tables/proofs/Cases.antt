-- Document 01's "Tables to try", the ten bold cases, and document 02's case of idle events (#104) as one table, and what computing the definitions says of them.
use mathlib.Core.Path.{◌≡◌, refl}
use mathlib.Core.List.{List, [], ◌∷◌}
use mathlib.Core.Option.{Option, some as stated, none as unstated}
use Prim.Native.Nat.{ℕ, zero, suc, ◌*◌, ◌<◌}
use native.Mathlib.Omega.{arith}
use Rattle.automata.specs.Runs.{Len, len, endless}
use Rattle.automata.specs.Nearness.{every, rounds, near}
use Rattle.tables.specs.Lengths.{least, distance, lead, reached, depth}
use Rattle.tables.specs.Table.{Table, Offset, offset, none, machine, events_of, weight_by, pack, digits}
use Rattle.tables.specs.Lists.{tabulate, filter, some, first, position, sift}
use Rattle.tables.specs.Reduction.{Record, kept_as, folded_into, unreached, similar_by, level, levels, order, similar, kept, fold, met, numbering, number, renumbered, fate_of, reduced, records}

-- The offsets that a case speaks of: one, or every offset and none.
pub data When : Type 0 where
  at : Offset → When
  always : When

-- Two rows and their distance.
pub record Apart : Type 0 where
  pub row : ℕ
  pub other : ℕ
  pub by : Len

pub record Case : Type 0 where
  pub given_table : Table
  -- Which of its events count.
  pub mask : ℕ
  pub when : When
  pub new_table : Table
  -- Where document 01 gives them.
  pub fates : Option (List Record)
  pub distances : List Apart

-- The records are those that are stated, if any are.
abbrev pub Recorded : Option (List Record) → List Record → Type 0
Recorded unstated l = Unit {0}
Recorded (stated m) l = l ≡ m

-- The distances are those that are stated.
abbrev pub Measured : ℕ → Table → List Apart → Type 0
Measured mask T [] = Unit {0}
Measured mask T (x ∷ l) = (distance (events_of (weight_by mask) T) (machine T) x.row x.other ≡ x.by) × Measured mask T l

-- The case holds at the offset.
abbrev pub Holds : Case → Offset → Type 0
Holds c k =
    (reduced (weight_by c.mask) k c.given_table ≡ c.new_table)
    × Recorded c.fates (records (weight_by c.mask) k c.given_table)
    × Measured c.mask c.given_table c.distances

-- ---- the table

-- A table of one event that starts at row 0, and one of two events.
abbrev line : (rows : ℕ) (cells marks : List ℕ) → Table
line rows cells marks = record { rows = rows; events = 1; start = 0; cells = cells; marks = marks }

abbrev line2 : (rows start : ℕ) (cells marks : List ℕ) → Table
line2 rows start cells marks = record { rows = rows; events = 2; start = start; cells = cells; marks = marks }

abbrev pub A : Table
A = line 3 (1 ∷ 2 ∷ 2 ∷ []) (1 ∷ [])

abbrev B : Table
B = line2 3 0 (1 ∷ 2 ∷ 0 ∷ 0 ∷ 0 ∷ 0 ∷ []) (2 ∷ [])

abbrev pub C : Table
C = line 4 (1 ∷ 2 ∷ 3 ∷ 3 ∷ []) (2 ∷ [])

abbrev D : Table
D = line2 4 3 (1 ∷ 2 ∷ 0 ∷ 0 ∷ 0 ∷ 0 ∷ 0 ∷ 0 ∷ []) (2 ∷ [])

abbrev E : Table
E = line2 1 0 (0 ∷ 0 ∷ []) (0 ∷ [])

abbrev F : Table
F = line 2 (0 ∷ 0 ∷ []) (2 ∷ [])

-- One waiting row, and one ready row.
abbrev waiting : Table
waiting = line 1 (0 ∷ []) (0 ∷ [])

abbrev ready : Table
ready = line 1 (0 ∷ []) (1 ∷ [])

-- Masks of one event and of two, all counted.
abbrev one : ℕ
one = 1

abbrev both : ℕ
both = 3

abbrev pub cases : List Case
cases =
    -- A0, A1, An
    record {
      given_table = A;
      mask = one;
      when = at (offset 0);
      new_table = line 2 (1 ∷ 1 ∷ []) (1 ∷ []);
      fates = stated (record { depth = len 0; fate = kept_as 0 } ∷ record { depth = len 1; fate = folded_into 2 } ∷ record { depth = endless; fate = kept_as 1 } ∷ []);
      distances = [];
    }
    ∷ record { given_table = A; mask = one; when = at (offset 1); new_table = waiting; fates = unstated; distances = [] }
    ∷ record { given_table = A; mask = one; when = at none; new_table = waiting; fates = unstated; distances = [] }
    -- B
    ∷ record {
      given_table = B;
      mask = both;
      when = always;
      new_table = B;
      fates = stated (record { depth = endless; fate = kept_as 0 } ∷ record { depth = endless; fate = kept_as 1 } ∷ record { depth = endless; fate = kept_as 2 } ∷ []);
      distances = record { row = 1; other = 2; by = len 1 } ∷ [];
    }
    -- C1, C2
    ∷ record { given_table = C; mask = one; when = at (offset 1); new_table = line 3 (1 ∷ 2 ∷ 2 ∷ []) (2 ∷ []); fates = unstated; distances = [] }
    ∷ record { given_table = C; mask = one; when = at (offset 2); new_table = waiting; fates = unstated; distances = [] }
    -- D0, D1
    ∷ record {
      given_table = D;
      mask = both;
      when = at (offset 0);
      new_table = line2 3 0 (1 ∷ 1 ∷ 2 ∷ 0 ∷ 1 ∷ 1 ∷ []) (4 ∷ []);
      fates = stated (record { depth = endless; fate = kept_as 1 } ∷ record { depth = endless; fate = kept_as 2 } ∷ record { depth = endless; fate = kept_as 0 } ∷ record { depth = len 0; fate = folded_into 2 } ∷ []);
      distances = [];
    }
    ∷ record {
      given_table = D;
      mask = both;
      when = at (offset 1);
      new_table = line2 3 0 (1 ∷ 1 ∷ 0 ∷ 2 ∷ 1 ∷ 1 ∷ []) (1 ∷ []);
      fates = stated (record { depth = endless; fate = kept_as 1 } ∷ record { depth = endless; fate = kept_as 0 } ∷ record { depth = endless; fate = kept_as 2 } ∷ record { depth = len 0; fate = folded_into 1 } ∷ []);
      distances = [];
    }
    -- E, F
    ∷ record { given_table = E; mask = both; when = always; new_table = E; fates = unstated; distances = [] }
    ∷ record {
      given_table = F;
      mask = one;
      when = always;
      new_table = waiting;
      fates = stated (record { depth = endless; fate = kept_as 0 } ∷ record { depth = len 0; fate = unreached } ∷ []);
      distances = [];
    }
    -- "With none counted, A at offset 1 gives one ready row."
    ∷ record { given_table = A; mask = 0; when = at (offset 1); new_table = ready; fates = unstated; distances = [] }
    ∷ []

-- ---- what is computed

abbrev pub All : (Case → Type 0) → List Case → Type 0
All P [] = Unit {0}
All P (c ∷ l) = P c × All P l

-- The case holds at every offset below n.
abbrev pub Below : Case → ℕ → Type 0
Below c zero = Unit {0}
Below c (suc n) = Holds c (offset n) × Below c n

-- What is computed of a case: its one offset, or none and every offset below twice the rows.
abbrev pub Computed : Case → When → Type 0
Computed c (at k) = Holds c k
Computed c always = (0 < c.given_table.rows) × Holds c none × Below c (2 * c.given_table.rows)

infixr 20 ◌and◌
◌and◌ : {A B : Type 0} → A → B → A × B
a and b = (a, b)

pub computed : All (λ c. Computed c c.when) cases
unfolding every least rounds near distance lead reached depth pack digits tabulate filter some first position sift similar_by level levels order similar kept fold met numbering number renumbered fate_of reduced records
computed =
    -- A0, A1, An
    (refl, refl, tt) and (refl, tt, tt) and (refl, tt, tt)
    -- B: none, then offsets 5 down to 0
    and (omega arith, (refl, refl, refl and tt), (refl, refl, refl and tt) and (refl, refl, refl and tt) and (refl, refl, refl and tt) and (refl, refl, refl and tt) and (refl, refl, refl and tt) and (refl, refl, refl and tt) and tt)
    -- C1, C2, D0, D1
    and (refl, tt, tt) and (refl, tt, tt) and (refl, refl, tt) and (refl, refl, tt)
    -- E, F
    and (omega arith, (refl, tt, tt), (refl, tt, tt) and (refl, tt, tt) and tt)
    and (omega arith, (refl, refl, tt), (refl, refl, tt) and (refl, refl, tt) and (refl, refl, tt) and (refl, refl, tt) and tt)
    -- A with none counted
    and (refl, tt, tt)
    and tt
