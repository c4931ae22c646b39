-- A few orders, computed.
use mathlib.Core.Path.{◌≡◌, refl}
use mathlib.Core.List.{List, [], ◌∷◌}
use Prim.Native.Nat.{ℕ}
use Rattle.tables.specs.Table.{Table}
use Rattle.ordering.specs.Order.{by_marks, first_told, compared_at, compared_rows, comparison}
use Rattle.ordering.specs.declared.Order.TheVariants.{First, Equal, Second}

abbrev table : (rows events start : ℕ) (cells marks : List ℕ) → Table
table rows events start cells marks = record { rows = rows; events = events; start = start; cells = cells; marks = marks }

-- One event: ready at first, and then waiting; waiting always; ready after one event, and then waiting.
abbrev A : Table
A = table 3 1 0 (1 ∷ 2 ∷ 2 ∷ []) (1 ∷ [])

abbrev Never : Table
Never = table 1 1 0 (0 ∷ []) (0 ∷ [])

abbrev C : Table
C = table 4 1 0 (1 ∷ 2 ∷ 3 ∷ 3 ∷ []) (2 ∷ [])

-- Two events: ready just after event 0, just after event 1, and just after events 1 0.
abbrev Zero : Table
Zero = table 3 2 0 (1 ∷ 2 ∷ 2 ∷ 2 ∷ 2 ∷ 2 ∷ []) (2 ∷ [])

abbrev One : Table
One = table 3 2 0 (2 ∷ 1 ∷ 2 ∷ 2 ∷ 2 ∷ 2 ∷ []) (2 ∷ [])

abbrev OneZero : Table
OneZero = table 4 2 0 (3 ∷ 1 ∷ 2 ∷ 3 ∷ 3 ∷ 3 ∷ 3 ∷ 3 ∷ []) (4 ∷ [])

pub computed : (comparison Never C ≡ First) × (comparison C A ≡ First) × (comparison A Never ≡ Second) × (comparison Never (table 2 1 1 (1 ∷ 0 ∷ []) (0 ∷ [])) ≡ Equal)
    × (comparison One Zero ≡ First) × (comparison OneZero One ≡ First) × (comparison Zero OneZero ≡ Second) × (comparison One One ≡ Equal)
unfolding by_marks first_told compared_at compared_rows comparison
computed = (refl, refl, refl, refl, refl, refl, refl, refl)
