-- Tables one after another: laid out and read back.
use mathlib.Core.Path.{◌≡◌, refl, sym, ap, ap₂, ◌∙◌}
use mathlib.Core.List.{List, [], ◌∷◌, ◌++◌}
use Prim.Native.Nat.{ℕ, ◌+◌, ◌*◌, ◌%◌}
use native.Mathlib.Omega.{arith}
use lib.ListN.{length, take, drop, length-append, length-drop, take-append-drop}
use lib.Seq.{take_at, drop_at}
use Rattle.tables.specs.Table.{Table, mark_byte_count}
use Rattle.packs.specs.Pack.{tables_in, list_of, cells_of, marks_of, total, cells_needed, marks_needed, Every}

-- A table with as many cells and mark bytes as it says.
pub record Laid (T : Table) : Type 0 where
  pub all_cells : length T.cells ≡ T.rows * T.events
  pub all_marks : length T.marks ≡ mark_byte_count T.rows

pub list_length : (l : List Table) → length (list_of l) ≡ 3 * length l
unfolding list_of
list_length [] = refl
list_length (T ∷ l) = omega (arith, list_length l)

pub cells_length : (l : List Table) → Every Laid l → length (cells_of l) ≡ cells_needed (list_of l)
unfolding list_of cells_of total
cells_length [] h = refl
cells_length (T ∷ l) (t, h) = length-append T.cells (cells_of l) ∙ ap₂ ◌+◌ t.all_cells (cells_length l h)

pub marks_length : (l : List Table) → Every Laid l → length (marks_of l) ≡ marks_needed (list_of l)
unfolding list_of marks_of total
marks_length [] h = refl
marks_length (T ∷ l) (t, h) = length-append T.marks (marks_of l) ∙ ap₂ ◌+◌ t.all_marks (marks_length l h)

-- Laid out, they are found again.
pub tables_back : (l : List Table) → Every Laid l → tables_in (list_of l) (cells_of l) (marks_of l) ≡ l
unfolding tables_in list_of cells_of marks_of
tables_back [] h = refl
tables_back (T ∷ l) (t, h) = rw (
  take_at T.cells (cells_of l) (T.rows * T.events) t.all_cells,
  take_at T.marks (marks_of l) (mark_byte_count T.rows) t.all_marks,
  drop_at T.cells (cells_of l) (T.rows * T.events) t.all_cells,
  drop_at T.marks (marks_of l) (mark_byte_count T.rows) t.all_marks,
  tables_back l h,
)

-- What is found is what lies there.
pub list_back : (l cells marks : List ℕ) → length l % 3 ≡ 0 → list_of (tables_in l cells marks) ≡ l
unfolding tables_in list_of
list_back (x ∷ y ∷ z ∷ l) cells marks h = ap (λ (m : List ℕ). x ∷ y ∷ z ∷ m) (list_back l (drop (x * y) cells) (drop (mark_byte_count x) marks) (omega arith))
list_back [] cells marks h = refl
list_back (x ∷ []) cells marks h = absurd (omega arith)
list_back (x ∷ y ∷ []) cells marks h = absurd (omega arith)

no_more : (d : List ℕ) → length d ≡ 0 → [] ≡ d
no_more [] h = refl
no_more (x ∷ d) h = absurd (omega arith)

pub cells_back : (l cells marks : List ℕ) → length cells ≡ cells_needed l → cells_of (tables_in l cells marks) ≡ cells
unfolding tables_in cells_of total
cells_back (x ∷ y ∷ z ∷ l) cells marks h =
    ap (λ (m : List ℕ). take (x * y) cells ++ m) (cells_back l (drop (x * y) cells) (drop (mark_byte_count x) marks) (omega (arith, length-drop (x * y) cells))) ∙ take-append-drop (x * y) cells
cells_back [] cells marks h = no_more cells h
cells_back (x ∷ []) cells marks h = no_more cells h
cells_back (x ∷ y ∷ []) cells marks h = no_more cells h

pub marks_back : (l cells marks : List ℕ) → length marks ≡ marks_needed l → marks_of (tables_in l cells marks) ≡ marks
unfolding tables_in marks_of total
marks_back (x ∷ y ∷ z ∷ l) cells marks h =
    ap (λ (m : List ℕ). take (mark_byte_count x) marks ++ m) (marks_back l (drop (x * y) cells) (drop (mark_byte_count x) marks) (omega (arith, length-drop (mark_byte_count x) marks))) ∙ take-append-drop (mark_byte_count x) marks
marks_back [] cells marks h = no_more marks h
marks_back (x ∷ []) cells marks h = no_more marks h
marks_back (x ∷ y ∷ []) cells marks h = no_more marks h

pub tables-count : (l cells marks : List ℕ) → length l % 3 ≡ 0 → 3 * length (tables_in l cells marks) ≡ length l
tables-count l cells marks h = sym (list_length (tables_in l cells marks)) ∙ ap length (list_back l cells marks h)
