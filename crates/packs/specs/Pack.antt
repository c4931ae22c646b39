-- "Packs sent by radio": tables one after another in lent buffers, and the bytes of a pack.
use Rattle.std.specs.Prelude.{List, [], ◌∷◌, ◌++◌, ℕ, ◌+◌, ◌*◌, length, take, drop}
use Rattle.tables.specs.Table.{Table, Valid, mark_byte_count}
use Rattle.rules.specs.Rules.{Verdict, rule, outside, table_of}
use Rattle.rules.specs.declared.Rule.TheVariants.{Pack}
use Rattle.images.specs.Image.{number, radio_image, length_of_image, Fits}
use Rattle.images.specs.declared.Form.TheVariants.{Radio}

-- ---- tables one after another

-- Rows, events and start of each table stand in a list, three entries a table; its targets and its mark bytes behind those of the tables before it.
unfoldable pub tables_in : List ℕ → List ℕ → List ℕ → List Table
tables_in (rows ∷ events ∷ start ∷ l) cells marks =
    table_of rows events start (take (rows * events) cells) (take (mark_byte_count rows) marks) ∷ tables_in l (drop (rows * events) cells) (drop (mark_byte_count rows) marks)
tables_in [] cells marks = []
tables_in (rows ∷ []) cells marks = []
tables_in (rows ∷ events ∷ []) cells marks = []

-- The list, the targets and the mark bytes of tables.
unfoldable pub list_of : List Table → List ℕ
list_of [] = []
list_of (T ∷ l) = T.rows ∷ T.events ∷ T.start ∷ list_of l

unfoldable pub cells_of : List Table → List ℕ
cells_of [] = []
cells_of (T ∷ l) = T.cells ++ cells_of l

unfoldable pub marks_of : List Table → List ℕ
marks_of [] = []
marks_of (T ∷ l) = T.marks ++ marks_of l

-- The sum of f rows events over the tables of a list.
unfoldable pub total : (ℕ → ℕ → ℕ) → List ℕ → ℕ
total f (rows ∷ events ∷ start ∷ l) = f rows events + total f l
total f [] = 0
total f (rows ∷ []) = 0
total f (rows ∷ events ∷ []) = 0

-- How many cells and mark bytes the tables of a list have together.
abbrev pub cells_needed : List ℕ → ℕ
cells_needed list = total (λ rows events. rows * events) list

abbrev pub marks_needed : List ℕ → ℕ
marks_needed list = total (λ rows events. mark_byte_count rows) list

-- ---- the bytes of a pack

-- Radio images, each from the byte where the one before it ends.
unfoldable pub radio_images : List Table → List ℕ
radio_images [] = []
radio_images (T ∷ l) = radio_image T ++ radio_images l

-- Their count, and then the images.
abbrev pub pack : List Table → List ℕ
pack l = number (length l) ++ radio_images l

-- How many bytes the pack of a list's tables has.
abbrev pub pack_length : List ℕ → ℕ
pack_length list = 2 + total (length_of_image Radio) list

-- 15: the count is 0 or above 16.
abbrev pub count_rule : ℕ → Verdict
count_rule count = rule Pack (outside 16 count) 0

-- ---- what can be sent

-- What holds of every table.
abbrev pub Every : (Table → Type 0) → List Table → Type 0
Every P [] = Unit {0}
Every P (T ∷ l) = P T × Every P l

-- A radio image has a valid table, no step of which is too far.
abbrev pub Sendable : Table → Type 0
Sendable T = Valid T × Fits Radio T
