-- "Image of a table": its bytes, and what stands where in them. Its form says how targets stand in it.
use Rattle.std.specs.Prelude.{◌≡◌, Bool, true, false, List, [], ◌∷◌, ◌++◌, ℕ, suc, ◌+◌, ◌*◌, ◌/◌, ◌%◌, ◌<◌, length, get_or, take, drop, Option, Some, None, ℤ}
use Rattle.steps.specs.Steps.{step_of, byte_of_step, step_of_byte, landing}
use Rattle.tables.specs.Table.{Table, mark_byte_count}
use Rattle.tables.specs.Lists.{tabulate}
use Rattle.rules.specs.Rules.{table_of}
use Rattle.images.specs.declared.Form.{Form}
use Rattle.images.specs.declared.Form.TheVariants.{Plain, Radio}

-- Counts and numbers are 16 bits, low byte first.
abbrev pub number : ℕ → List ℕ
number n = n % 256 ∷ n / 256 % 256 ∷ []

-- The number at a place.
abbrev pub number_at : List ℕ → ℕ → ℕ
number_at b at = get_or b at 0 + 256 * get_or b (at + 1) 0

-- ---- one target

-- How many bytes it has: a number's, or one signed byte's.
abbrev pub width : Form → ℕ
width Plain = 2
width Radio = 1

-- A step that is too far has no byte.
abbrev pub step_bytes : Option ℤ → List ℕ
step_bytes (Some d) = byte_of_step d ∷ []
step_bytes None = []

-- Its bytes, in a row: the number, or the step from the row to it.
abbrev pub target_bytes : Form → ℕ → ℕ → List ℕ
target_bytes Plain row target = number target
target_bytes Radio row target = step_bytes (step_of row target)

-- The target of a row that stands at a place: the number, or the row to which the step leads.
abbrev pub target_at : Form → List ℕ → ℕ → ℕ → ℕ
target_at Plain b row at = number_at b at
target_at Radio b row at = landing row (step_of_byte (get_or b at 0))

-- ---- the bytes of a table

-- The bytes f i x of each member x in its place i, one after the other.
unfoldable pub section : (ℕ → ℕ → List ℕ) → List ℕ → List ℕ
section f [] = []
section f (x ∷ l) = f 0 x ++ section (λ i. f (suc i)) l

-- The targets, row by row: cell i belongs to row i / events.
abbrev pub targets : Form → ℕ → List ℕ → List ℕ
targets F events cells = section (λ i x. target_bytes F (i / events) x) cells

-- Marks, targets and start, each after its count.
unfoldable pub image_of : Form → Table → List ℕ
image_of F T = number T.rows ++ T.marks ++ number (T.rows * T.events) ++ targets F T.events T.cells ++ number 1 ++ number T.start

-- Document 01's image; #102's radio image.
abbrev pub image : Table → List ℕ
image T = image_of Plain T

abbrev pub radio_image : Table → List ℕ
radio_image T = image_of Radio T

abbrev pub length_of_image : Form → ℕ → ℕ → ℕ
length_of_image F rows events = mark_byte_count rows + width F * (rows * events) + 8

-- A radio image is made of tables whose steps fit: no step is too far.
abbrev pub far : Option ℤ → Bool
far (Some d) = false
far None = true

abbrev pub too_far : Form → ℕ → ℕ → Bool
too_far Plain row target = false
too_far Radio row target = far (step_of row target)

abbrev pub Fits : Form → Table → Type 0
Fits F T = (i : ℕ) → i < length T.cells → too_far F (i / T.events) (get_or T.cells i 0) ≡ false

-- ---- what stands where

-- The targets from a place on.
abbrev pub cells_at : Form → List ℕ → ℕ → ℕ → ℕ → List ℕ
cells_at F b events at n = tabulate n (λ i. target_at F b (i / events) (at + width F * i))

-- Where the targets section and the start section begin, and where the image ends.
abbrev pub targets_at : ℕ → ℕ
targets_at rows = 2 + mark_byte_count rows

abbrev pub start_at : Form → ℕ → ℕ → ℕ
start_at F rows count = targets_at rows + 2 + width F * count

abbrev pub end_at : Form → ℕ → ℕ → ℕ
end_at F rows count = start_at F rows count + 2 + 2

-- The mark bytes and the targets of an accepted image.
abbrev pub marks_of : List ℕ → ℕ → List ℕ
marks_of b rows = take (mark_byte_count rows) (drop 2 b)

abbrev pub cells_of : Form → List ℕ → ℕ → ℕ → List ℕ
cells_of F b rows events = cells_at F b events (targets_at rows + 2) (rows * events)

-- The table of an accepted image.
abbrev pub table_as : Form → List ℕ → ℕ → ℕ → ℕ → Table
table_as F b rows events start = table_of rows events start (cells_of F b rows events) (marks_of b rows)

abbrev pub table_in : List ℕ → ℕ → ℕ → ℕ → Table
table_in b rows events start = table_as Plain b rows events start
