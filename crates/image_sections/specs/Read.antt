-- What an image is checked for, in order, and what it says.
use Rattle.std.specs.Prelude.{Bool, true, false, not, List, [], ◌∷◌, ℕ, ◌+◌, ◌/◌, ◌%◌, eqb, leb, ltb, length, get_or, Result, Ok}
use Rattle.tables.specs.Lists.{position}
use Rattle.rules.specs.Rules.{Verdict, sound, rule, judged, rows_rule, events_rule, row_rule, spare_rule}
use Rattle.rules.specs.declared.Limits.{Limits}
use Rattle.rules.specs.declared.Rule.TheVariants.{Target, Large, Trailing, Count}
use Rattle.rules.specs.declared.Refusal.{Refusal}
use Rattle.images.specs.Image.{number_at, cells_at, targets_at, start_at, end_at}
use Rattle.images.specs.declared.Form.{Form}
use Rattle.images.specs.declared.Form.TheVariants.{Plain}
use Rattle.image_numbers.specs.Numbers.{cut_rule, checked}
use Rattle.image_sections.specs.declared.Shape.{Shape}

-- The rows, events and start of a table.
abbrev pub shape : ℕ → ℕ → ℕ → Shape
shape rows events start = record { rows = rows; events = events; start = start }

-- What an image says: the shape of its table, or a refusal.
abbrev pub Read : Type 0
Read = Result Shape Refusal

-- A target is no row; place: the first such.
abbrev pub targets_rule : Form → List ℕ → ℕ → ℕ → ℕ → Verdict
targets_rule F b rows at count =
    let p = position (leb rows) (cells_at F b (count / rows) at count) in
    rule Target (ltb p count) p

-- What a reader asks of the row count besides the limits: document 01's reader nothing more, `reduce` 12 for rows above a smaller number.
abbrev pub any_rows : ℕ → Verdict
any_rows rows = sound

abbrev pub at_most : ℕ → ℕ → Verdict
at_most small rows = rule Large (ltb small rows) 0

-- 10: bytes follow the last section. It is asked of an image that stands alone, and not of one in a pack.
abbrev pub end_checks : Bool → List ℕ → ℕ → List Verdict
end_checks true b end = rule Trailing (ltb end (length b)) 0 ∷ []
end_checks false b end = []

-- The checks in the order of the image, of the row count, target count, start count and start that stand in it.
abbrev pub read_checks : Bool → Form → Limits → (ℕ → Verdict) → List ℕ → ℕ → ℕ → ℕ → ℕ → List Verdict
read_checks alone F L few b rows count one start =
    cut_rule b 2
    ∷ rows_rule L rows
    ∷ few rows
    ∷ cut_rule b (targets_at rows)
    ∷ spare_rule rows (get_or b (2 + rows / 8) 0)
    ∷ cut_rule b (targets_at rows + 2)
    ∷ rule Count (not (eqb (count % rows) 0)) 0
    ∷ events_rule L (count / rows)
    ∷ cut_rule b (start_at F rows count)
    ∷ targets_rule F b rows (targets_at rows + 2) count
    ∷ cut_rule b (start_at F rows count + 2)
    ∷ rule Count (not (eqb one 1)) 0
    ∷ cut_rule b (end_at F rows count)
    ∷ row_rule rows start
    ∷ end_checks alone b (end_at F rows count)

-- What the image says, if no check refuses it.
unfoldable pub read_of : Bool → Form → Limits → (ℕ → Verdict) → List ℕ → Read
read_of alone F L few b =
    let rows = number_at b 0 in
    let count = number_at b (targets_at rows) in
    let one = number_at b (start_at F rows count) in
    let start = number_at b (start_at F rows count + 2) in
    checked (judged (read_checks alone F L few b rows count one start)) (Ok (shape rows (count / rows) start))

-- Document 01's image.
abbrev pub image_read : Limits → (ℕ → Verdict) → List ℕ → Read
image_read L few b = read_of true Plain L few b
