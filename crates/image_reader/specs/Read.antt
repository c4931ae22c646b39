-- What the image reader answers and leaves in the lent cells and mark bytes.
use Rattle.std.specs.Prelude.{Bool, true, ◌||◌, List, ℕ, ◌*◌, ltb, Ok, Err}
use Rattle.tables.specs.Table.{mark_byte_count}
use Rattle.tables.specs.Lists.{over}
use Rattle.rules.specs.Rules.{Verdict, rule}
use Rattle.rules.specs.declared.Limits.{Limits}
use Rattle.rules.specs.declared.Rule.TheVariants.{Room}
use Rattle.images.specs.Image.{marks_of, cells_of}
use Rattle.images.specs.declared.Form.{Form}
use Rattle.images.specs.declared.Form.TheVariants.{Plain}
use Rattle.image_numbers.specs.Numbers.{checked}
use Rattle.image_sections.specs.Read.{Read, read_of}

-- Lastly 7: the lent cells or mark bytes are too few.
abbrev pub roomed : Read → ℕ → ℕ → Read
roomed (Ok table) cells marks = checked (rule Room (ltb cells (table.rows * table.events) || ltb marks (mark_byte_count table.rows)) 0) (Ok table)
roomed (Err r) cells marks = Err r

-- What the reader answers, with room for so many cells and mark bytes.
abbrev pub read_in_form : Bool → Form → Limits → (ℕ → Verdict) → List ℕ → ℕ → ℕ → Read
read_in_form alone F L few b cells marks = roomed (read_of alone F L few b) cells marks

abbrev pub read_by : Limits → (ℕ → Verdict) → List ℕ → ℕ → ℕ → Read
read_by L few b cells marks = read_in_form true Plain L few b cells marks

-- What the reader leaves in the lent cells and mark bytes.
abbrev pub cells_as : Form → Read → List ℕ → List ℕ → List ℕ
cells_as F (Ok table) b cells = over cells 0 (cells_of F b table.rows table.events)
cells_as F (Err r) b cells = cells

abbrev pub cells_in : Read → List ℕ → List ℕ → List ℕ
cells_in r b cells = cells_as Plain r b cells

abbrev pub marks_in : Read → List ℕ → List ℕ → List ℕ
marks_in (Ok table) b marks = over marks 0 (marks_of b table.rows)
marks_in (Err r) b marks = marks
