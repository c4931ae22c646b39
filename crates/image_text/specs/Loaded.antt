-- What is held of an image once it is read.
use Rattle.std.specs.Prelude.{◌≡◌, List, ℕ, ◌*◌, ◌≤◌, replicate, Ok, Err}
use Rattle.tables.specs.Table.{Valid, mark_byte_count}
use Rattle.rules.specs.Rules.{winch}
use Rattle.images.specs.Image.{table_in}
use Rattle.image_sections.specs.Read.{Read, at_most, image_read}
use Rattle.image_sections.specs.declared.Shape.{Shape}
use Rattle.image_reader.specs.Read.{cells_in, marks_in}
use Rattle.image_text.specs.declared.Loaded.{Loaded}

-- How many cells and mark bytes a table that was read has; a refusal has none.
abbrev pub cell_count : Read → ℕ
cell_count (Ok table) = table.rows * table.events
cell_count (Err r) = 0

abbrev pub byte_count : Read → ℕ
byte_count (Ok table) = mark_byte_count table.rows
byte_count (Err r) = 0

-- What an image gives, whatever its bytes are.
pub record Loads (image : List ℕ) (l : Loaded) : Type 0 where
  -- The reader's answer, for at most 128 rows.
  pub says : l.read ≡ image_read winch (at_most 128) image
  -- Of a table, its cells and its mark bytes in front; all else is 0.
  pub cells_are : l.cells ≡ cells_in l.read image (replicate 4096 0)
  pub marks_are : l.marks ≡ marks_in l.read image (replicate 16 0)
  pub count_is : l.count ≡ cell_count l.read
  pub bytes_is : l.bytes ≡ byte_count l.read
  -- A table that was read is valid and has at most 128 rows.
  pub sound : (table : Shape) → l.read ≡ Ok table → Valid (table_in image table.rows table.events table.start) × (table.rows ≤ 128)
