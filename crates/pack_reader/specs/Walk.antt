-- The reader as the code goes: once the images are judged, it takes them.
use Rattle.std.specs.Prelude.{◌≡◌, List, ℕ, ◌*◌, ◌≤◌, length, Ok, Err}
use Rattle.tables.specs.Lists.{over}
use Rattle.image_sections.specs.Read.{Read}
use Rattle.packs.specs.Pack.{list_of, cells_needed, marks_needed}
use Rattle.pack_images.specs.Images.{Found, tables, tables_of}

-- There is room for what is found.
pub record Fitting (F : Found) (list cells marks : ℕ) : Type 0 where
  pub found : F ≡ tables (tables_of F)
  pub list_room : 3 * length (tables_of F) ≤ list
  pub cells_room : cells_needed (list_of (tables_of F)) ≤ cells
  pub marks_room : marks_needed (list_of (tables_of F)) ≤ marks

-- What an image that was read leaves in a lent buffer from a place on: a part that its rows and events tell.
abbrev pub part_from : Read → (ℕ → ℕ → List ℕ) → List ℕ → ℕ → List ℕ
part_from (Ok table) part d at = over d at (part table.rows table.events)
part_from (Err r) part d at = d
