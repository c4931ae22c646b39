-- The judging of the images as the code goes: it sums up what their tables need.
use Rattle.std.specs.Prelude.{ℕ, ◌+◌, Result, Ok, Err}
use Rattle.rules.specs.declared.Refusal.{Refusal}
use Rattle.packs.specs.Pack.{list_of, cells_needed, marks_needed}
use Rattle.pack_images.specs.Images.{Found}
use Rattle.pack_images.specs.declared.Needs.{Needs}

-- So many cells and mark bytes.
abbrev pub needs : ℕ → ℕ → Needs
needs cells marks = record { cells = cells; marks = marks }

-- What the tables that are found need.
abbrev pub needed_by : Found → Result Needs Refusal
needed_by (Ok l) = Ok (needs (cells_needed (list_of l)) (marks_needed (list_of l)))
needed_by (Err r) = Err r

-- So many cells and mark bytes more.
abbrev pub more : ℕ → ℕ → Result Needs Refusal → Result Needs Refusal
more cells marks (Ok n) = Ok (needs (cells + n.cells) (marks + n.marks))
more cells marks (Err r) = Err r
