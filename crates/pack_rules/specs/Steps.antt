-- What the functions that go through the tables of a pack hand to each other.
use Rattle.std.specs.Prelude.{List, ℕ, ◌+◌, ◌*◌, get_or}
use Rattle.tables.specs.Table.{mark_byte_count}
use Rattle.packs.specs.Pack.{cells_needed, marks_needed, pack_length}
use Rattle.pack_rules.specs.declared.Entry.{Entry}
use Rattle.pack_rules.specs.declared.Needed.{Needed}

-- The table at a place of a list.
abbrev pub entry_at : List ℕ → ℕ → Entry
entry_at list at =
    let rows = get_or list at 0 in
    let events = get_or list (at + 1) 0 in
    record { rows = rows; events = events; start = get_or list (at + 2) 0; cells = rows * events; marks = mark_byte_count rows }

-- What the tables of a list need together.
abbrev pub needed_by : List ℕ → Needed
needed_by list = record { cells = cells_needed list; marks = marks_needed list; bytes = pack_length list }
