-- Where each row of the triangle of pairs begins.
use Rattle.std.specs.Prelude.{List, ℕ, ◌-◌, ◌*◌, ◌/◌}
use Rattle.tables.specs.Lists.{tabulate}

-- "Every entry i is i × (i − 1) / 2."
abbrev pub row_start : ℕ → ℕ
row_start i = i * (i - 1) / 2

-- "A stored table of 1,024 row starts."
unfoldable pub starts_of_rows : List ℕ
starts_of_rows = tabulate 1024 row_start
