-- Which rules are judged before a sheet is made, in which order.
use Rattle.std.specs.Prelude.{List, [], ◌∷◌, ◌++◌, ℕ, ◌+◌, ◌*◌, ltb}
use Rattle.tables.specs.Table.{Table}
use Rattle.rules.specs.Rules.{Verdict, rule, judged, winch, room_rule, masked_checks}
use Rattle.rules.specs.declared.Rule.TheVariants.{List as ListRoom}
use Rattle.scratch.specs.Scratch.{scratch_cells}

-- How many offsets there are from 0 to 2 × rows.
abbrev pub entries : ℕ → ℕ
entries rows = 2 * rows + 1

-- 13: "the lent list has fewer than 2 × rows + 1 entries".
abbrev pub list_rule : ℕ → ℕ → Verdict
list_rule rows list = rule ListRoom (ltb list (entries rows)) 0

-- Rule 7 for the scratch, and 13.
abbrev pub room_checks : ℕ → ℕ → ℕ → List Verdict
room_checks rows list scratch = room_rule (scratch_cells rows) scratch ∷ list_rule rows list ∷ []

-- Rules 1 to 6, 16, 7, then 13; the first rule broken, if one is. The lent list and the scratch have so many entries and cells.
unfoldable pub verdict : ℕ → Table → ℕ → ℕ → Verdict
verdict mask T list scratch = judged (masked_checks winch mask T ++ room_checks T.rows list scratch)
