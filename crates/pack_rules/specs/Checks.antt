-- What is judged of a pack's tables, and in which order.
use Rattle.std.specs.Prelude.{not, ◌||◌, List, [], ◌∷◌, ◌++◌, ℕ, ◌/◌, ◌%◌, eqb, length}
use Rattle.tables.specs.Table.{Table}
use Rattle.rules.specs.Rules.{Verdict, rule, winch, rows_rule, events_rule, row_rule, room_rule, content_checks}
use Rattle.rules.specs.declared.Rule.TheVariants.{Lengths}
use Rattle.image_rules.specs.Checks.{steps_rule}
use Rattle.packs.specs.Pack.{tables_in, cells_needed, marks_needed, pack_length, count_rule}

-- 1 and 2 of each table in turn.
unfoldable pub size_checks : List ℕ → List Verdict
size_checks (rows ∷ events ∷ start ∷ l) = rows_rule winch rows ∷ events_rule winch events ∷ size_checks l
size_checks [] = []
size_checks (rows ∷ []) = []
size_checks (rows ∷ events ∷ []) = []

-- 3, once for all the tables together: the entries of the list, the cells or the mark bytes are not the number required.
abbrev pub together_rule : List ℕ → List ℕ → List ℕ → Verdict
together_rule list cells marks = rule Lengths (not (eqb (length list % 3) 0) || (not (eqb (length cells) (cells_needed list)) || not (eqb (length marks) (marks_needed list)))) 0

-- 4, 5, 6 and 14 of each table in turn.
unfoldable pub tables_checks : List Table → List Verdict
tables_checks [] = []
tables_checks (T ∷ l) = (row_rule T.rows T.start ∷ content_checks T.rows T.cells T.marks) ++ (steps_rule T.events T.cells ∷ tables_checks l)

-- 15, these, and then 7.
abbrev pub pack_checks : List ℕ → List ℕ → List ℕ → ℕ → List Verdict
pack_checks list cells marks room =
    (count_rule (length list / 3) ∷ size_checks list)
    ++ (together_rule list cells marks ∷ tables_checks (tables_in list cells marks))
    ++ (room_rule (pack_length list) room ∷ [])
