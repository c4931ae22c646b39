-- Which rules are judged before two tables are put in order, in which order, and the answer.
use Rattle.std.specs.Prelude.{◌≡◌, not, List, [], ◌∷◌, ◌++◌, ℕ, ◌*◌, ◌≤◌, eqb, Result, Ok, Err}
use Rattle.tables.specs.Table.{Table, Valid}
use Rattle.rules.specs.Rules.{Verdict, rule, judged, winch, room_rule, table_checks}
use Rattle.rules.specs.declared.Rule.TheVariants.{Unlike}
use Rattle.rules.specs.declared.Refusal.{Refusal}
use Rattle.ordering.specs.declared.Order.{Order}

-- "Scratch of first rows × second rows 16-bit cells."
abbrev pub pair_cells : ℕ → ℕ → ℕ
pair_cells rows other = rows * other

-- 19: "the event counts differ".
abbrev pub counts_rule : ℕ → ℕ → Verdict
counts_rule events other = rule Unlike (not (eqb events other)) 0

-- 19, "before 7".
abbrev pub both_checks : ℕ → ℕ → ℕ → ℕ → ℕ → List Verdict
both_checks rows events rows2 events2 room = counts_rule events events2 ∷ room_rule (pair_cells rows rows2) room ∷ []

-- "After the first table's own checks and then the second's": the first rule broken, if one is.
unfoldable pub verdict : Table → Table → ℕ → Verdict
verdict T U room = judged (table_checks winch T ++ (table_checks winch U ++ both_checks T.rows T.events U.rows U.events room))

-- The answer: which table comes first, or the refusal.
abbrev pub answer_by : Verdict → Order → Result Order Refusal
answer_by (Ok u) x = Ok x
answer_by (Err r) x = Err r

-- No rule broken: both tables are valid, over the same number of events, and the scratch has a cell for every pair of their rows.
pub record Ready (T U : Table) (room : ℕ) : Type 0 where
  pub first : Valid T
  pub second : Valid U
  pub same_events : U.events ≡ T.events
  pub fits : pair_cells T.rows U.rows ≤ room
