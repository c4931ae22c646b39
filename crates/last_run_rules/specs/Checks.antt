-- Which rules are judged before a row's last run is told, in which order, rule 18, and the answer.
use Rattle.std.specs.Prelude.{List, [], ◌∷◌, ◌++◌, ℕ, ltb, length, Result, Ok, Err}
use Rattle.tables.specs.Table.{Table}
use Rattle.rules.specs.Rules.{Verdict, rule, judged, winch, row_rule, room_rule, mask_rule, shape_checks, content_checks}
use Rattle.rules.specs.declared.Rule.TheVariants.{Run}
use Rattle.rules.specs.declared.Refusal.{Refusal}
use Rattle.scratch.specs.Scratch.{scratch_cells}
use Rattle.chosen.specs.GivenUp.{Loss}
use Rattle.last_run_rules.specs.declared.Told.{Told}

-- What comes behind the row: rules 5 and 6, 16 straight after 6, and 7 for "the reducer's scratch".
abbrev pub rest_checks : ℕ → Table → ℕ → List Verdict
rest_checks mask T scratch = content_checks T.rows T.cells T.marks ++ (mask_rule mask T.events ∷ room_rule (scratch_cells T.rows) scratch ∷ [])

-- Rules 1 to 7 in number order: "a number that is no row gives 4", straight after the start's 4.
abbrev pub row_checks : ℕ → Table → ℕ → ℕ → List Verdict
row_checks mask T row scratch = shape_checks winch T ++ (row_rule T.rows row ∷ rest_checks mask T scratch)

-- The first rule broken, if one is.
unfoldable pub verdict : ℕ → Table → ℕ → ℕ → Verdict
verdict mask T row scratch = judged (row_checks mask T row scratch)

-- 18: "the lent run buffer is too short for that run; last of all".
abbrev pub run_rule : ℕ → ℕ → Verdict
run_rule needed given = rule Run (ltb given needed) 0

-- The answer: the distance and the run's length in all its events, or the refusal.
abbrev pub answer_by : Verdict → Loss → Result Told Refusal
answer_by (Ok u) g = Ok (record { distance = g.far; length = length g.run })
answer_by (Err r) g = Err r
