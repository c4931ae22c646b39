-- Which rules are judged before a table is reduced, in which order, and the answer.
use Rattle.std.specs.Prelude.{List, [], ◌∷◌, ◌++◌, ℕ, ◌*◌, Result, Ok, Err}
use Rattle.tables.specs.Table.{Table, mark_byte_count}
use Rattle.rules.specs.Rules.{Verdict, judged, winch, room_rule, masked_checks}
use Rattle.rules.specs.declared.Refusal.{Refusal}

-- Rule 7, for a table of so many rows and events, where the lent buffers have so many cells, mark bytes, records and scratch cells; `need` says how many of the last so many rows need.
abbrev pub room_checks : (ℕ → ℕ) → ℕ → ℕ → ℕ → ℕ → ℕ → ℕ → List Verdict
room_checks need rows events cells marks records scratch =
    room_rule (rows * events) cells ∷ room_rule (mark_byte_count rows) marks ∷ room_rule rows records ∷ room_rule (need rows) scratch ∷ []

-- Rules 1 to 7 in number order, with 16 straight after 6.
abbrev pub reduce_checks : (ℕ → ℕ) → ℕ → Table → ℕ → ℕ → ℕ → ℕ → List Verdict
reduce_checks need mask T cells marks records scratch = masked_checks winch mask T ++ room_checks need T.rows T.events cells marks records scratch

-- The first rule broken, if one is.
unfoldable pub verdict : (ℕ → ℕ) → ℕ → Table → ℕ → ℕ → ℕ → ℕ → Verdict
verdict need mask T cells marks records scratch = judged (reduce_checks need mask T cells marks records scratch)

-- The answer: the new row count, or the refusal.
abbrev pub answer_by : Verdict → ℕ → Result ℕ Refusal
answer_by (Ok u) rows = Ok rows
answer_by (Err r) rows = Err r
