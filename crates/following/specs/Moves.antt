-- What an event checks, and what it makes of a follower's row and count.
use Rattle.std.specs.Prelude.{List, [], ◌∷◌, ◌++◌, ℕ, ◌+◌, ◌*◌, min, leb, Ok, Err}
use Rattle.tables.specs.Table.{Table, target_of, weight_by}
use Rattle.rules.specs.Rules.{Verdict, sound, rule, judged, winch, row_rule, mask_rule, shape_checks}
use Rattle.rules.specs.declared.Rule.TheVariants.{Event, Target}
use Rattle.rules.specs.declared.Refusal.{Refusal}
use Rattle.following.specs.declared.Next.{Next}

-- What an event checks once the table's shape is right: 4 of the follower's row, 16 of the mask of counted events, 11, and 5 for the one cell it uses.
abbrev pub cell_checks : ℕ → Table → ℕ → ℕ → List Verdict
cell_checks mask T row event =
    row_rule T.rows row ∷ mask_rule mask T.events ∷ rule Event (leb T.events event) 0 ∷ rule Target (leb T.rows (target_of T row event)) (row * T.events + event) ∷ []

-- An event checks 1, 2, 3, 4 (of the start, then of the follower's row), 16, 11, and 5.
abbrev pub event_checks : ℕ → Table → ℕ → ℕ → List Verdict
event_checks mask T row event = shape_checks winch T ++ cell_checks mask T row event

-- A refused event changes nothing.
abbrev pub stays : ℕ → ℕ → Refusal → Next
stays row count r = record { row = row; count = count; verdict = Err r }

-- The event moves the follower and adds what it counts for to its count, which stays at 65,535 once there.
abbrev pub advanced_by : Verdict → ℕ → Table → ℕ → ℕ → ℕ → Next
advanced_by (Ok u) mask T row count event = record { row = target_of T row event; count = min 65535 (count + weight_by mask event); verdict = sound }
advanced_by (Err r) mask T row count event = stays row count r

unfoldable pub advanced : ℕ → Table → ℕ → ℕ → ℕ → Next
advanced mask T row count event = advanced_by (judged (event_checks mask T row event)) mask T row count event
