-- "The follower": what it holds after beginning, after an event and after a run, and what it answers.
use Rattle.std.specs.Prelude.{Bool, false, List, [], ◌∷◌, ◌++◌, ℕ, eqb, leb, Result, Ok, Err}
use Rattle.tables.specs.Table.{Table, Offset, offset, none, mark_of}
use Rattle.rules.specs.Rules.{Verdict, sound, judged, winch, row_rule, shape_checks}
use Rattle.rules.specs.declared.Refusal.{Refusal}
use Rattle.following.specs.Moves.{advanced}
use Rattle.following.specs.declared.Follower.{Follower}
use Rattle.following.specs.declared.Next.{Next}
use Rattle.follower.specs.declared.Shown.{Shown}

-- A follower begins at the start with count 0. Beginning checks 1 to 4.
abbrev pub begun_by : Verdict → ℕ → Result Follower Refusal
begun_by (Ok u) start = Ok (record { row = start; count = 0 })
begun_by (Err r) start = Err r

unfoldable pub begun : Table → Result Follower Refusal
begun T = begun_by (judged (shape_checks winch T)) T.start

-- The follower that a step leaves.
abbrev pub moved : Next → Follower
moved n = record { row = n.row; count = n.count }

-- Events are taken one after another, from a row and a count, up to the first that is refused.
unfoldable pub followed : ℕ → Table → ℕ → ℕ → List ℕ → Next
followed mask T row count [] = record { row = row; count = count; verdict = sound }
followed mask T row count (event ∷ run) =
    let n = advanced mask T row count event in
    elim n.verdict [ Ok u ↦ followed mask T n.row n.count run | Err r ↦ n ]

-- A run, by a follower that begins at the start.
abbrev pub follow : ℕ → Table → List ℕ → Next
follow mask T run = followed mask T T.start 0 run

-- Settled: the count is at least the offset; with no offset, never.
abbrev pub settled : Offset → ℕ → Bool
settled (offset k) count = leb k count
settled none count = false

-- Answering checks 1 to 4, of the start and then of the follower's row; it gives the row's mark and whether it is settled.
abbrev pub shown_by : Verdict → Offset → Table → ℕ → ℕ → Result Shown Refusal
shown_by (Ok u) k T row count = Ok (record { ready = eqb (mark_of T.marks row) 1; settled = settled k count })
shown_by (Err r) k T row count = Err r

unfoldable pub shown : Offset → Table → ℕ → ℕ → Result Shown Refusal
shown k T row count = shown_by (judged (shape_checks winch T ++ (row_rule T.rows row ∷ []))) k T row count
