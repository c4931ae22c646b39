-- What `reduce` prints: "Tables to try" of document 01.
use Rattle.std.specs.Prelude.{cond, List, ◌++◌, ℕ, ◌+◌, ◌*◌, eqb, get_or}
use Rattle.tables.specs.Table.{mark_of}
use Rattle.records.specs.declared.Record.{Record}
use Rattle.records.specs.declared.Depth.{Depth}
use Rattle.records.specs.declared.Depth.TheVariants.{Number, Endless}
use Rattle.records.specs.declared.Fate.{Fate}
use Rattle.records.specs.declared.Fate.TheVariants.{Kept, Folded, Unreached}
use Rattle.text.specs.Text.{text, decimal, joined}
use Rattle.lines.specs.Lines.{head_line}

-- The target of a row and an event, after a space.
unfoldable pub target_word : ℕ → List ℕ → ℕ → ℕ → List ℕ
target_word events cells row event = text " " ++ decimal (get_or cells (row * events + event) 0)

-- A mark, 1 for ready, and the line's end.
unfoldable pub mark_words : ℕ → List ℕ
mark_words mark = cond (eqb mark 1) (text " ready\n") (text " wait\n")

-- "each new row's number, targets and mark"
unfoldable pub row_line : ℕ → List ℕ → List ℕ → ℕ → List ℕ
row_line events cells marks row = decimal row ++ joined events (target_word events cells row) ++ mark_words (mark_of marks row)

-- A depth, a number or endless, and the line's end.
unfoldable pub depth_words : Depth → List ℕ
depth_words (Number d) = text " depth " ++ decimal d ++ text "\n"
depth_words Endless = text " depth endless\n"

-- "`kept` is followed by the new number, `folded` by the given row. An unreached row prints `unreached` alone after its number."
unfoldable pub fate_words : Fate → Depth → List ℕ
fate_words (Kept number) depth = text " kept " ++ decimal number ++ depth_words depth
fate_words (Folded row) depth = text " folded " ++ decimal row ++ depth_words depth
fate_words Unreached depth = text " unreached\n"

-- each given row's "number, fate and depth"
unfoldable pub record_line : ℕ → Record → List ℕ
record_line row r = decimal row ++ fate_words r.fate r.depth

-- What is read where there is no record.
abbrev pub blank : Record
blank = record { depth = Number 0; fate = Unreached }

-- "The first line gives new rows and events", and "ends with how many events count"; "then each new row's number, targets and mark; then the count of given rows, and each one's number, fate and depth."
unfoldable pub listing : ℕ → ℕ → ℕ → List ℕ → List ℕ → ℕ → List Record → List ℕ
listing rows events counted cells marks given records =
    head_line (text "table ") rows events counted
    ++ joined rows (row_line events cells marks)
    ++ text "folds " ++ decimal given ++ text "\n"
    ++ joined given (λ row. record_line row (get_or records row blank))
