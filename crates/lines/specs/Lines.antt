-- Lines that programs print.
use Rattle.std.specs.Prelude.{List, ◌++◌, ℕ}
use Rattle.text.specs.Text.{text, decimal}

-- Two numbers and the line's end.
unfoldable pub pair_line : ℕ → ℕ → List ℕ
pair_line first second = decimal first ++ text " " ++ decimal second ++ text "\n"

-- The first line of what a program prints for a table: a word, the rows, the events, and how many events count.
unfoldable pub head_line : List ℕ → ℕ → ℕ → ℕ → List ℕ
head_line word rows events counted = word ++ decimal rows ++ text " " ++ pair_line events counted

-- "A refusal prints only `refused`, its number and its place."
unfoldable pub refusal_line : ℕ → ℕ → List ℕ
refusal_line number place = text "refused " ++ pair_line number place
