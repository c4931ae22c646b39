-- The line that says what is given up where a row is folded.
use Rattle.std.specs.Prelude.{List, ◌++◌, ℕ, length, get_or}
use Rattle.text.specs.Text.{text, decimal, joined}

-- The event at a place of a run, after a space.
unfoldable pub event_word : List ℕ → ℕ → List ℕ
event_word run i = text " " ++ decimal (get_or run i 0)

-- A folded row, the row that it folds into, their distance, and the chosen run's events; an empty run ends in `run`.
unfoldable pub loss_line : ℕ → ℕ → ℕ → List ℕ → List ℕ
loss_line row into distance run =
    decimal row
    ++ (text " folded " ++ decimal into)
    ++ (text " distance " ++ decimal distance)
    ++ text " run" ++ joined (length run) (event_word run) ++ text "\n"
