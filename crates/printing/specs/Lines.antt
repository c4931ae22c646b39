-- The lines that the test programs share.
use Rattle.std.specs.Prelude.{List, ◌++◌, ℕ, length, get_or}
use Rattle.text.specs.Text.{text, decimal, joined}

-- Number i of a list, after a space.
unfoldable pub spaced : List ℕ → ℕ → List ℕ
spaced numbers i = text " " ++ decimal (get_or numbers i 0)

-- A word, the numbers, each after a space, and the line's end.
unfoldable pub line : List ℕ → List ℕ → List ℕ
line word numbers = word ++ joined (length numbers) (spaced numbers) ++ text "\n"
