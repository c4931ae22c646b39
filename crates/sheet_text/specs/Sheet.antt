-- The lines of a sheet.
use Rattle.std.specs.Prelude.{List, ◌++◌, ℕ, ◌-◌, length, get_or}
use Rattle.text.specs.Text.{text, decimal, joined}
use Rattle.lines.specs.Lines.{pair_line, head_line}

-- "`none COUNT`"
unfoldable pub none_line : ℕ → List ℕ
none_line count = text "none " ++ decimal count ++ text "\n"

-- "`sheet ROWS EVENTS`", which "ends with how many events count", "then one line `OFFSET COUNT` for each offset", the first n of them, "then `none COUNT`".
unfoldable pub sheet_lines : ℕ → ℕ → ℕ → ℕ → (ℕ → ℕ) → ℕ → List ℕ
sheet_lines rows events counting n count last = head_line (text "sheet ") rows events counting ++ joined n (λ k. pair_line k (count k)) ++ none_line last

-- The lines by a list of the counts, that of offset 0 first. The last count is also that for none; of an empty list that is 0.
abbrev pub list_lines : ℕ → ℕ → ℕ → List ℕ → List ℕ
list_lines rows events counting l = sheet_lines rows events counting (length l) (λ k. get_or l k 0) (get_or l (length l - 1) 0)
