-- What is read off the line: the new targets and marks, as the code reads and writes them.
use mathlib.Core.Path.{◌≡◌, sym, subst}
use mathlib.Core.List.{List}
use Prim.Native.Nat.{ℕ, ◌+◌, ◌≤◌, ◌<◌}
use native.Mathlib.Omega.{arith}
use native.Mathlib.Decide.{dec_lt}
use borrow.Author.Tests.{lt-ltb, le-ltb}
use lib.ListN.{get_or}
use Rattle.tables.proofs.Marks.{mark_small}
use Rattle.tables.proofs.Lists.{at_mem}
use Rattle.tables.proofs.Over.{part_length}
use Rattle.renumbering.specs.Line.{line_in, Lined, mark_of_new}

-- ---- the new targets

-- A row in line is one of the n rows.
pub line_row : {n count i : ℕ} {s : List ℕ} → Lined n (line_in n s count) s → count ≤ n → i < count → get_or s (n + i) 0 < n
line_row {n} {count} {i} {s} g hc h =
    let long = part_length s n count (omega (arith, g.room)) in
    subst (λ (x : ℕ). x < n) (sym (g.line i (omega arith))) (g.rows _ (at_mem (line_in n s count) i 0 (omega arith)))

-- ---- the new marks

pub new_mark-none : (marks s : List ℕ) (n count i : ℕ) → count ≤ i → mark_of_new marks n s count i ≡ 0
new_mark-none marks s n count i h = rw (le-ltb i count h)

pub new_mark-small : (marks s : List ℕ) (n count i : ℕ) → mark_of_new marks n s count i ≤ 1
new_mark-small marks s n count i = elim (dec_lt i count) [
  | yes h ↦ rw (lt-ltb i count h) (mark_small marks (get_or s (n + i) 0))
  | no h ↦ rw (le-ltb i count (omega arith)) (omega arith)
]
