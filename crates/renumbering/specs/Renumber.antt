-- The table that is left when rows fold as the scratch says.
use Rattle.std.specs.Prelude.{◌≡◌, Bool, true, false, cond, ◌&&◌, List, ℕ, ◌*◌, leb, length}
use Rattle.tables.specs.Lists.{over}
use Rattle.tables.specs.Table.{Table, mark_byte_count, machine}
use Rattle.tables.specs.Reduction.{numbering, renumbered}
use Rattle.scratch.specs.Scratch.{workable_in}
use Rattle.renumbering.specs.Line.{fold_row, Lined, Frame}

module _ (T : Table) (s : List ℕ) where
  -- The rows in the order of their new numbers.
  unfoldable pub line : List ℕ
  line = numbering T.events (machine T) (fold_row T.rows s)

  -- The table that is left.
  unfoldable pub left : Table
  left = renumbered T.events (machine T) (fold_row T.rows s)

  -- The line and the new numbers stand in scratch t, and nothing else has changed.
  abbrev pub Numbered : List ℕ → Type 0
  Numbered t = Lined T.rows line t × Frame T.rows (length line) s t

-- What the call answers and leaves, where the table is valid, and there is room for four regions, and for cells and mark bytes as many as it has.
module _ (T : Table) (s cells marks : List ℕ) where
  unfoldable pub roomy : Bool
  roomy = workable_in (λ n. 4 * n) T (length s) && (leb (T.rows * T.events) (length cells) && leb (mark_byte_count T.rows) (length marks))

  unfoldable pub new_rows : ℕ
  new_rows = cond roomy (left T s).rows 0

  unfoldable pub new_cells : List ℕ
  new_cells = cond roomy (over cells 0 (left T s).cells) cells

  unfoldable pub new_marks : List ℕ
  new_marks = cond roomy (over marks 0 (left T s).marks) marks

  pub record NewScratch (t : List ℕ) : Type 0 where
    pub numbered : roomy ≡ true → Numbered T s t
    pub unchanged : roomy ≡ false → t ≡ s
