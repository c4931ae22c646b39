use mathlib.Core.List.{List}
use Prim.Native.Nat.{ℕ}
use lib.ListN.{get_or}
use Rattle.text.specs.Text.{joined, Puts}
use Rattle.lines.specs.Lines.{pair_line}
use Rattle.sheet_text.proofs.put_entries.Given as goal

-- the line of an offset
abbrev pub line : List ℕ → ℕ → List ℕ
line list k = pair_line k (get_or list k 0)

abbrev pub invariant-loop-k : goal.invariant-loop-k
invariant-loop-k l = Puts l.initial.out l.at (joined l.k (line l.list)) l.out l.next
