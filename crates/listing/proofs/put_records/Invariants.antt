use mathlib.Core.List.{List}
use Prim.Native.Nat.{ℕ}
use lib.ListN.{get_or}
use Rattle.records.specs.declared.Record.{Record}
use Rattle.text.specs.Text.{joined, Puts}
use Rattle.listing.specs.Listing.{record_line, blank}
use Rattle.listing.proofs.put_records.Given as goal

-- the line of a given row
abbrev pub line : List Record → ℕ → List ℕ
line records row = record_line row (get_or records row blank)

abbrev pub invariant-loop-row : goal.invariant-loop-row
invariant-loop-row l = Puts l.initial.out l.at (joined l.row (line l.records)) l.out l.next
