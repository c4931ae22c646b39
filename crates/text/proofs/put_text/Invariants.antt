use lib.ListN.{take}
use Rattle.text.specs.Text.{Puts}
use Rattle.text.proofs.put_text.Given as goal

abbrev pub invariant-loop-byte : goal.invariant-loop-byte
invariant-loop-byte l = Puts l.initial.out l.at (take l.byte-index l.words) l.out l.next
