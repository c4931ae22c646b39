use native.Mathlib.Omega.{arith}
use native.Mathlib.Numerals.{add-one}
use lib.Seq.{take-suc}
use Rattle.text.proofs.Buffer.{puts_none, puts_then}
use Rattle.text.proofs.put_text.Goals as goal

pub loop-byte-init : goal.loop-byte-init
loop-byte-init c = puts_none c.args.out.now c.args.at

pub loop-byte-preserved : goal.loop-byte-preserved
loop-byte-preserved c = let l = c.loop-byte in
    rw (add-one, take-suc c.args.words.now l.byte-index 0 (omega arith)) (puts_then l.invariant c.put_byte-next.ensures)
