use mathlib.Core.Path.{sym, ◌∙◌}
use native.Mathlib.Omega.{arith}
use native.Mathlib.Numerals.{add-one}
use Rattle.tables.proofs.Over.{over_none, over-next, over-all}
use Rattle.image_writer.proofs.put_bytes.Goals as goal

pub loop-i-init : goal.loop-i-init
loop-i-init c = sym (over_none c.args.out.now c.args.at)

pub loop-i-preserved : goal.loop-i-preserved
loop-i-preserved c = let a = c.args in
    let l = c.loop-i in
    rw (add-one, l.invariant) (over-next a.out.now a.at a.bytes.now l.i (omega arith) (omega arith))

pub returns : goal.returns
returns c = let a = c.args in
    c.loop-i.invariant ∙ over-all a.out.now a.at a.bytes.now c.loop-i.i (omega arith)
