use Rattle.text.proofs.Buffer.{puts_first}
use Rattle.printing.specs.Lines.{spaced}
use Rattle.printing.proofs.Laws.{spaced-next, line-all}
use native.Mathlib.Omega.{arith}
use Rattle.printing.proofs.put_line.Goals as goal

pub loop-number-init : goal.loop-number-init
loop-number-init c = puts_first (spaced c.args.numbers.now) _ _

pub loop-number-preserved : goal.loop-number-preserved
loop-number-preserved c = spaced-next c.args.numbers.now c.loop-number.number-index c.loop-number.invariant c.put_spaced-next.ensures

pub returns : goal.returns
returns c = line-all c.args.numbers.now c.loop-number.number-index (omega arith) c.put_text-next.ensures c.loop-number.invariant c.put_byte.ensures
