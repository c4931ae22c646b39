use native.Mathlib.Omega.{arith}
use Rattle.text.proofs.Buffer.{puts_then}
use Rattle.text.proofs.Decimal.{decimal-one, decimal-more}
use Rattle.text.proofs.+put_number.Goals as goal

pub returns-then-n-lt10 : goal.returns-then-n-lt10
returns-then-n-lt10 t c = let n = c.args.n in
    rw (decimal-one n c.if-n-lt10.true) c.put_byte.ensures

pub returns : goal.returns
returns t c = let n = c.args.n in
    rw (decimal-more n (omega arith)) (puts_then c.put_number-next.ensures c.put_byte-2.ensures)
