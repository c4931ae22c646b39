use native.Mathlib.Omega.{arith}
use mathlib.Core.List.{[], ◌∷◌}
use Rattle.text.proofs.Buffer.{puts_byte, puts_out}
use Rattle.text.proofs.put_byte.Goals as goal

pub returns-then-at-out : goal.returns-then-at-out
returns-then-at-out c = let a = c.args in
    puts_byte a.out.now a.at a.byte c.if-at-out.true

pub returns : goal.returns
returns c = let a = c.args in
    puts_out a.out.now a.at (a.byte ∷ []) (omega arith)
