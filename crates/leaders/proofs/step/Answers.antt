use mathlib.Core.Path.{refl}
use native.Mathlib.Omega.{arith}
use Rattle.leaders.specs.Steps.{Stepped, passed, noted}
use Rattle.leaders.proofs.step.Goals as goal

pub returns-then-to-z : goal.returns-then-to-z
returns-then-to-z c = Stepped.full _ (c.put-z.ensures.0 c.requires.0 c.requires.2) (omega arith)

pub returns-then-u-z : goal.returns-then-u-z
returns-then-u-z c = (omega arith, passed _ c.if-scratch-n.false (c.put-z.ensures.0 c.requires.0 c.requires.2) c.if-u-z.true c.if-to-z.false refl)

pub returns : goal.returns
returns c = (omega arith, noted _ _ c.if-scratch-n.false (c.put-z.ensures.0 c.requires.0 c.requires.2) c.if-u-z.false refl refl)
