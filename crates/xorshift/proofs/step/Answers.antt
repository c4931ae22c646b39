use mathlib.Core.Path.{refl}
use Rattle.xorshift.specs.Xorshift.{step}
use Rattle.xorshift.proofs.step.Goals as goal

pub returns : goal.returns
unfolding step
returns c = refl
