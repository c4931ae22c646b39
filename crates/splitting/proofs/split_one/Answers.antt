use mathlib.Core.Path.{refl}
use native.Mathlib.Omega.{arith}
use Rattle.splitting.specs.Places.{found, stays}
use Rattle.splitting.proofs.split_one.Goals as goal
use Rattle.splitting.proofs.split_one.Goals.{else-scratch-n-via-then-scratch-n+else-scratch-n-2, else-scratch-n-via-else-scratch-n}

pub returns-then-scratch-n-2 : goal.returns-then-scratch-n-2
returns-then-scratch-n-2 c = found _ c.if-h-scratch.false (rw (← c.slot.ensures.0) (omega arith)) c.if-scratch-n.true c.if-scratch-n-2.true refl refl

pub returns-else-scratch-n : goal.returns-else-scratch-n
returns-else-scratch-n c =
    stays _ c.if-h-scratch.false (rw (← c.slot.ensures.0) (omega arith))
    (λ p q. elim c.else-scratch-n.branch [ else-scratch-n-via-then-scratch-n+else-scratch-n-2 w ↦ w.if-scratch-n-2.false q | else-scratch-n-via-else-scratch-n w ↦ w.if-scratch-n.false p ])
    refl
    refl
