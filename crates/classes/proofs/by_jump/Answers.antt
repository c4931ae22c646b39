use mathlib.Core.Path.{◌≡◌}
use mathlib.Core.Logic.{⊎_elim}
use Prim.Native.Nat.{◌*◌, ◌+◌}
use native.Mathlib.Omega.{arith}
use Rattle.splitting.specs.Places.{jump_at}
use Rattle.splitting.proofs.Frames.{filled_next}
use Rattle.classes.proofs.by_jump.Goals as goal

pub loop-i-preserved : goal.loop-i-preserved
loop-i-preserved c =
    let a = c.args in
    let l = c.loop-i in
    let p = c.requires in
    let b = p.to_le_n.1 l.i c.loop-i-test.true in
    let jump : jump_at a.n l.scratch l.i ≡ jump_at a.n a.scratch.now l.i = l.invariant.above (7 * a.n + l.i) (omega arith) in
    filled_next _ l.i _ l.invariant p.span.0 c.loop-i-test.true
    (rw jump (⊎_elim (λ g. l.invariant.below (a.from + jump_at a.n a.scratch.now l.i) (omega arith)) (λ g. l.invariant.above (a.from + jump_at a.n a.scratch.now l.i) (omega arith)) p.span.1))
