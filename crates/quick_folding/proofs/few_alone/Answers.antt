use mathlib.Core.Path.{ap, ◌∙◌}
use mathlib.Core.Logic.{⊎_elim}
use Rattle.scratch.proofs.Numbers.{eq_or_ne}
use Rattle.scratch.proofs.Tallies.{tally-one}
use Rattle.splitting.specs.Places.{jump_at}
use native.Mathlib.Omega.{arith}
use Rattle.quick_folding.proofs.few_alone.Goals as goal

pub loop-x-preserved : goal.loop-x-preserved
loop-x-preserved c = let a = c.args in
    let l = c.loop-x in
    let o = c.once.ensures.holds c.if-not-once.false in
    λ y q p h hq hp eq ep. ⊎_elim
    (λ z. tally-one _ _ _ _ o.one q p hq hp (eq ∙ ap (jump_at a.n a.scratch.now) z) (ep ∙ ap (jump_at a.n a.scratch.now) z))
    (λ ne. l.invariant y q p (omega arith) hq hp eq ep)
    (eq_or_ne y l.x)
