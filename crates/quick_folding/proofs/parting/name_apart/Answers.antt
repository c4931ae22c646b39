use mathlib.Core.Path.{◌∙◌}
use Rattle.quick_folding.proofs.Moves.{wrote_next}
use Rattle.quick_folding.proofs.Losses.{apart-still}
use native.Mathlib.Omega.{arith}
use Rattle.quick_folding.proofs.parting.name_apart.Goals as goal

pub loop-q-preserved : goal.loop-q-preserved
loop-q-preserved c = let p = c.requires in
    let l = c.loop-q in
    wrote_next _ (omega (arith, p.room)) l.invariant (c.apart_of.ensures ∙ apart-still p l.invariant l.q c.loop-q-test.true (omega arith))
