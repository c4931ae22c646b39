use Rattle.quick_folding.proofs.Moves.{wrote_next}
use Rattle.quick_folding.proofs.Losses.{loss-still}
use native.Mathlib.Omega.{arith}
use Rattle.quick_folding.proofs.parting.note_losses.Goals as goal

pub loop-c-preserved : goal.loop-c-preserved
loop-c-preserved c = let p = c.requires in
    let l = c.loop-c in
    wrote_next _ (omega (arith, p.room, p.places)) l.invariant (loss-still p l.invariant c.loop-c-test.true c.loss.ensures)
