use Rattle.depths.specs.Steps.{Quiet}
use Rattle.depths.proofs.Moves.{same_space, risen_then, steps_then, steps_all}
use Rattle.depths.proofs.sweep_row.Goals as goal

pub loop-event-preserved : goal.loop-event-preserved
loop-event-preserved c = let a = c.args in
    let l = c.loop-event in
    let v = c.relax-changed in (
      risen_then l.changed v.result l.invariant.0 v.ensures.0,
      λ u hp. steps_then a.mask a.rows a.events a.cells.now (λ T s x. Quiet a.mask T s a.row x) (l.invariant.1 u hp) l.invariant.0
          (v.ensures.1 (same_space u l.auto.scratch) hp c.loop-event-test.true),
    )

pub returns : goal.returns
returns c = let a = c.args in
    let i = c.loop-event.invariant in
    (i.0, λ u hp. steps_all a.mask a.rows a.events a.cells.now (λ T s x. Quiet a.mask T s a.row x) (i.1 u hp) c.loop-event-test.false)
