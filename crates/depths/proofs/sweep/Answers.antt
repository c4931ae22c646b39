use Rattle.depths.specs.Steps.{QuietRow}
use Rattle.depths.proofs.Moves.{same_space, risen_then, steps_then, steps_all}
use Rattle.depths.proofs.sweep.Goals as goal

pub loop-row-preserved : goal.loop-row-preserved
loop-row-preserved c = let a = c.args in
    let l = c.loop-row in
    let v = c.sweep_row-changed in (
      risen_then l.changed v.result l.invariant.0 v.ensures.0,
      λ u. steps_then a.mask a.rows a.events a.cells.now (QuietRow a.mask) (l.invariant.1 u) l.invariant.0
          (v.ensures.1 (same_space u l.auto.scratch) c.loop-row-test.true),
    )

pub returns : goal.returns
returns c = let a = c.args in
    let i = c.loop-row.invariant in
    (i.0, λ u. steps_all a.mask a.rows a.events a.cells.now (QuietRow a.mask) (i.1 u) c.loop-row-test.false)
