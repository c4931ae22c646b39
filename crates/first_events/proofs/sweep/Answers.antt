use mathlib.Core.Path.{refl}
use Rattle.pairs.specs.Pairs.{triangle}
use Rattle.scratch.specs.Scratch.{machine_by}
use Rattle.distances.specs.Search.{events_by}
use Rattle.first_events.proofs.Sweeps.{triangle-more, swept_none, swept_to, swept_then}
use Rattle.first_events.proofs.sweep.Goals as goal

pub loop-q-init : goal.loop-q-init
unfolding triangle
loop-q-init c = let a = c.args in swept_none a.pass (events_by a.mask a.events) (machine_by a.rows a.events a.cells.now a.marks.now) a.scratch.now refl

pub loop-q-preserved : goal.loop-q-preserved
loop-q-preserved c = swept_to (triangle-more c.loop-q.q) (swept_then c.loop-q.invariant c.sweep_row-changed.ensures)
