use native.Mathlib.Omega.{arith}
use Rattle.walks.proofs.Following.{next_event, next_none, follow-first, follow-next, follow-end, follow-all}
use Rattle.walks.proofs.walk.Goals as goal

pub loop-count-init : goal.loop-count-init
loop-count-init c = let a = c.args in
    follow-first a.cells.now a.events a.scratch.now a.rows a.q a.p a.run.now

pub returns-in_default : goal.returns-in_default
returns-in_default c = let l = c.loop-count in
    follow-end l.invariant c.loop-count-test.true (next_none c.args.scratch.now _ l.i l.j c.table-starts.ensures c.between.ensures c.in_default.not-Event)

pub overflow_cast-event : goal.overflow_cast-event
overflow_cast-event c = let l = c.loop-count in
    omega (arith, (next_event c.args.scratch.now _ l.i l.j c.table-starts.ensures c.between.ensures c.in-Event.is).1)

pub loop-count-preserved : goal.loop-count-preserved
loop-count-preserved c = let l = c.loop-count in
    let e = next_event c.args.scratch.now _ l.i l.j c.table-starts.ensures c.between.ensures c.in-Event.is in
    follow-next l.invariant c.loop-count-test.true e.0 e.1 c.put_byte-at.ensures c.target-i.ensures c.target-j.ensures

pub returns : goal.returns
returns c = follow-all c.loop-count.invariant (omega arith)
