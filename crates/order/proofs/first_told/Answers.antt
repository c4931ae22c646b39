use mathlib.Core.Path.{sym, ◌∙◌}
use native.Mathlib.Omega.{arith}
use Rattle.ordering.proofs.First.{found_none, found_at}
use Rattle.scratch.specs.Scratch.{machine_by}
use Rattle.order.specs.Search.{events_in}
use Rattle.order.proofs.Events.{tells-step}
use Rattle.order.proofs.first_told.Goals as goal

pub returns-then-told-ne0 : goal.returns-then-told-ne0
returns-then-told-ne0 c = let a = c.args in
    let l = c.loop-event in
    let e = tells-step (events_in a.events) (machine_by a.rows a.events a.cells.now a.marks.now) (machine_by a.rows2 a.events a.cells2.now a.marks2.now) a.k l.event c.first_of-q.ensures c.second_of-p.ensures c.target-i.ensures c.target-j.ensures a.scratch.now a.level c.place.ensures c.cell.ensures c.told_at-told.ensures.0 in
    (e ∙ sym (found_at a.events _ l.event c.loop-event-test.true l.invariant (λ z. c.if-told-ne0.true (e ∙ z))), c.told_at-told.ensures.1)

pub returns : goal.returns
returns c = (sym (found_none c.args.events _ (λ b h. c.loop-event.invariant b (omega arith))), omega arith)
