use mathlib.Core.Logic.{inl, inr}
use Rattle.pairs.specs.Pairs.{pair_at}
use Rattle.scratch.specs.Scratch.{machine_by}
use Rattle.distances.specs.Search.{events_by}
use Rattle.first_events.proofs.Turns.{led_right, ready-not, ready-test}
use Rattle.first_events.proofs.ready.Goals as goal

pub returns-in-Unsettled : goal.returns-in-Unsettled
returns-in-Unsettled c = let a = c.args in
    let m = led_right (events_by a.mask a.events) (machine_by a.rows a.events a.cells.now a.marks.now) a.scratch.now a.starts.now a.q a.p a.event c.requires c.target-i.ensures c.target-j.ensures c.between-led.ensures in
    ready-not (events_by a.mask a.events) (machine_by a.rows a.events a.cells.now a.marks.now) (pair_at a.scratch.now) a.q a.p m c.in-Unsettled.is

pub returns-in-End : goal.returns-in-End
returns-in-End c = let a = c.args in
    let m = led_right (events_by a.mask a.events) (machine_by a.rows a.events a.cells.now a.marks.now) a.scratch.now a.starts.now a.q a.p a.event c.requires c.target-i.ensures c.target-j.ensures c.between-led.ensures in
    ready-test (events_by a.mask a.events) (machine_by a.rows a.events a.cells.now a.marks.now) (pair_at a.scratch.now) a.q a.p m (λ z. elim c.in-End.is [ inl e ↦ cc | inr e ↦ let f = e.1 in cc ]) c.weight.ensures
