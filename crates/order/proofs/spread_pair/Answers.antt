use Rattle.order.proofs.Events.{going_event}
use Rattle.order.proofs.spread_pair.Goals as goal

pub loop-event-preserved : goal.loop-event-preserved
loop-event-preserved c =
    going_event c.requires.given_by c.requires.k_bound.0 c.loop-event-test.true c.first_of-q.ensures c.second_of-p.ensures c.target-i.ensures c.target-j.ensures c.loop-event.invariant c.meet-found.ensures
