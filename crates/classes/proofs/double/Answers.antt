use Rattle.classes.proofs.Moves.{led-ready, ready_put, doubled}
use Rattle.classes.proofs.double.Goals as goal

pub returns : goal.returns
returns c = let p = c.requires in
    let far = c.by_jump.ensures in
    let put = c.back.ensures in
    let led = c.by_jump-2.ensures in
    doubled p.0 p.1 far put led (c.split.ensures.0 (led-ready (ready_put p.0 p.1 far put) led))
