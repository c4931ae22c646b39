use mathlib.Core.Path.{◌∙◌}
use Prim.Native.Nat.{◌*◌, ◌+◌}
use native.Mathlib.Omega.{arith}
use Rattle.splitting.proofs.Frames.{filled_next}
use Rattle.classes.proofs.Reading.{row_kept, event-ready, event_read}
use Rattle.classes.proofs.Level.by_event.Goals as goal

pub place_of-requires : goal.place_of-requires
place_of-requires c =
    let l = c.loop-i in
    let p = c.requires in
    event-ready l.scratch c.args.a p.0 (p.1 l.i c.loop-i-test.true) p.3 (row_kept (3 * c.args.self.now.n + l.i) l.invariant (omega arith)) l.invariant.frame.size

pub loop-i-preserved : goal.loop-i-preserved
loop-i-preserved c =
    let l = c.loop-i in
    let p = c.requires in
    filled_next _ l.i _ l.invariant p.2 c.loop-i-test.true
    (c.place_of.ensures ∙ event_read l.scratch c.args.a p.0 (p.1 l.i c.loop-i-test.true) p.3 (row_kept (3 * c.args.self.now.n + l.i) l.invariant (omega arith)) l.invariant.frame.before)
