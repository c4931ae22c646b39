use native.Mathlib.Omega.{arith}
use Rattle.splitting.specs.Places.{nxt_at}
use Rattle.splitting.proofs.Frames.{frame_none}
use Rattle.splitting.proofs.Counts.{followers_few}
use Rattle.classes.specs.Steps.{none}
use Rattle.classes.proofs.Moves.{room_after, led-ready, led-keyed, led-jumps, doubling_next}
use Rattle.classes.proofs.leap.Goals as goal

pub loop-before-init : goal.loop-before-init
loop-before-init c =
    let p = c.requires in
    let led = c.by_jump.ensures in
    let d = c.split-more.ensures.0 (led-ready p.0 led) in (
      record {
        ready = record { room = room_after (led-ready p.0 led).room d.frame; canon = d.canon };
        inside = λ i l. omega (arith, led-jumps p.0 led d i l, p.1 i l);
        frame = frame_none;
        doubles = none;
      },
      omega arith,
      omega arith,
      omega arith,
    )

-- no more leaders than places
pub overflow_add-made : goal.overflow_add-made
overflow_add-made c =
    let p = c.requires in
    let led = c.by_jump.ensures in
    let k = led-keyed p.0 led (c.split-more.ensures.0 (led-ready p.0 led)) in
    omega (arith, c.double-more.ensures.keyed.count, c.loop-before.invariant.1, k.count, followers_few (nxt_at c.args.n c.args.scratch.now) c.args.to, p.0.room)

pub loop-before-preserved : goal.loop-before-preserved
loop-before-preserved c = let l = c.loop-before in
    (doubling_next l.invariant.0 c.double-more.ensures, omega (arith, c.double-more.ensures.keyed.count, l.invariant.1), omega (arith, l.invariant.2), omega (arith, l.invariant.3))

pub returns : goal.returns
returns c =
    let p = c.requires in
    let led = c.by_jump.ensures in
    let d = c.split-more.ensures.0 (led-ready p.0 led) in
    let k = led-keyed p.0 led d in
    record {
      first = c.split-more.new.scratch;
      made = c.split-more.result;
      keyed = k;
      jumps = led-jumps p.0 led d;
      doubles = c.loop-before.invariant.0.doubles;
      count = omega (arith, c.loop-before.invariant.1, k.count);
      least = c.loop-before.invariant.2;
    }
