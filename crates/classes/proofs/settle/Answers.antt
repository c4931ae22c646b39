use mathlib.Core.Path.{refl}
use native.Mathlib.Omega.{arith}
use Rattle.splitting.proofs.Frames.{span_at, filled_clear}
use Rattle.classes.specs.Values.{Values, values_by, Given}
use Rattle.classes.specs.Steps.{Begun, Settled}
use Rattle.classes.proofs.Reading.{onward, backward}
use Rattle.classes.proofs.Moves.{kept_frame, one_class, settled-from, settled-none}
use Rattle.classes.proofs.settle.Goals as goal

pub returns-then-to-eq0 : goal.returns-then-to-eq0
returns-then-to-eq0 c = (λ g. settled-none c.if-to-eq0.true, λ g. refl)

pub mend-requires : goal.mend-requires
mend-requires c = let a = c.args in
    let g : Given a.n (values_by a.top a.mask a.n a.m a.to a.cells.now a.marks.now a.scratch.now) a.cells.now a.scratch.now
    = record { sizes = c.sized.ensures.holds c.if-not-sized.false; within = c.at_hand.ensures.holds c.if-not-at_hand.false } in
    let z = g.sizes in
    let f = filled_clear (span_at z.few z.room (omega arith) (omega (arith, z.inside))) c.clear.ensures in
    let e = f.frame.size in (
      onward a.top a.mask a.n a.m a.to a.cells.now a.marks.now (kept_frame f.frame) (λ (W : Values). Begun a.n W a.cells.now c.clear.new.cells) (one_class g f),
      record { few = z.few; room = omega (arith, z.room); inside = z.inside; some = c.table_size-size.ensures.0; table = c.table_size-size.ensures.1 },
    )

pub returns : goal.returns
returns c = let a = c.args in
    let g : Given a.n (values_by a.top a.mask a.n a.m a.to a.cells.now a.marks.now a.scratch.now) a.cells.now a.scratch.now
    = record { sizes = c.sized.ensures.holds c.if-not-sized.false; within = c.at_hand.ensures.holds c.if-not-at_hand.false } in
    let z = g.sizes in
    let f = filled_clear (span_at z.few z.room (omega arith) (omega (arith, z.inside))) c.clear.ensures in
    ((λ w. settled-from f.frame (backward a.top a.mask a.n a.m a.to a.cells.now a.marks.now (kept_frame f.frame) (λ (W : Values). Settled a.n W c.clear.new.cells c.mend.new.scratch) c.mend.ensures)), λ p. absurd (p g))
