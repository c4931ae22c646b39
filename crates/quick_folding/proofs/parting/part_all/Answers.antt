use mathlib.Core.Path.{refl, ◌∙◌}
use Rattle.rules.specs.Rules.{table_of}
use Rattle.quick_folding.proofs.Entering.{shape, fits_still}
use Rattle.quick_folding.proofs.Ending.{apart_none, apart_then, staying, stays_of}
use Rattle.quick_folding.proofs.Losses.{taken, clear_apart, parted-first, parted_at, measured}
use Rattle.quick_folding.proofs.Tabling.{tabled_none}
use native.Mathlib.Omega.{arith}
use Rattle.quick_folding.proofs.parting.part_all.Goals as goal

pub all_stay-plain-requires : goal.all_stay-plain-requires
all_stay-plain-requires c = staying c.requires.0

pub overflow_mul-n : goal.overflow_mul-n
overflow_mul-n c = omega (arith, (shape c.requires.0).rows_fit)

pub overflow_mul-n-2 : goal.overflow_mul-n-2
overflow_mul-n-2 c = omega (arith, (shape c.requires.0).rows_fit)

pub loop-x-init : goal.loop-x-init
loop-x-init c = let a = c.args in
    let p = c.requires in
    let f = c.first_level-x.ensures in
    (apart_none, parted_at f.2 refl (parted-first a.mask p.0 f.0 f.1 f.2 c.clear.ensures), taken a.mask p.0 f.1, omega (arith, f.2), tabled_none f.3)

pub part_level-x-requires : goal.part_level-x-requires
part_level-x-requires c = let a = c.args in
    let p = c.requires in
    let l = c.loop-x.invariant in
    let f = c.first_level-x.ensures in
    let w = clear_apart a.mask p.0 f.0 f.1 f.2 c.clear.ensures in
    (fits_still p.0 (l.0.size ∙ w.size), l.1, l.2, c.loop-x-test.true, λ z. stays_of (table_of a.n a.m a.start a.cells.now a.marks.now) a.mask p.1 (c.all_stay-plain.ensures z), l.4)

pub returns : goal.returns
returns c = let a = c.args in
    let p = c.requires in
    let l = c.loop-x.invariant in
    let f = c.first_level-x.ensures in
    let w = apart_then (clear_apart a.mask p.0 f.0 f.1 f.2 c.clear.ensures) l.0 in
    measured a.mask (fits_still p.0 w.size) (omega (arith, c.loop-x-test.false, l.3)) l.1 w
