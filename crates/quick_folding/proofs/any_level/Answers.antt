use Rattle.quick_folding.proofs.Entering.{shape, appendable, bounds, given}
use Rattle.quick_folding.proofs.Leaving.{renewable, takable, level-after}
use Rattle.quick_folding.proofs.Tabling.{begun-at, grouped, level-tabled}
use native.Mathlib.Omega.{arith}
use Rattle.quick_folding.proofs.any_level.Goals as goal

pub append-requires : goal.append-requires
append-requires c = appendable c.args.mask c.requires.0 c.requires.1

pub overflow_add-u : goal.overflow_add-u
overflow_add-u c = let p = c.requires in
    let b = bounds c.args.mask p.0 p.1 in
    omega (arith, b.0, b.1, b.2, (shape p.0).rows_fit)

pub group-lost-requires : goal.group-lost-requires
group-lost-requires c = let a = c.args in
    let p = c.requires in
    let d = c.append.ensures in
    (given a.mask p.0 p.1 d, omega (arith, p.4.few), omega arith, begun-at a.mask p.0 p.1 p.3 d p.4)

pub renew-rest-requires : goal.renew-rest-requires
renew-rest-requires c = let a = c.args in
    let p = c.requires in
    let d = c.append.ensures in
    (renewable a.mask p.0 p.1 d (grouped a.mask p.0 p.1 p.3 d c.group-lost.ensures.0).1 p.2, c.group-lost.ensures.1)

pub take_new-kept-requires : goal.take_new-kept-requires
take_new-kept-requires c = let a = c.args in
    let p = c.requires in
    let d = c.append.ensures in
    takable a.mask p.0 p.1 d (grouped a.mask p.0 p.1 p.3 d c.group-lost.ensures.0).1 c.renew-rest.ensures

pub returns : goal.returns
returns c = let a = c.args in
    let p = c.requires in
    let d = c.append.ensures in
    let g = c.group-lost.ensures.0 in
    let w = c.renew-rest.ensures in
    let t = c.take_new-kept.ensures in
    let e = c.standing.ensures in
    rw (e.1, e.3) (level-after a.mask p.0 p.1 d (grouped a.mask p.0 p.1 p.3 d g).1 w t, e.0, e.2, level-tabled a.mask p.0 p.1 p.3 d g w t e.4)
