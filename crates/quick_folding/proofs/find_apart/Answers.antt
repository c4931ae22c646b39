use Rattle.quick_folding.proofs.Whole.{sweepable, labels, answered, aparts-named}
use native.Mathlib.Omega.{arith}
use Rattle.quick_folding.proofs.find_apart.Goals as goal

pub part_all-requires : goal.part_all-requires
part_all-requires c = let d = c.depths.ensures in
    sweepable _ _ d.0 d.1 c.if-not-depths.false c.order-count.ensures.0 (omega arith)

pub name_apart-requires : goal.name_apart-requires
name_apart-requires c = let d = c.depths.ensures in
    let f = c.part_all.ensures in
    labels _ _ d.0 d.1 c.if-not-depths.false c.order-count.ensures.0 f.beside f.inside

pub returns : goal.returns
returns c = let d = c.depths.ensures in
    let l = c.if-not-depths.false in
    let o = c.order-count.ensures.0 in
    let f = c.part_all.ensures in
    let v = c.name_apart.ensures in
    answered _ _ d.0 d.1 l o f.beside f.inside v (aparts-named _ _ d.0 d.1 l o f v)
