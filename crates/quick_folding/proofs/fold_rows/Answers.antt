use Rattle.rules.specs.Rules.{offset_of}
use Rattle.quick_folding.proofs.Whole.{small, sweepable, labels, answered, folds-named}
use Rattle.quick_folding.proofs.fold_rows.Goals as goal

pub far-k-requires : goal.far-k-requires
far-k-requires c = let d = c.depths.ensures in
    small _ _ d.0 d.1 c.if-not-depths.false

pub fold_all-requires : goal.fold_all-requires
fold_all-requires c = let d = c.depths.ensures in
    sweepable _ _ d.0 d.1 c.if-not-depths.false c.order-count.ensures.0 c.far-k.ensures.1

pub name_folds-requires : goal.name_folds-requires
name_folds-requires c = let d = c.depths.ensures in
    let f = c.fold_all.ensures in
    labels _ _ d.0 d.1 c.if-not-depths.false c.order-count.ensures.0 f.apart f.inside

pub returns : goal.returns
returns c = let d = c.depths.ensures in
    let l = c.if-not-depths.false in
    let o = c.order-count.ensures.0 in
    let f = c.fold_all.ensures in
    let v = c.name_folds.ensures in
    answered _ _ d.0 d.1 l o f.apart f.inside v (folds-named _ _ d.0 d.1 l o f (offset_of c.args.offset) c.far-k.ensures.0 v)
