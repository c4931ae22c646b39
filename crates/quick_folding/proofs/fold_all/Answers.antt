use mathlib.Core.Path.{◌∙◌}
use Rattle.rules.specs.Rules.{table_of}
use Rattle.quick_folding.proofs.Entering.{fits_still}
use Rattle.quick_folding.proofs.Ending.{apart_then, folded, staying, stays_of}
use native.Mathlib.Omega.{arith}
use Rattle.quick_folding.proofs.fold_all.Goals as goal

pub all_stay-plain-requires : goal.all_stay-plain-requires
all_stay-plain-requires c = staying c.requires.0

pub next_level-x-requires : goal.next_level-x-requires
next_level-x-requires c = let a = c.args in
    let p = c.requires in
    let l = c.loop-x.invariant in
    (fits_still p.0 (l.0.size ∙ c.first_level-x.ensures.0.size), l.1, p.2, c.loop-x-test.true, λ z. stays_of (table_of a.n a.m a.start a.cells.now a.marks.now) a.mask p.1 (c.all_stay-plain.ensures z), l.2)

pub returns : goal.returns
returns c = let p = c.requires in
    let l = c.loop-x.invariant in
    folded (apart_then c.first_level-x.ensures.0 l.0) l.1 (omega (arith, p.2, c.loop-x-test.false))
