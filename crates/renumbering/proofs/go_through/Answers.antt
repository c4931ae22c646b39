use mathlib.Core.Path.{refl}
use Rattle.renumbering.proofs.Lines.{line_again}
use Rattle.renumbering.proofs.Lining.{targets, gone-first, row_below, gone-next, gone-all}
use Rattle.renumbering.proofs.go_through.Goals as goal

pub loop-i-init : goal.loop-i-init
loop-i-init c = gone-first c.requires.0 _ c.requires.1

pub meet-count-requires : goal.meet-count-requires
meet-count-requires c = let l = c.loop-i.invariant in
    (targets _ c.requires.0, l.few, row_below c.requires.0 _ l c.loop-i-test.true refl, line_again _ _ _ l.lined _ l.many)

pub loop-i-preserved : goal.loop-i-preserved
loop-i-preserved c = let j = c.meet-count.ensures in
    gone-next c.requires.0 _ c.loop-i.invariant c.loop-i-test.true refl j.0 j.1 j.2

pub returns : goal.returns
returns c = gone-all c.requires.0 _ c.loop-i.invariant c.loop-i-test.false
