use mathlib.Core.Path.{refl}
use native.Mathlib.Omega.{arith}
use Rattle.std.proofs.lemmas.Grind.{common_steps}
use Rattle.ordering.proofs.Pairs.{pairs_inside}
use Rattle.order.proofs.Climbs.{climb-next, climb-none, climb-told, climb_end, sought_from}
use Rattle.order.proofs.meet_pairs.Goals as goal

pub returns-in-Nothing : goal.returns-in-Nothing
returns-in-Nothing c =
    let g = c.requires.given_by in
    let b = c.requires.bare in
    sought_from g.room b c.put.ensures (climb-none b.start_inside (pairs_inside g.first g.second) (omega arith) (omega arith) c.loop-level.invariant c.in-Nothing.ensures refl)

pub returns-in-Difference : goal.returns-in-Difference
returns-in-Difference c =
    let g = c.requires.given_by in
    let b = c.requires.bare in
    (omega arith, sought_from g.room b c.put.ensures (climb-told b.start_inside (pairs_inside g.first g.second) (omega arith) (omega arith) c.loop-level.invariant c.in-Difference.ensures (omega arith) c.loop-level-test.true))

pub loop-level-preserved : goal.loop-level-preserved
loop-level-preserved c =
    let g = c.requires.given_by in
    climb-next c.requires.bare.start_inside (pairs_inside g.first g.second) (omega arith) (omega arith) c.loop-level.invariant c.spread-most.ensures (grind (arith, common_steps))

pub returns : goal.returns
returns c =
    let g = c.requires.given_by in
    let b = c.requires.bare in
    sought_from g.room b c.put.ensures (climb_end b.start_inside (pairs_inside g.first g.second) c.loop-level-test.false c.loop-level.invariant)
