use borrow.Author.Tests.{not-true}
use Rattle.rules.specs.Rules.{table_of}
use Rattle.tables.proofs.Counted.{mask_light}
use Rattle.distances.specs.Distances.{distance_cells}
use Rattle.distances.proofs.Rising.{rising-early, rising-full}
use mathlib.Core.Bool.{not}
use mathlib.Core.Path.{ap}
use Rattle.distances.proofs.search.Goals as goal

pub returns-then-not-rise : goal.returns-then-not-rise
unfolding distance_cells
returns-then-not-rise c = rising-early c.requires c.begin.ensures c.loop-level.invariant (mask_light c.args.mask (table_of c.args.rows c.args.events 0 c.args.cells.now c.args.marks.now)) c.loop-level-test.true c.rise.ensures (not-true _ (ap not c.if-not-rise.true))

pub returns : goal.returns
unfolding distance_cells
returns c = rising-full c.requires c.begin.ensures c.loop-level.invariant (mask_light c.args.mask (table_of c.args.rows c.args.events 0 c.args.cells.now c.args.marks.now)) c.loop-level-test.false
