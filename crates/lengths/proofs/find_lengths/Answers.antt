use Rattle.rules.specs.Rules.{table_of}
use Rattle.lengths.proofs.Found.{refuses}
use mathlib.Core.Bool.{not}
use mathlib.Core.Path.{ap}
use Rattle.lengths.proofs.find_lengths.Goals as goal

pub returns-then-not-find_measures : goal.returns-then-not-find_measures
returns-then-not-find_measures c = let a = c.args in
    let d = c.find_measures in
    refuses a.mask (table_of a.rows a.events a.start a.cells.now a.marks.now) a.scratch.now d.new.scratch d.result d.ensures.0 d.ensures.1 (ap not c.if-not-find_measures.true)
