use Rattle.rules.specs.Rules.{table_of}
use Rattle.depths.proofs.Found.{found_by_lem}
use Rattle.depths.proofs.search.Goals as goal

pub returns : goal.returns
returns c marks = let a = c.args in
    let p = c.requires in
    found_by_lem a.mask (table_of a.rows a.events a.start a.cells.now marks) p.0 p.1 c.clear.ensures c.put.ensures c.settle.ensures
