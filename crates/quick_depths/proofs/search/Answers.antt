use Rattle.quick_depths.proofs.Growth.{grows_then}
use Rattle.quick_depths.proofs.Finding.{found}
use Rattle.quick_depths.proofs.search.Goals as goal
use Rattle.quick_depths.proofs.search.Goals.{then-passed-reached, else-passed-reached}

pub returns : goal.returns
returns c = let p = c.requires in
    let g = grows_then c.reach-reached.ensures c.pass_rows-passed.ensures in
    found p.0 p.1 c.begin.ensures (elim c.if-passed-reached.branch [
      | then-passed-reached w ↦ rw w.scratch-is (grows_then g w.endless.ensures)
      | else-passed-reached w ↦ rw w.scratch-is g
    ]) c.settle.ensures c.clear.ensures
