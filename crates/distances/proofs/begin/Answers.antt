use Rattle.distances.proofs.Rising.{clear_begun, clear_settled}
use Rattle.distances.proofs.begin.Goals as goal

pub settle-requires : goal.settle-requires
settle-requires c = let k = c.clear in
    clear_begun c.args.scratch.now k.new.cells _ c.requires c.pair_cells.ensures k.ensures

pub returns : goal.returns
returns c = let k = c.clear in
    clear_settled c.args.scratch.now k.new.cells _ _ c.requires c.pair_cells.ensures k.ensures c.settle.ensures
