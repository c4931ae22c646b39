use Rattle.sheet_counts.proofs.Counting.{gone_enough, both}
use Rattle.sheet_counts.proofs.write_all.Goals as goal

pub settle-requires : goal.settle-requires
settle-requires c = let a = c.args in
    gone_enough a.from a.rows a.scratch.now _ a.list.now c.requires.0 c.tally.ensures

pub returns : goal.returns
returns c = let a = c.args in
    both a.from a.rows a.scratch.now _ a.list.now c.requires.0 c.tally.ensures c.settle.ensures
