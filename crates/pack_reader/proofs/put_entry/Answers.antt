use lib.ListN.{length-set}
use Rattle.tables.proofs.Over.{over_three}
use native.Mathlib.Omega.{arith}
use Rattle.pack_reader.proofs.put_entry.Goals as goal

pub bounds-list-at-2 : goal.bounds-list-at-2
bounds-list-at-2 c = rw length-set (omega arith)

pub bounds-list-at-3 : goal.bounds-list-at-3
bounds-list-at-3 c = rw (length-set, length-set) (omega arith)

pub returns : goal.returns
returns c = let a = c.args in
    over_three a.list.now a.at a.rows a.events a.start c.requires.0
