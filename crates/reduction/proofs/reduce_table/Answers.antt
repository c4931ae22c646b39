use Rattle.std.proofs.lemmas.Result.{err_from_is_err_and}
use Rattle.rules.specs.Rules.{lent, offset_of}
use Rattle.ways.specs.Ways.{need_of}
use Rattle.reduction.proofs.Promised.{promised_refused, promised}
use Rattle.reduction.proofs.reduce_table.Goals as goal

pub returns-in_err-done : goal.returns-in_err-done
returns-in_err-done c = let a = c.args in
    let w = c.work in
    let p = err_from_is_err_and c.from_residual.result c.from_residual.ensures.1 in
    rw (p.1, p.2) (promised_refused (need_of a.way) (offset_of a.offset) a.mask (lent a.table) a.newcells.now a.newmarks.now a.scratch.now a.table.rows w.ensures.4
    w.new.newcells w.new.newmarks w.ensures.1 w.ensures.2 w.new.scratch w.ensures.3 w.ensures.0 c.in_err-done.was)

pub returns : goal.returns
returns c = let a = c.args in
    let w = c.work in
    let z = c.finish in
    promised (need_of a.way) (offset_of a.offset) a.mask (lent a.table) a.newcells.now a.newmarks.now a.scratch.now a.table.rows w.ensures.4
    w.new.newcells w.new.newmarks w.ensures.1 w.ensures.2 w.new.scratch w.ensures.3 w.ensures.0 c.in_ok-done.was z.ensures
