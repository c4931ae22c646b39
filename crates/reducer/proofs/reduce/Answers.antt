use Rattle.std.proofs.lemmas.Result.{err_from_is_err_and}
use Rattle.rules.specs.Rules.{lent, offset_of}
use Rattle.ways.specs.Ways.{need_of}
use Rattle.recording.proofs.Keeps.{keeps_refused, keeps}
use Rattle.reducer.proofs.reduce.Goals as goal

pub returns-in_err-done : goal.returns-in_err-done
returns-in_err-done c = let a = c.args in
    let w = c.work in
    let p = err_from_is_err_and c.from_residual.result c.from_residual.ensures.1 in
    rw (p.1, p.2) (keeps_refused (need_of a.way) (offset_of a.offset) a.mask (lent a.table) a.newcells.now a.newmarks.now a.records.now a.scratch.now
    w.new.newcells w.new.newmarks w.new.scratch w.ensures.4 w.ensures.1 w.ensures.2 w.ensures.3 w.ensures.0 c.in_err-done.was)

-- What the three calls leave, put together.
pub returns : goal.returns
returns c = let a = c.args in
    let w = c.work in
    keeps (need_of a.way) (offset_of a.offset) a.mask (lent a.table) a.newcells.now a.newmarks.now a.records.now a.scratch.now
    w.new.newcells w.new.newmarks w.new.scratch w.ensures.4 w.ensures.1 w.ensures.2 w.ensures.3 w.ensures.0 c.in_ok-done.was c.write_records.ensures c.finish.ensures
