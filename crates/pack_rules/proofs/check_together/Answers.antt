use mathlib.Core.Path.{sym, ◌∙◌}
use Rattle.std.proofs.lemmas.Result.{err_from_is_err_and}
use Rattle.rules.proofs.First.{room_broken, room_kept}
use Rattle.pack_rules.proofs.Accepted.{after-together}
use Rattle.pack_rules.proofs.check_together.Goals as goal

pub returns-then-room-needed : goal.returns-then-room-needed
returns-then-room-needed c = let a = c.args in
    let e = c.add_up-needed.ensures in
    rw c.at-then-room-needed.ensures (sym (after-together a.list.now a.cells.now a.marks.now a.room c.if-list-ne0.false (rw e at c.if-cells-needed.false) (rw e at c.if-marks-needed.false) _ c.check_tables.ensures ∙ simp (c.in_ok-check_tables.was, room_broken _ _ (rw e at c.if-room-needed.true))))

pub returns-in_err-check_tables : goal.returns-in_err-check_tables
returns-in_err-check_tables c = let a = c.args in
    let e = c.add_up-needed.ensures in
    let p = err_from_is_err_and c.from_residual.result c.from_residual.ensures.1 in
    rw (p.1, p.2) (sym (after-together a.list.now a.cells.now a.marks.now a.room c.if-list-ne0.false (rw e at c.if-cells-needed.false) (rw e at c.if-marks-needed.false) _ c.check_tables.ensures ∙ simp c.in_err-check_tables.was))

pub returns : goal.returns
returns c = let a = c.args in
    let e = c.add_up-needed.ensures in
    sym (after-together a.list.now a.cells.now a.marks.now a.room c.if-list-ne0.false (rw e at c.if-cells-needed.false) (rw e at c.if-marks-needed.false) _ c.check_tables.ensures ∙ simp (c.in_ok-check_tables.was, room_kept _ _ (rw e at c.if-room-needed.false)))
