use lib.ListN.{length}
use Rattle.std.proofs.lemmas.Result.{err_from_is_err_and}
use Rattle.load.proofs.Promised.{checked, promise_refused, promise_fine}
use Rattle.load.proofs.generate.Goals as goal

pub returns-in_err-check : goal.returns-in_err-check
returns-in_err-check c = let a = c.args in
    let p = err_from_is_err_and c.from_residual.result c.from_residual.ensures.1 in
    rw (p.1, p.2) (promise_refused a.seed a.rows a.events a.cells.now a.marks.now _ c.check.ensures c.in_err-check.was)

pub draw_cells-state-requires : goal.draw_cells-state-requires
draw_cells-state-requires c = let a = c.args in
    let k = checked a.seed a.rows a.events (length a.cells.now) (length a.marks.now) _ c.check.ensures c.in_ok-check.was in
    (k.rows_fit, k.some_event, k.events_fit, k.cells_room)

pub draw_marks-requires : goal.draw_marks-requires
draw_marks-requires c = let a = c.args in
    let k = checked a.seed a.rows a.events (length a.cells.now) (length a.marks.now) _ c.check.ensures c.in_ok-check.was in
    (k.rows_fit, k.marks_room)

pub returns : goal.returns
returns c = let a = c.args in
    let t = c.draw_cells-state in
    let m = c.draw_marks in
    promise_fine a.seed a.rows a.events a.cells.now a.marks.now _ c.check.ensures c.in_ok-check.was t.result _ _ t.ensures.0 t.ensures.1 m.ensures
