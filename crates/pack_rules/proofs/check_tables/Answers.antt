use mathlib.Core.Path.{◌≡◌, sym, ◌∙◌}
use Prim.Native.Nat.{◌+◌, ◌*◌, ◌≤◌}
use lib.ListN.{length}
use Rattle.pack_rules.proofs.Left.{cells_fit, marks_fit, left-next, sizes-behind, none-judged, here-refused, here-fine}
use Rattle.std.proofs.lemmas.Result.{err_from_is_err_and}
use native.Mathlib.Omega.{arith}
use Rattle.pack_rules.proofs.check_tables.Goals as goal

pub slice_bounds-table-end : goal.slice_bounds-table-end
slice_bounds-table-end c = let l = c.loop-i in
    cells_fit l.invariant.0 (omega arith) _ c.entry_at-entry.ensures

pub slice_bounds-table-end-in-loop-i : goal.slice_bounds-table-end-in-loop-i
slice_bounds-table-end-in-loop-i c = let l = c.loop-i in
    marks_fit l.invariant.0 (omega arith) _ c.entry_at-entry.ensures

pub returns-in_err-check_image : goal.returns-in_err-check_image
returns-in_err-check_image c = let l = c.loop-i in
    let p = err_from_is_err_and c.from_residual.result c.from_residual.ensures.1 in
    rw (p.1, p.2) (here-refused l.invariant.0 (omega arith) _ c.entry_at-entry.ensures l.invariant.1 _ c.check_image.ensures _ c.in_err-check_image.was ∙ l.invariant.2)

pub loop-i-preserved : goal.loop-i-preserved
loop-i-preserved c = let l = c.loop-i in
    let next : 3 * (l.i + 1) ≡ 3 * l.i + 3 = omega arith in
    let h : 3 * l.i + 3 ≤ length c.args.list.now = omega arith in
    let read = c.entry_at-entry.ensures in
    rw next (
      left-next l.invariant.0 h _ read,
      sizes-behind l.invariant.0 h _ read l.invariant.1,
      here-fine l.invariant.0 h _ read l.invariant.1 _ c.check_image.ensures c.in_ok-check_image.was ∙ l.invariant.2,
    )

pub returns : goal.returns
returns c = let l = c.loop-i in
    sym (none-judged l.invariant.0 (omega arith)) ∙ l.invariant.2
