use mathlib.Core.Path.{◌≡◌}
use Prim.Native.Nat.{◌+◌, ◌*◌}
use Rattle.pack_rules.proofs.Left.{cells_fit, marks_fit}
use Rattle.pack_writer.proofs.Writing.{going_all, going_none, never-refused, ends-within, going_next}
use native.Mathlib.Omega.{arith}
use Rattle.pack_writer.proofs.put_images.Goals as goal

pub loop-i-init : goal.loop-i-init
loop-i-init c = let a = c.args in
    let p = c.requires in
    going_all a.list.now a.cells.now a.marks.now a.out.now p.0 p.1 p.2 p.3

pub slice_bounds-table-end : goal.slice_bounds-table-end
slice_bounds-table-end c = cells_fit c.loop-i.invariant.left (omega arith) _ c.entry_at-entry.ensures

pub slice_bounds-table-end-in-loop-i : goal.slice_bounds-table-end-in-loop-i
slice_bounds-table-end-in-loop-i c = marks_fit c.loop-i.invariant.left (omega arith) _ c.entry_at-entry.ensures

pub returns-in_default : goal.returns-in_default
returns-in_default c = never-refused c.loop-i.invariant (omega arith) _ c.entry_at-entry.ensures _ c.write_radio_image.ensures.0 _ c.in_default.is

pub overflow_add-to : goal.overflow_add-to
overflow_add-to c = let ends = ends-within c.loop-i.invariant (omega arith) _ c.entry_at-entry.ensures _ c.write_radio_image.ensures.0 _ c.in-Ok.is in
    record { fits = omega (arith, ends, c.well_formed.1.1.1.0.0) }

pub loop-i-preserved : goal.loop-i-preserved
loop-i-preserved c = let l = c.loop-i in
    let w = c.write_radio_image in
    let next : 3 * (l.i + 1) ≡ 3 * l.i + 3 = omega arith in
    rw next (going_next l.invariant (omega arith) _ c.entry_at-entry.ensures _ w.ensures.0 _ c.in-Ok.is _ w.ensures.1)

pub returns : goal.returns
returns c = going_none c.loop-i.invariant (omega arith)
