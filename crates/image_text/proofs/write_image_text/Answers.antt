use mathlib.Core.Path.{sym}
use Rattle.text.proofs.Buffer.{puts_as}
use Rattle.image_text.specs.ImageText.{masked_text}
use Rattle.image_text.proofs.Taken.{refused-text, cells_part, cells_length, marks_part, marks_length, taken-valid, taken-text}
use Rattle.image_text.proofs.write_image_text.Goals as goal

pub slice_bounds-cells-end : goal.slice_bounds-cells-end
slice_bounds-cells-end g c = cells_part c.load-read.ensures c.in-Ok.is

pub slice_bounds-table-end : goal.slice_bounds-table-end
slice_bounds-table-end g c = cells_length c.load-read.ensures c.in-Ok.is

pub slice_bounds-marks-end : goal.slice_bounds-marks-end
slice_bounds-marks-end g c = marks_part c.load-read.ensures c.in-Ok.is

pub slice_bounds-table-end-in-Ok : goal.slice_bounds-table-end-in-Ok
slice_bounds-table-end-in-Ok g c = marks_length c.load-read.ensures c.in-Ok.is

pub returns-in-Err : goal.returns-in-Err
returns-in-Err g c = let a = c.args in
    let text = masked_text a.mask (g.T.TableText.text a.table_text.now a.mask) in
    puts_as (sym (refused-text c.load-read.ensures text c.in-Err.is)) (rw c.number.ensures at c.put_refusal.ensures)

pub returns-in-Ok : goal.returns-in-Ok
returns-in-Ok g c = let a = c.args in
    let text = masked_text a.mask (g.T.TableText.text a.table_text.now a.mask) in
    puts_as (sym (taken-text c.load-read.ensures c.in-Ok.is text)) c.write.ensures

pub invariant_of-write : goal.invariant_of-write
invariant_of-write g c =
    let v = taken-valid c.load-read.ensures c.in-Ok.is in
    record { valid = v.0; few = v.1 }
