use mathlib.Core.Path.{sym}
use Rattle.text.proofs.Buffer.{puts_as}
use Rattle.sheet_desk.proofs.Listed.{refusal_is, entries-part, text_is}
use Rattle.sheet_desk.proofs.write_table_text.Goals as goal

pub slice_bounds-list-end : goal.slice_bounds-list-end
slice_bounds-list-end c = entries-part c.ranges.mask.fits c.requires.0 c.requires.1 c.write_sheet.ensures c.in-Ok.is c.write_sheet.auto.list

pub returns-in-Err : goal.returns-in-Err
returns-in-Err c = puts_as (sym (refusal_is c.ranges.mask.fits c.requires.0 c.requires.1 c.write_sheet.ensures c.in-Err.is)) (rw c.number.ensures at c.put_refusal.ensures)

pub returns-in-Ok : goal.returns-in-Ok
returns-in-Ok c = puts_as (sym (text_is c.ranges.mask.fits c.requires.0 c.requires.1 c.write_sheet.ensures c.in-Ok.is c.write_sheet.auto.list c.counted.ensures)) c.put_sheet.ensures
