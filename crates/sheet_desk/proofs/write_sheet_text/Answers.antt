use mathlib.Core.Path.{sym}
use Rattle.text.proofs.Buffer.{puts_as, puts_all}
use Rattle.sheet_desk.proofs.Input.{short_text, whole-text}
use Rattle.sheet_desk.proofs.write_sheet_text.Goals as goal

pub returns-then-input-lt4 : goal.returns-then-input-lt4
returns-then-input-lt4 c = puts_all (puts_as (sym (short_text c.args.input.now c.if-input-lt4.true)) c.put_refusal.ensures)

pub returns : goal.returns
returns c = puts_all (puts_as (sym (whole-text c.args.input.now c.if-input-lt4.false c.mask_of-mask.ensures)) c.write_image_text.ensures)
