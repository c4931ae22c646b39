use mathlib.Core.Path.{sym}
use Rattle.text.proofs.Buffer.{puts_as, puts_all}
use Rattle.image_text.proofs.Offsets.{offset_short, offset-whole}
use Rattle.desk.specs.Printed.{reduction_text, printed}
use Rattle.desk.proofs.write_text.Goals as goal

pub returns-then-input-lt6 : goal.returns-then-input-lt6
unfolding printed
returns-then-input-lt6 c = let a = c.args in
    let w = c.put_refusal.ensures in
    let e = offset_short reduction_text a.input.now c.if-input-lt6.true in
    puts_all (puts_as (sym e) w)

pub returns : goal.returns
unfolding printed
returns c = let a = c.args in
    let w = c.write_image_text.ensures in
    let e = offset-whole reduction_text a.input.now c.if-input-lt6.false c.offset_of-offset.ensures c.mask_of-mask.ensures in
    puts_all (puts_as (sym e) w)
