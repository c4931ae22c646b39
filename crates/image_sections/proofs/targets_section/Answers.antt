use mathlib.Core.Path.{sym, refl, ◌∙◌}
use Prim.Native.Nat.{◌+◌, ◌*◌, ◌-◌, ◌≤◌}
use native.Mathlib.Omega.{arith}
use lib.ListN.{length}
use Rattle.rules.proofs.Checks.{inside}
use Rattle.images.specs.Image as Image
use Rattle.images.proofs.Targets.{width_most}
use Rattle.image_numbers.proofs.Numbers.{number_got}
use Rattle.image_sections.proofs.targets_section.Goals as goal

pub overflow_mul-length : goal.overflow_mul-length
overflow_mul-length c = let a = c.args in
    let n = number_got a.image.now a.place c.in-Ok.count c.in-Ok.at (sym c.number-head.ensures ∙ c.in-Ok.is) in
    record { fits = rw c.width.ensures (omega (arith, n.value_is, c.type_inv.image a.place, c.type_inv.image (a.place + 1), width_most a.form c.in-Ok.count)) }

pub overflow_sub-image : goal.overflow_sub-image
overflow_sub-image c = let a = c.args in
    let n = number_got a.image.now a.place c.in-Ok.count c.in-Ok.at (sym c.number-head.ensures ∙ c.in-Ok.is) in
    omega (arith, n.next_is, n.inside)

pub check_targets-requires : goal.check_targets-requires
check_targets-requires c = let a = c.args in
    let n = number_got a.image.now a.place c.in-Ok.count c.in-Ok.at (sym c.number-head.ensures ∙ c.in-Ok.is) in
    let t : Image.width a.form * c.in-Ok.count ≤ length a.image.now - c.in-Ok.at = rw c.width.ensures at c.if-image-at.false in (
      ((inside _ _).0 (sym c.beyond.ensures.0 ∙ c.if-beyond.false)).0,
      refl,
      omega (arith, n.value_is, c.type_inv.image a.place, c.type_inv.image (a.place + 1)),
      omega (arith, t, n.next_is, n.inside),
    )
