use mathlib.Core.Path.{sym, ap, ◌∙◌}
use native.Mathlib.Numerals.{add-one}
use native.Mathlib.Omega.{arith}
use Rattle.std.specs.Prelude.{Err}
use Rattle.tables.proofs.Over.{rest_is}
use Rattle.pack_images.proofs.Walk.{front}
use Rattle.pack_images.proofs.Judging.{judging_begin, judging-refused, few_rows, few_events, image-inside, judging-next}
use Rattle.pack_images.proofs.judge.Goals as goal

pub loop-init : goal.loop-init
loop-init c = judging_begin c.args.whole c.args.images.now c.args.count

pub returns-in-Err : goal.returns-in-Err
returns-in-Err c = let b = c.args.images.now in
    let l = c.loop in
    let e = sym (c.open_image.ensures ∙ ap front (rest_is b l.at)) ∙ c.in-Err.is in
    ap Err c.in_pack.ensures ∙ sym (judging-refused l.invariant c.loop-test.true _ e)

pub overflow_cast-shape : goal.overflow_cast-shape
overflow_cast-shape c = let b = c.args.images.now in
    let l = c.loop in
    let e = sym (c.open_image.ensures ∙ ap front (rest_is b l.at)) ∙ c.in-Ok.is in
    record { fits = omega (arith, few_rows l.invariant c.loop-test.true (λ i. (c.type_inv.images i).fits) _ _ _ e) }

pub overflow_cast-shape-in-loop : goal.overflow_cast-shape-in-loop
overflow_cast-shape-in-loop c = let b = c.args.images.now in
    let l = c.loop in
    let e = sym (c.open_image.ensures ∙ ap front (rest_is b l.at)) ∙ c.in-Ok.is in
    record { fits = omega (arith, few_events l.invariant c.loop-test.true (λ i. (c.type_inv.images i).fits) _ _ _ e) }

pub overflow_add-at : goal.overflow_add-at
overflow_add-at c = let b = c.args.images.now in
    let l = c.loop in
    let e = sym (c.open_image.ensures ∙ ap front (rest_is b l.at)) ∙ c.in-Ok.is in
    record { fits = omega (arith, c.image_length-at.ensures, image-inside l.invariant c.loop-test.true (λ i. (c.type_inv.images i).fits) _ _ _ e) }

pub overflow_add-cells : goal.overflow_add-cells
overflow_add-cells c = let b = c.args.images.now in
    let l = c.loop in
    let e = sym (c.open_image.ensures ∙ ap front (rest_is b l.at)) ∙ c.in-Ok.is in
    let n = judging-next l.invariant c.loop-test.true (λ i. (c.type_inv.images i).fits) _ _ _ e in
    record { fits = omega (arith, n.in_few_cells) }

pub loop-preserved : goal.loop-preserved
loop-preserved c = let b = c.args.images.now in
    let l = c.loop in
    let e = sym (c.open_image.ensures ∙ ap front (rest_is b l.at)) ∙ c.in-Ok.is in
    let n = judging-next l.invariant c.loop-test.true (λ i. (c.type_inv.images i).fits) _ _ _ e in
    rw (add-one, c.image_length-at.ensures, c.mark_bytes-marks.ensures) n
