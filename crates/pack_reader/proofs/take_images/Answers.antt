use mathlib.Core.Path.{sym, ap, ◌∙◌}
use native.Mathlib.Numerals.{add-one}
use lib.ListN.{drop}
use Rattle.images.specs.Image.{cells_of, marks_of}
use Rattle.images.specs.declared.Form.TheVariants.{Radio}
use Rattle.image_sections.specs.Read.{Read}
use Rattle.pack_reader.specs.Walk.{part_from}
use Rattle.pack_reader.proofs.Taking.{taking_begin, roomed-table, image-inside, list_room, cells_room, marks_room, few_rows, few_events, start_inside, taking-next, taking-never, taking_end}
use native.Mathlib.Omega.{arith}
use Rattle.pack_reader.proofs.take_images.Goals as goal

pub loop-i-init : goal.loop-i-init
loop-i-init c = let a = c.args in
    taking_begin a.pack.now (λ i. (c.type_inv.pack i).fits) a.count a.list.now a.cells.now a.marks.now c.requires.0 c.requires.2

pub take_image-read-requires : goal.take_image-read-requires
take_image-read-requires c = let t = c.loop-i.invariant in
    (t.at_in, omega (arith, t.cells_fill.room), omega (arith, t.marks_fill.room))

pub shape_of-list-in_default : goal.shape_of-list-in_default
shape_of-list-in_default c = taking-never c.loop-i.invariant (λ i. (c.type_inv.pack i).fits) c.loop-i-test.true _ (sym c.take_image-read.ensures.0 ∙ c.in_default.is)

pub shape_of-cells-in_default : goal.shape_of-cells-in_default
shape_of-cells-in_default c = taking-never c.loop-i.invariant (λ i. (c.type_inv.pack i).fits) c.loop-i-test.true _ (sym c.take_image-read.ensures.0 ∙ c.in_default.is)

pub shape_of-marks-in_default : goal.shape_of-marks-in_default
shape_of-marks-in_default c = taking-never c.loop-i.invariant (λ i. (c.type_inv.pack i).fits) c.loop-i-test.true _ (sym c.take_image-read.ensures.0 ∙ c.in_default.is)

pub returns-in_default : goal.returns-in_default
returns-in_default c = taking-never c.loop-i.invariant (λ i. (c.type_inv.pack i).fits) c.loop-i-test.true _ (sym c.take_image-read.ensures.0 ∙ c.in_default.is)

pub put_entry-requires : goal.put_entry-requires
put_entry-requires c = let few = few_rows c.loop-i.invariant (λ i. (c.type_inv.pack i).fits) c.loop-i-test.true _ _ _ (roomed-table _ _ _ _ (sym c.take_image-read.ensures.0 ∙ c.in-Ok.is)) in
    (list_room c.loop-i.invariant (λ i. (c.type_inv.pack i).fits) c.loop-i-test.true _ _ _ (roomed-table _ _ _ _ (sym c.take_image-read.ensures.0 ∙ c.in-Ok.is)), omega (arith, few), omega (arith, few_events c.loop-i.invariant (λ i. (c.type_inv.pack i).fits) c.loop-i-test.true _ _ _ (roomed-table _ _ _ _ (sym c.take_image-read.ensures.0 ∙ c.in-Ok.is))), omega (arith, few, start_inside c.loop-i.invariant (λ i. (c.type_inv.pack i).fits) c.loop-i-test.true _ _ _ (roomed-table _ _ _ _ (sym c.take_image-read.ensures.0 ∙ c.in-Ok.is))))

pub overflow_cast-table : goal.overflow_cast-table
overflow_cast-table c = record { fits = omega (arith, few_rows c.loop-i.invariant (λ i. (c.type_inv.pack i).fits) c.loop-i-test.true _ _ _ (roomed-table _ _ _ _ (sym c.take_image-read.ensures.0 ∙ c.in-Ok.is))) }

pub overflow_cast-table-in-loop-i : goal.overflow_cast-table-in-loop-i
overflow_cast-table-in-loop-i c = record { fits = omega (arith, few_events c.loop-i.invariant (λ i. (c.type_inv.pack i).fits) c.loop-i-test.true _ _ _ (roomed-table _ _ _ _ (sym c.take_image-read.ensures.0 ∙ c.in-Ok.is))) }

pub overflow_add-at : goal.overflow_add-at
overflow_add-at c = record { fits = omega (arith, c.image_length-at.ensures, image-inside c.loop-i.invariant (λ i. (c.type_inv.pack i).fits) c.loop-i-test.true _ _ _ (roomed-table _ _ _ _ (sym c.take_image-read.ensures.0 ∙ c.in-Ok.is))) }

pub overflow_mul-c : goal.overflow_mul-c
overflow_mul-c c = record { fits = omega (arith, cells_room c.loop-i.invariant (λ i. (c.type_inv.pack i).fits) c.loop-i-test.true _ _ _ (roomed-table _ _ _ _ (sym c.take_image-read.ensures.0 ∙ c.in-Ok.is))) }

pub overflow_add-c : goal.overflow_add-c
overflow_add-c c = record { fits = omega (arith, cells_room c.loop-i.invariant (λ i. (c.type_inv.pack i).fits) c.loop-i-test.true _ _ _ (roomed-table _ _ _ _ (sym c.take_image-read.ensures.0 ∙ c.in-Ok.is))) }

pub overflow_add-m : goal.overflow_add-m
overflow_add-m c = record { fits = omega (arith, c.mark_bytes-m.ensures, marks_room c.loop-i.invariant (λ i. (c.type_inv.pack i).fits) c.loop-i-test.true _ _ _ (roomed-table _ _ _ _ (sym c.take_image-read.ensures.0 ∙ c.in-Ok.is))) }

pub loop-i-preserved : goal.loop-i-preserved
loop-i-preserved c = let k = c.take_image-read.ensures in
    let b = drop c.loop-i.at c.args.pack.now in
    let n = taking-next c.loop-i.invariant (λ i. (c.type_inv.pack i).fits) c.loop-i-test.true _ _ _ (roomed-table _ _ _ _ (sym c.take_image-read.ensures.0 ∙ c.in-Ok.is)) _ _ _ c.put_entry.ensures
    (k.1 ∙ ap (λ (r : Read). part_from r (λ rows events. cells_of Radio b rows events) c.loop-i.cells c.loop-i.c) c.in-Ok.is)
    (k.2 ∙ ap (λ (r : Read). part_from r (λ rows events. marks_of b rows) c.loop-i.marks c.loop-i.m) c.in-Ok.is) in
    rw (add-one, c.image_length-at.ensures, c.mark_bytes-m.ensures) n

pub returns : goal.returns
returns c = taking_end c.loop-i.invariant (λ i. (c.type_inv.pack i).fits) c.loop-i-test.false
