use mathlib.Core.Path.{sym, ap, ◌∙◌}
use lib.ListN.{length}
use Rattle.image_numbers.proofs.Numbers.{number_cut}
use Rattle.std.specs.Prelude.{Ok}
use Rattle.std.proofs.lemmas.Result.{err_from_is_err_and}
use Rattle.rules.specs.Rules.{refusal}
use Rattle.rules.specs.declared.Rule.TheVariants.{Short, Pack}
use Rattle.pack_reader.proofs.Reading.{pack_cut, count-outside, counted, needed-never, needed, unpacks_refused, short_list, short_cells, short-marks, unpacks-tables}
use native.Mathlib.Omega.{arith}
use Rattle.pack_reader.proofs.read_pack.Goals as goal

pub returns-in_default : goal.returns-in_default
returns-in_default c = let a = c.args in
    let b = a.pack.now in
    rw c.at.ensures (unpacks_refused b a.list.now a.cells.now a.marks.now (refusal Short (length b)) (pack_cut b (number_cut b 0 _ (sym c.number-head.ensures ∙ c.in_default.is))))

pub returns-then-beyond : goal.returns-then-beyond
returns-then-beyond c = let a = c.args in
    let b = a.pack.now in
    rw c.at-then-beyond.ensures (unpacks_refused b a.list.now a.cells.now a.marks.now (refusal Pack 0) (count-outside b _ _ (sym c.number-head.ensures ∙ c.in-Ok.is) (sym c.beyond.ensures.0 ∙ c.if-beyond.true)))

pub slice_bounds-judge-count : goal.slice_bounds-judge-count
slice_bounds-judge-count c = let k = counted c.args.pack.now _ _ (sym c.number-head.ensures ∙ c.in-Ok.is) (sym c.beyond.ensures.0 ∙ c.if-beyond.false) in
    omega (arith, k.two)

pub slice_bounds-judge-start : goal.slice_bounds-judge-start
slice_bounds-judge-start c = let k = counted c.args.pack.now _ _ (sym c.number-head.ensures ∙ c.in-Ok.is) (sym c.beyond.ensures.0 ∙ c.if-beyond.false) in
    omega (arith, k.two)

pub overflow_mul-count : goal.overflow_mul-count
overflow_mul-count c = let k = counted c.args.pack.now _ _ (sym c.number-head.ensures ∙ c.in-Ok.is) (sym c.beyond.ensures.0 ∙ c.if-beyond.false) in
    record { fits = omega (arith, k.few) }

pub returns-then-list-count : goal.returns-then-list-count
returns-then-list-count c = let a = c.args in
    let b = a.pack.now in
    let k = counted b _ _ (sym c.number-head.ensures ∙ c.in-Ok.is) (sym c.beyond.ensures.0 ∙ c.if-beyond.false) in
    let n = needed k (λ i. (c.type_inv.pack i).fits) _ (sym c.judge.ensures ∙ c.in_ok-needs.was) in
    rw c.at-then-list-count.ensures (short_list b a.list.now a.cells.now a.marks.now _ n.is (omega (arith, n.many)))

pub returns-then-cells-needs : goal.returns-then-cells-needs
returns-then-cells-needs c = let a = c.args in
    let b = a.pack.now in
    let k = counted b _ _ (sym c.number-head.ensures ∙ c.in-Ok.is) (sym c.beyond.ensures.0 ∙ c.if-beyond.false) in
    let n = needed k (λ i. (c.type_inv.pack i).fits) _ (sym c.judge.ensures ∙ c.in_ok-needs.was) in
    rw c.at-then-cells-needs.ensures (short_cells b a.list.now a.cells.now a.marks.now _ n.is (omega (arith, n.cells_are)))

pub returns-then-marks-needs : goal.returns-then-marks-needs
returns-then-marks-needs c = let a = c.args in
    let b = a.pack.now in
    let k = counted b _ _ (sym c.number-head.ensures ∙ c.in-Ok.is) (sym c.beyond.ensures.0 ∙ c.if-beyond.false) in
    let n = needed k (λ i. (c.type_inv.pack i).fits) _ (sym c.judge.ensures ∙ c.in_ok-needs.was) in
    rw c.at-then-marks-needs.ensures (short-marks b a.list.now a.cells.now a.marks.now _ n.is (omega (arith, n.marks_are)))

pub take_images-requires : goal.take_images-requires
take_images-requires c = let a = c.args in
    let b = a.pack.now in
    let k = counted b _ _ (sym c.number-head.ensures ∙ c.in-Ok.is) (sym c.beyond.ensures.0 ∙ c.if-beyond.false) in
    let n = needed k (λ i. (c.type_inv.pack i).fits) _ (sym c.judge.ensures ∙ c.in_ok-needs.was) in
    (k.two, k.few, record { found = n.found; list_room = omega (arith, n.many); cells_room = omega (arith, n.cells_are); marks_room = omega (arith, n.marks_are) })

pub returns-in_err-needs : goal.returns-in_err-needs
returns-in_err-needs c = let a = c.args in
    let b = a.pack.now in
    let k = counted b _ _ (sym c.number-head.ensures ∙ c.in-Ok.is) (sym c.beyond.ensures.0 ∙ c.if-beyond.false) in
    let p = err_from_is_err_and c.from_residual.result c.from_residual.ensures.1 in
    rw (p.1, p.2) (unpacks_refused b a.list.now a.cells.now a.marks.now _ (needed-never k _ (sym c.judge.ensures ∙ c.in_err-needs.was)))

pub returns : goal.returns
returns c = let a = c.args in
    let b = a.pack.now in
    let k = counted b _ _ (sym c.number-head.ensures ∙ c.in-Ok.is) (sym c.beyond.ensures.0 ∙ c.if-beyond.false) in
    let n = needed k (λ i. (c.type_inv.pack i).fits) _ (sym c.judge.ensures ∙ c.in_ok-needs.was) in
    let u = unpacks-tables b a.list.now a.cells.now a.marks.now _ n.is (omega (arith, n.many)) (omega (arith, n.cells_are)) (omega (arith, n.marks_are)) in
    let t = c.take_images.ensures in
    (ap Ok (sym n.many) ∙ u.0, t.0 ∙ u.1, t.1 ∙ u.2, t.2 ∙ u.3)
