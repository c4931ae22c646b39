use mathlib.Core.Path.{◌≡◌, sym, ap, refl, ◌∙◌}
use Prim.Native.Nat.{ℕ, ◌+◌, ◌*◌}
use borrow.Author.Tests.{lt-ltb, le-ltb}
use Prim.Native.Nat.{◌<◌}
use Rattle.std.proofs.lemmas.Result.{err_from_is_err_and}
use lib.ListN.{length, take, drop}
use Rattle.tables.specs.Table.{mark_byte_count}
use Rattle.tables.specs.Lists.{over}
use Rattle.images.specs.Image.{cells_at, targets_at}
use Rattle.image_sections.specs.Read.{at_most}
use Rattle.image_sections.proofs.Order.{image-order}
use Rattle.image_reader.proofs.Accepted.{read_holds}
use native.Mathlib.Omega.{arith}
use Rattle.image_reader.proofs.read_as.Goals as goal
use Rattle.image_reader.proofs.read_as.Goals.{then-cells-count-via-then-cells-count, then-cells-count-via-else-cells-count+then-marks-bytes}

pub returns-in_err-shape : goal.returns-in_err-shape
returns-in_err-shape c = let a = c.args in
    let e = sym (c.judge.ensures ∙ image-order a.alone a.form a.limits (at_most a.small) a.image.now) ∙ c.in_err-shape.was in
    let p = err_from_is_err_and c.from_residual.result c.from_residual.ensures.1 in
    rw (p.1, p.2, e) (refl, refl, refl)

pub overflow_mul-count : goal.overflow_mul-count
overflow_mul-count c = let a = c.args in
    let s = c.in_ok-shape.shape in
    let b = a.image.now in
    let e = sym (c.judge.ensures ∙ image-order a.alone a.form a.limits (at_most a.small) b) ∙ c.in_ok-shape.was in
    let h = read_holds a.alone a.form a.limits (at_most a.small) b (λ i. (c.type_inv.image i).fits) s.rows s.events s.start e in
    record { fits = omega (arith, h.small) }

pub returns-then-cells-count : goal.returns-then-cells-count
returns-then-cells-count c = let a = c.args in
    let s = c.in_ok-shape.shape in
    let e = sym (c.judge.ensures ∙ image-order a.alone a.form a.limits (at_most a.small) a.image.now) ∙ c.in_ok-shape.was in
    elim c.then-cells-count.branch [
      | then-cells-count-via-then-cells-count w ↦ rw (c.at.ensures, e, lt-ltb _ _ w.if-cells-count.true) (refl, refl, refl)
      | then-cells-count-via-else-cells-count+then-marks-bytes w ↦ (
          let few : length a.marks.now < mark_byte_count s.rows = omega (arith, w.if-marks-bytes.true, c.mark_bytes-bytes.ensures) in
          rw (c.at.ensures, e, le-ltb _ _ w.if-cells-count.false, lt-ltb _ _ few) (refl, refl, refl)
          )
    ]

pub copy_marks-requires : goal.copy_marks-requires
copy_marks-requires c = let a = c.args in
    let s = c.in_ok-shape.shape in
    let b = a.image.now in
    let e = sym (c.judge.ensures ∙ image-order a.alone a.form a.limits (at_most a.small) b) ∙ c.in_ok-shape.was in
    let h = read_holds a.alone a.form a.limits (at_most a.small) b (λ i. (c.type_inv.image i).fits) s.rows s.events s.start e in
    (omega (arith, h.fits, c.mark_bytes-bytes.ensures), omega arith)

pub copy_cells-requires : goal.copy_cells-requires
copy_cells-requires c = let a = c.args in
    let s = c.in_ok-shape.shape in
    let b = a.image.now in
    let m = c.mark_bytes-bytes in
    let e = sym (c.judge.ensures ∙ image-order a.alone a.form a.limits (at_most a.small) b) ∙ c.in_ok-shape.was in
    let h = read_holds a.alone a.form a.limits (at_most a.small) b (λ i. (c.type_inv.image i).fits) s.rows s.events s.start e in
    let at : 4 + m.result ≡ targets_at s.rows + 2 = omega (arith, m.ensures) in
    (h.some_event, h.small, omega (arith, h.fits, m.ensures), omega arith, λ i k. rw at (h.targets_small i k))

pub returns : goal.returns
returns c = let a = c.args in
    let s = c.in_ok-shape.shape in
    let b = a.image.now in
    let e = sym (c.judge.ensures ∙ image-order a.alone a.form a.limits (at_most a.small) b) ∙ c.in_ok-shape.was in
    let m = c.mark_bytes-bytes in
    let fits = le-ltb (length a.cells.now) (s.rows * s.events) (omega arith) in
    let room = le-ltb (length a.marks.now) (mark_byte_count s.rows) (omega (arith, m.ensures)) in
    let at : 4 + m.result ≡ targets_at s.rows + 2 = omega (arith, m.ensures) in (
      simp (e, fits, room),
      c.copy_cells.ensures ∙ ap (λ (k : ℕ). over a.cells.now 0 (cells_at a.form b s.events k (s.rows * s.events))) at,
      c.copy_marks.ensures ∙ ap (λ (k : ℕ). over a.marks.now 0 (take k (drop 2 b))) m.ensures,
    )
