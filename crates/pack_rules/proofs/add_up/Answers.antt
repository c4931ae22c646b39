use mathlib.Core.Path.{◌≡◌, ap, ◌∙◌}
use Prim.Native.Nat.{◌+◌, ◌*◌}
use native.Mathlib.Nat.{zero-add}
use Rattle.pack_rules.specs.declared.Entry.{Entry}
use Rattle.pack_rules.proofs.Sums.{cells_small, marks_small, image-small, sum-next, sum_fits, sum_none}
use native.Mathlib.Omega.{arith}
use Rattle.pack_rules.proofs.add_up.Goals as goal

pub overflow_add-cells : goal.overflow_add-cells
overflow_add-cells c = let cells = ap (λ (t : Entry). t.cells) c.entry_at-table.ensures in
    record { fits = sum_fits c.loop-i.invariant.0 (omega arith) _ cells cells_small (omega arith) c.requires (λ i. omega (arith, c.shared_slice_known-1.given i)) }

pub overflow_add-marks : goal.overflow_add-marks
overflow_add-marks c = let marks = ap (λ (t : Entry). t.marks) c.entry_at-table.ensures in
    record { fits = sum_fits c.loop-i.invariant.1 (omega arith) _ marks marks_small (omega arith) c.requires (λ i. omega (arith, c.shared_slice_known-1.given i)) }

pub overflow_add-bytes : goal.overflow_add-bytes
overflow_add-bytes c = record { fits = sum_fits c.loop-i.invariant.2 (omega arith) _ c.image_length-bytes.ensures image-small (omega arith) c.requires (λ i. omega (arith, c.shared_slice_known-1.given i)) }

pub loop-i-preserved : goal.loop-i-preserved
loop-i-preserved c = let l = c.loop-i in
    let read = c.entry_at-table.ensures in
    let next : 3 * (l.i + 1) ≡ 3 * l.i + 3 = omega arith in
    rw next (
      sum-next l.invariant.0 (omega arith) _ (ap (λ (t : Entry). t.cells) read),
      sum-next l.invariant.1 (omega arith) _ (ap (λ (t : Entry). t.marks) read),
      sum-next l.invariant.2 (omega arith) _ c.image_length-bytes.ensures,
    )

pub returns : goal.returns
returns c = let inv = c.loop-i.invariant in
    rw (sum_none inv.0 (omega arith) (omega arith) ∙ zero-add _, sum_none inv.1 (omega arith) (omega arith) ∙ zero-add _, sum_none inv.2 (omega arith) (omega arith))
