use Prim.Native.Nat.{◌+◌}
use mathlib.Core.Path.{◌≡◌}
use native.Mathlib.Omega.{arith}
use Rattle.pairs.specs.Pairs.{triangle}
use Rattle.pairs.proofs.Triangle.{triangle_bound}
use Rattle.pairs.proofs.RowStarts.{start_right}
use Rattle.distances.proofs.Visits.{visit_other, visit_fits, visit_raised}
use Rattle.distances.proofs.visit.Goals as goal
use Rattle.distances.proofs.visit.Goals.{then-cell-level-via-then-cell-level, then-cell-level-via-else-cell-level+then-pair_fits}

pub overflow_add-at : goal.overflow_add-at
overflow_add-at c = let q = c.args.q in
    omega (arith, c.row_start.ensures, start_right _ c.requires.starts_value q, triangle_bound q (omega arith))

pub returns-then-cell-level : goal.returns-then-cell-level
returns-then-cell-level c = let a = c.args in
    let e : c.row_start.result + a.p ≡ triangle a.q + a.p = omega (arith, c.row_start.ensures, start_right _ c.requires.starts_value a.q) in
    elim (c.then-cell-level.branch) [
      | then-cell-level-via-then-cell-level w ↦ visit_other c.requires.begun a.q a.p _ _ e c.cell.ensures c.requires.q_lt_rows.1 w.if-cell-level.true
      | then-cell-level-via-else-cell-level+then-pair_fits w ↦ visit_fits c.requires.begun a.q a.p (w.pair_fits.ensures.holds w.if-pair_fits.true)
    ]

pub returns : goal.returns
returns c = let a = c.args in
    let e : c.row_start.result + a.p ≡ triangle a.q + a.p = omega (arith, c.row_start.ensures, start_right _ c.requires.starts_value a.q) in
    visit_raised c.requires.begun a.q a.p _ _ c.put.new.cells e c.cell.ensures c.requires.q_lt_rows.0 c.requires.q_lt_rows.1 c.if-cell-level.false (c.pair_fits.ensures.fails c.if-pair_fits.false) c.put.ensures
