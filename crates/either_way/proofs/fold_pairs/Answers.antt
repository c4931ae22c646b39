use mathlib.Core.Path.{sym, ◌∙◌}
use Rattle.pairs.proofs.Works.{workable_shape}
use Rattle.either_way.proofs.Pairs.{pairs_fit, pairs-folded}
use Rattle.either_way.proofs.Choice.{pairs-not, pairs_done}
use native.Mathlib.Omega.{arith}
use Rattle.either_way.proofs.fold_pairs.Goals as goal

pub overflow_cast-rows : goal.overflow_cast-rows
overflow_cast-rows c = let w = sym c.fold_rows.ensures.0 ∙ c.if-fold_rows.true in
    record { fits = omega (arith, (workable_shape _ _ w).rows_fit) }

pub overflow_mul-rows : goal.overflow_mul-rows
overflow_mul-rows c = let w = sym c.fold_rows.ensures.0 ∙ c.if-fold_rows.true in
    omega (arith, (workable_shape _ _ w).rows_fit)

pub overflow_add-from : goal.overflow_add-from
overflow_add-from c = let w = sym c.fold_rows.ensures.0 ∙ c.if-fold_rows.true in
    omega (arith, c.pair_cells-from.ensures, pairs_fit _ _ _ _ w _ c.fold_rows.ensures.1)

pub copy_within-requires-clause-in_bounds : goal.copy_within-requires-clause-in_bounds
copy_within-requires-clause-in_bounds c = let w = sym c.fold_rows.ensures.0 ∙ c.if-fold_rows.true in
    omega (arith, c.pair_cells-from.ensures, pairs_fit _ _ _ _ w _ c.fold_rows.ensures.1)

pub copy_within-requires-clause-dest_in_bounds : goal.copy_within-requires-clause-dest_in_bounds
copy_within-requires-clause-dest_in_bounds c = let w = sym c.fold_rows.ensures.0 ∙ c.if-fold_rows.true in
    omega (arith, c.pair_cells-from.ensures, pairs_fit _ _ _ _ w _ c.fold_rows.ensures.1)

pub returns-then-fold_rows : goal.returns-then-fold_rows
returns-then-fold_rows c = let f = c.fold_rows.ensures in
    let w = sym f.0 ∙ c.if-fold_rows.true in
    let m = c.copy_within.ensures in
    pairs_done _ _ _ _ _ w (pairs-folded _ _ _ _ w _ f.1 _ _ _ c.pair_cells-from.ensures (omega arith) m.len m.by_index.0 m.by_index.2)

pub returns-else-fold_rows : goal.returns-else-fold_rows
returns-else-fold_rows c = let f = c.fold_rows.ensures in
    pairs-not _ _ _ _ _ (sym f.0 ∙ c.if-fold_rows.false) f.1
