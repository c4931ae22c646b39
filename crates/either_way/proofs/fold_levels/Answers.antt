use mathlib.Core.Path.{refl}
use Rattle.scratch.specs.Scratch.{scratch_cells}
use Rattle.pairs.proofs.Triangle.{needed-value}
use Rattle.pairs.proofs.Figures.{many_rows, short_room}
use Rattle.either_way.proofs.Choice.{not-folded, levels-done}
use native.Mathlib.Omega.{arith}
use Rattle.either_way.proofs.fold_levels.Goals as goal
use Rattle.either_way.proofs.fold_levels.Goals.{else-rows-le1024-via-then-rows-le1024+else-needed-scratch, else-rows-le1024-via-else-rows-le1024}

pub returns-then-needed-scratch : goal.returns-then-needed-scratch
returns-then-needed-scratch c = let e = c.fold_rows.ensures in
    levels-done _ _ _ _ _ c.fold_rows.result e.0 e.1 e.2 e.3 e.4 c.requires (omega (arith, c.if-needed-scratch.true, c.needed.ensures))

pub returns-else-rows-le1024 : goal.returns-else-rows-le1024
returns-else-rows-le1024 c = elim c.else-rows-le1024.branch [
  | else-rows-le1024-via-then-rows-le1024+else-needed-scratch w ↦
      not-folded _ _ _ _ _ scratch_cells (short_room scratch_cells _ _ (omega (arith, w.if-needed-scratch.false, w.needed.ensures, needed-value c.args.rows))) refl
  | else-rows-le1024-via-else-rows-le1024 w ↦ not-folded _ _ _ _ _ scratch_cells (many_rows scratch_cells _ _ w.if-rows-le1024.false) refl
]
