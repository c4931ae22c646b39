use mathlib.Core.Path.{refl}
use Rattle.pairs.specs.Pairs.{needed}
use Rattle.pairs.proofs.Figures.{many_rows, short_room}
use Rattle.apart.proofs.Found.{not_found, levels-found}
use native.Mathlib.Omega.{arith}
use Rattle.apart.proofs.by_levels.Goals as goal
use Rattle.apart.proofs.by_levels.Goals.{else-rows-le1024-via-then-rows-le1024+else-needed-scratch, else-rows-le1024-via-else-rows-le1024}

pub returns-then-needed-scratch : goal.returns-then-needed-scratch
returns-then-needed-scratch c = let e = c.find_apart.ensures in
    levels-found _ _ _ _ c.find_apart.result e.0 e.1 e.2 e.3 e.4 c.requires (omega (arith, c.if-needed-scratch.true, c.needed.ensures))

pub returns-else-rows-le1024 : goal.returns-else-rows-le1024
returns-else-rows-le1024 c = elim c.else-rows-le1024.branch [
  | else-rows-le1024-via-then-rows-le1024+else-needed-scratch w ↦ not_found _ _ _ _ 0 (short_room needed _ _ (omega (arith, w.if-needed-scratch.false, w.needed.ensures))) refl
  | else-rows-le1024-via-else-rows-le1024 w ↦ not_found _ _ _ _ 0 (many_rows needed _ _ w.if-rows-le1024.false) refl
]
