use native.Mathlib.Omega.{arith}
use Rattle.rules.specs.Rules.{table_of}
use Rattle.depths.proofs.Moves.{risen_raised, relax-told}
use Rattle.depths.proofs.relax.Goals as goal

pub returns : goal.returns
returns c = let a = c.args in (
  risen_raised (omega arith) c.raise.ensures,
  λ u hp ha start marks.
      relax-told a.mask (table_of a.rows a.events start a.cells.now marks) a.scratch.now a.row a.event c.cell-lead.ensures c.if-lead-eq0.false
      c.target-target.ensures c.weight.ensures c.longer-next.ensures c.raise.ensures u hp ha,
)
