use Rattle.text.proofs.Buffer.{puts_first}
use Rattle.printing.specs.Lines.{spaced}
use Rattle.printing.proofs.Laws.{spaced-next, line-all}
use native.Mathlib.Omega.{arith}
use Rattle.printing.proofs.put_cells.Goals as goal

pub loop-cell-init : goal.loop-cell-init
loop-cell-init c = puts_first (spaced c.args.cells.now) _ _

pub loop-cell-preserved : goal.loop-cell-preserved
loop-cell-preserved c = spaced-next c.args.cells.now c.loop-cell.cell-index c.loop-cell.invariant c.put_spaced-next.ensures

pub returns : goal.returns
returns c = line-all c.args.cells.now c.loop-cell.cell-index (omega arith) c.put_text-next.ensures c.loop-cell.invariant c.put_byte.ensures
