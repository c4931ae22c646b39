use mathlib.Core.Path.{ap}
use Rattle.measures.specs.declared.Measure.{Measure}
use Rattle.measures.proofs.Cells.{measure_read}
use Rattle.losses.proofs.distance.Goals as goal

pub returns : goal.returns
returns c = ap (λ (m : Measure). m.distance) (measure_read _ _ _ _ c.table-starts.ensures c.between-said.ensures)
