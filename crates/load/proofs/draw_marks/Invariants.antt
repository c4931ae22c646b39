use mathlib.Core.Path.{◌≡◌}
use Prim.Native.Nat.{◌-◌, ◌*◌, ◌≤◌}
use Rattle.tables.specs.Table.{mark_byte_count}
use Rattle.marks.proofs.Marking.{Marking}
use Rattle.xorshift.specs.Xorshift.{state}
use Rattle.load.proofs.Drawing.{mark_at, mark_small}
use Rattle.load.proofs.draw_marks.Given as goal

abbrev pub invariant-loop-i : goal.invariant-loop-i
invariant-loop-i l = (l.state ≡ state l.seed l.i) × Marking (mark_at l.seed l.rows) (mark_small l.seed l.rows) l.initial.marks l.marks l.i
