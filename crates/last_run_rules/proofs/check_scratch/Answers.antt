use mathlib.Core.Path.{sym, ap}
use native.Mathlib.Omega.{arith}
use Rattle.rules.specs.Rules.{Verdict, sound, and_then}
use Rattle.rules.proofs.First.{room_broken, room_kept}
use Rattle.scratch.specs.Scratch.{scratch_cells}
use Rattle.pairs.proofs.Triangle.{needed-value}
use Rattle.last_run_rules.proofs.check_scratch.Goals as goal

pub returns-then-room-needed : goal.returns-then-room-needed
returns-then-room-needed c = let a = c.args in
    rw c.at.ensures (sym (ap (λ (v : Verdict). and_then v sound) (room_broken (scratch_cells a.rows) a.room (omega (arith, c.if-room-needed.true, c.needed.ensures, needed-value a.rows)))))

pub returns : goal.returns
returns c = let a = c.args in
    sym (ap (λ (v : Verdict). and_then v sound) (room_kept (scratch_cells a.rows) a.room (omega (arith, c.if-room-needed.false, c.needed.ensures, needed-value a.rows))))
