use Prim.Native.Nat.{◌-◌}
use native.Mathlib.Omega.{arith}
use Rattle.tables.proofs.Counted.{mask_light}
use Rattle.rules.specs.Rules.{table_of}
use Rattle.first_events.proofs.Whole.{rounds-all}
use Rattle.first_events.proofs.rounds.Goals as goal

pub returns : goal.returns
returns c = let a = c.args in
    let l = c.loop-most in
    rounds-all c.requires.given (mask_light a.mask (table_of a.rows a.events 0 a.cells.now a.marks.now)) (l.most - 2) (omega arith) l.invariant.framed l.invariant.reached
