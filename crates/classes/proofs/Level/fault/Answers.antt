use native.Mathlib.Omega.{arith}
use borrow.Author.Count.{below_more}
use Rattle.std.proofs.Common.{rules}
use Rattle.classes.proofs.Faults.{round_all, round_alike}
use Rattle.classes.proofs.Level.fault.Goals as goal

pub loop-k-preserved : goal.loop-k-preserved
loop-k-preserved c =
    let t = c.turn-i.ensures in
    below_more _ _ c.loop-k.invariant (round_alike c.args.from c.args.self.now.to c.loop-k.k c.turn-i.result t.0 t.1 (search rules))

pub returns : goal.returns
returns c j h = let r = round_all c.args.from c.args.self.now.to j c.requires.2 h in c.loop-k.invariant r.0 (omega (arith, r.1)) j h r.2
