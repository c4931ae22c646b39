use native.Mathlib.Omega.{arith}
use Rattle.leaders.proofs.Regions.{kept_then}
use Rattle.leaders.proofs.Turns.{step_kept, step-joins}
use Rattle.leaders.proofs.step_all.Goals as goal

pub loop-i-preserved : goal.loop-i-preserved
loop-i-preserved c = let p = c.requires in
    let l = c.loop-i.invariant in
    let lt = c.loop-i-test.true in
    let st = c.in_ok-lost.ensures in (
      st.0,
      kept_then l.1 (step_kept p.0.inside lt l.0 st.1),
      λ h j. step-joins p.0.inside lt l.0 p.0 p.1 h l.1 (l.2 h j) st.1 (omega (arith, p.0.few, p.0.inside)),
    )
