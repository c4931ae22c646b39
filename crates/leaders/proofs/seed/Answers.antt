use native.Mathlib.Omega.{arith}
use Prim.Native.Nat.{ℕ, ◌+◌, ◌*◌}
use mathlib.Core.Path.{ap, ◌∙◌}
use lib.ListN.{get_or}
use Rattle.leader_table.specs.Putting.{row_at}
use Rattle.leaders.proofs.Regions.{kept_front, seeded_next}
use Rattle.leaders.proofs.seed.Goals as goal

pub loop-c-preserved : goal.loop-c-preserved
loop-c-preserved c = let a = c.args in
    let p = c.requires in
    let l = c.loop-c in
    let k = l.invariant.kept in
    seeded_next _ l.invariant l.auto.c (omega (arith, p.inside)) p.room (λ h. c.cell.ensures
    ∙ ap (λ (q : ℕ). get_or l.scratch (2 * a.n + q) 0) (kept_front k (3 * a.n + l.c) (omega (arith, p.inside)))
    ∙ kept_front k (2 * a.n + row_at a.n a.scratch.now l.c) (omega arith))
