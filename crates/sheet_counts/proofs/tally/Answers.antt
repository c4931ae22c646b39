use mathlib.Core.Path.{◌≡◌}
use Prim.Native.Nat.{suc, ◌+◌}
use native.Mathlib.Omega.{arith}
use Rattle.sheet_counts.proofs.Counting.{tallied_none, tallied-small, tallied-next, tallied_all}
use Rattle.sheet_counts.proofs.tally.Goals as goal

pub loop-q-init : goal.loop-q-init
loop-q-init c = let a = c.args in tallied_none a.from a.rows a.scratch.now a.count a.list.now c.requires.0 c.clear.ensures

pub count_one-requires : goal.count_one-requires
count_one-requires c = let a = c.args in
    let t = c.loop-q.invariant in
    (omega (arith, t.size, c.requires.0), λ h. omega (arith, tallied-small a.from a.rows a.scratch.now a.count a.list.now c.requires.0 t c.goes_at.result h, c.loop-q-test.true))

pub loop-q-preserved : goal.loop-q-preserved
loop-q-preserved c = let a = c.args in
    let q = c.loop-q.q in
    let next : suc q ≡ q + 1 = omega arith in
    rw (← next) (tallied-next a.from a.rows a.scratch.now a.count a.list.now c.requires.0 c.loop-q.invariant c.goes_at.ensures c.count_one.ensures)

pub returns : goal.returns
returns c = let a = c.args in
    tallied_all a.from a.rows a.scratch.now a.count a.list.now c.requires.0 c.loop-q.invariant (omega arith)
