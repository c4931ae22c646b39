use mathlib.Core.Path.{sym}
use native.Mathlib.Omega.{arith}
use lib.ListN.{length, replicate, length-replicate}
use lib.Seq.{length-take-le}
use Prim.Native.Nat.{ℕ, ◌≤◌}
use Rattle.walks.proofs.Following.{walked_most}
use Rattle.loss_desk.proofs.Losses.{line-none, line-loss, run_back}
use Rattle.loss_desk.proofs.put_row.Goals as goal

pub returns-then-into-row : goal.returns-then-into-row
returns-then-into-row c = let a = c.args in
    line-none a.rows a.events a.cells.now a.scratch.now a.row c.into-into.ensures a.out.now a.at c.if-into-row.true

pub slice_bounds-run-end : goal.slice_bounds-run-end
slice_bounds-run-end c = let a = c.args in
    let w = c.walk-length in
    omega (arith, c.requires, w.ensures.0, walked_most a.cells.now a.events a.scratch.now a.rows a.row c.into-into.result, w.auto.run, length-replicate {A = ℕ} 128 0)

pub returns : goal.returns
returns c = let a = c.args in
    let w = c.walk-length in
    let most = walked_most a.cells.now a.events a.scratch.now a.rows a.row c.into-into.result in
    let run = run_back (replicate 128 0) (omega (arith, c.requires, most, length-replicate {A = ℕ} 128 0)) w.ensures.0 w.ensures.1 in
    line-loss a.rows a.events a.cells.now a.scratch.now a.row c.into-into.ensures a.out.now a.at c.if-into-row.false run c.distance-far.ensures c.put_loss.ensures

pub slice_bounds-put_loss-end : goal.slice_bounds-put_loss-end
slice_bounds-put_loss-end c =
    let a = c.args in
    let w = c.walk-length in
    let most : w.result ≤ length w.new.run = omega (arith, c.requires, w.ensures.0, walked_most a.cells.now a.events a.scratch.now a.rows a.row c.into-into.result, w.auto.run, length-replicate {A = ℕ} 128 0) in
    sym (length-take-le _ w.new.run most)
