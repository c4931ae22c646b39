use native.Mathlib.Omega.{arith}
use Prim.Native.Nat.{◌+◌}
use mathlib.Core.Path.{◌≡◌}
use Rattle.pairs.specs.Pairs.{triangle}
use Rattle.pairs.proofs.Triangle.{triangle_bound}
use Rattle.pairs.proofs.RowStarts.{start_right}
use Rattle.scratch.specs.Scratch.{machine_by}
use Rattle.distances.specs.Search.{events_by}
use Rattle.first_events.proofs.Sweeps.{read_at, visited_same, visited_new}
use Rattle.first_events.proofs.visit.Goals as goal

pub overflow_add-at : goal.overflow_add-at
overflow_add-at c = omega (arith, c.row_start.ensures, start_right _ c.requires.starts_value c.args.q, triangle_bound c.args.q (omega arith))

pub turn-next-requires-clause-cell_value : goal.turn-next-requires-clause-cell_value
turn-next-requires-clause-cell_value c = let a = c.args in
    let e : c.row_start.result + a.p ≡ triangle a.q + a.p = omega (arith, c.row_start.ensures, start_right _ c.requires.starts_value a.q) in
    read_at a.scratch.now a.q a.p e c.requires.p_lt_q.0 c.cell-cell.ensures

pub returns-then-next-cell : goal.returns-then-next-cell
returns-then-next-cell c = let a = c.args in
    let e : c.row_start.result + a.p ≡ triangle a.q + a.p = omega (arith, c.row_start.ensures, start_right _ c.requires.starts_value a.q) in
    visited_same a.pass (events_by a.mask a.events) (machine_by a.rows a.events a.cells.now a.marks.now) a.q a.p _ e c.requires.p_lt_q.0 c.turn-next.ensures c.cell-cell.ensures c.if-next-cell.true

pub returns : goal.returns
returns c = let a = c.args in
    let e : c.row_start.result + a.p ≡ triangle a.q + a.p = omega (arith, c.row_start.ensures, start_right _ c.requires.starts_value a.q) in
    visited_new a.pass (events_by a.mask a.events) (machine_by a.rows a.events a.cells.now a.marks.now) a.q a.p _ e c.requires.p_lt_q.0 c.turn-next.ensures c.put.ensures
