use Prim.Native.Nat.{◌≤◌, ◌<◌}
use Rattle.std.proofs.Common.{rules}
use native.Mathlib.Omega.{arith}
use Rattle.pairs.specs.Pairs.{pair_at}
use Rattle.scratch.specs.Scratch.{machine_by}
use Rattle.distances.specs.Search.{events_by}
use Rattle.first_events.proofs.Turns.{led_right, settled-not, settled-now}
use Rattle.first_events.proofs.settled.Goals as goal

pub returns-then-distance-ge1024 : goal.returns-then-distance-ge1024
returns-then-distance-ge1024 c = let a = c.args in
    let m = led_right (events_by a.mask a.events) (machine_by a.rows a.events a.cells.now a.marks.now) a.scratch.now a.starts.now a.q a.p _ c.requires.starts_value c.target-i.ensures c.target-j.ensures c.between-led.ensures in
    let k : (1024 ≤ a.cell) × (a.cell < 1056) = search rules in
    settled-not (events_by a.mask a.events) (machine_by a.rows a.events a.cells.now a.marks.now) (pair_at a.scratch.now) a.q a.p c.requires.cell_value (omega (arith, k)) (omega (arith, k)) m c.weight.ensures c.if-distance-ge1024.true

pub returns : goal.returns
returns c = let a = c.args in
    let m = led_right (events_by a.mask a.events) (machine_by a.rows a.events a.cells.now a.marks.now) a.scratch.now a.starts.now a.q a.p _ c.requires.starts_value c.target-i.ensures c.target-j.ensures c.between-led.ensures in
    let k : (1024 ≤ a.cell) × (a.cell < 1056) = search rules in
    settled-now (events_by a.mask a.events) (machine_by a.rows a.events a.cells.now a.marks.now) (pair_at a.scratch.now) a.q a.p c.requires.cell_value (omega (arith, k)) (omega (arith, k)) m c.weight.ensures (omega arith) c.mixed.ensures
