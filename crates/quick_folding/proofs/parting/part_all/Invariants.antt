use Prim.Native.Nat.{◌-◌, ◌≤◌}
use mathlib.Core.Path.{◌≡◌}
use lib.ListN.{length}
use Rattle.tables.specs.Table.{weight_by, machine, events_of}
use Rattle.tables.specs.Reduction.{order}
use Rattle.rules.specs.Rules.{table_of}
use Rattle.quick_folding.specs.State.{Apart, Tabled}
use Rattle.quick_folding.specs.Parting.{Parted}
use Rattle.quick_folding.proofs.parting.part_all.Given as goal

abbrev pub invariant-loop-x : goal.invariant-loop-x
invariant-loop-x l = Apart l.n l.initial.scratch l.scratch
    × Parted (events_of (weight_by l.mask) (table_of l.n l.m l.start l.cells l.marks)) (machine (table_of l.n l.m l.start l.cells l.marks)) l.x.level l.x.kept l.scratch
    × (l.x.place ≡ length (order (events_of (weight_by l.mask) (table_of l.n l.m l.start l.cells l.marks)) (machine (table_of l.n l.m l.start l.cells l.marks)))) × (l.x.level ≤ l.n)
    × Tabled l.mask (table_of l.n l.m l.start l.cells l.marks) l.x.kept l.x.known l.x.last l.scratch

abbrev pub decreases-loop-x : goal.decreases-loop-x
decreases-loop-x l = l.n - l.x.level
