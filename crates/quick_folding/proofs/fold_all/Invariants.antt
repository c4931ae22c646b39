use Prim.Native.Nat.{◌-◌}
use Rattle.tables.specs.Table.{weight_by, machine, events_of}
use Rattle.rules.specs.Rules.{table_of}
use Rattle.quick_folding.specs.State.{Apart, Going, Tabled}
use Rattle.quick_folding.proofs.fold_all.Given as goal

abbrev pub invariant-loop-x : goal.invariant-loop-x
invariant-loop-x l = Apart l.n l.initial.scratch l.scratch
    × Going (events_of (weight_by l.mask) (table_of l.n l.m l.start l.cells l.marks)) (machine (table_of l.n l.m l.start l.cells l.marks)) l.k l.x.level l.x.place l.x.kept l.x.rest l.scratch
    × Tabled l.mask (table_of l.n l.m l.start l.cells l.marks) l.x.kept l.x.known l.x.last l.scratch

abbrev pub decreases-loop-x : goal.decreases-loop-x
decreases-loop-x l = l.k - l.x.level
