-- The lent records after a call of the reducer.
use Rattle.std.specs.Prelude.{List, ◌++◌, map, length, drop, Ok, Err}
use Rattle.automata.specs.Runs.{Len, len, endless}
use Rattle.tables.specs.Reduction as spec
use Rattle.tables.specs.Reduction.{kept_as, folded_into, unreached}
use Rattle.rules.specs.Rules.{Verdict}
use Rattle.records.specs.declared.Record.{Record}
use Rattle.records.specs.declared.Depth.{Depth}
use Rattle.records.specs.declared.Depth.TheVariants.{Number, Endless}
use Rattle.records.specs.declared.Fate.{Fate}
use Rattle.records.specs.declared.Fate.TheVariants.{Kept, Folded, Unreached}

-- The code's values for a record.
abbrev pub depth_of : Len → Depth
depth_of (len d) = Number d
depth_of endless = Endless

abbrev pub fate_of : spec.Fate → Fate
fate_of (kept_as i) = Kept i
fate_of (folded_into p) = Folded p
fate_of unreached = Unreached

abbrev pub record_of : spec.Record → Record
record_of r = record { depth = depth_of r.depth; fate = fate_of r.fate }

-- The lent records afterwards.
abbrev pub records_by : Verdict → List Record → List spec.Record → List Record
records_by (Ok u) d l = map record_of l ++ drop (length l) d
records_by (Err r) d l = d
