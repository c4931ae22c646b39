-- Records as the code has them, read off the scratch: its first region has the leads, its third the rows into which rows fold, its fourth the numbers, each one more than the new one.
use Rattle.std.specs.Prelude.{cond, List, ℕ, zero, suc, ◌+◌, ◌-◌, ◌*◌, eqb, get_or, set}
use Rattle.records.specs.declared.Depth.{Depth}
use Rattle.records.specs.declared.Depth.TheVariants.{Number, Endless}
use Rattle.records.specs.declared.Fate.{Fate}
use Rattle.records.specs.declared.Fate.TheVariants.{Kept, Folded, Unreached}
use Rattle.records.specs.declared.Record.{Record}

-- The depth of a row with this lead: one less, or endless; 0 where it is unreached.
abbrev pub depth_by : ℕ → Depth
depth_by lead = cond (eqb lead 65535) Endless (Number (lead - 1))

-- The fate of a row with this lead that folds into a row, and whose number is this.
abbrev pub fate_by : ℕ → ℕ → ℕ → ℕ → Fate
fate_by row lead fold number = cond (eqb lead 0) Unreached (cond (eqb fold row) (Kept (number - 1)) (Folded fold))

-- The record of row q of n.
abbrev pub record_at_row : List ℕ → ℕ → ℕ → Record
record_at_row s n q = record {
  depth = depth_by (get_or s q 0);
  fate = fate_by q (get_or s q 0) (get_or s (2 * n + q) 0) (get_or s (3 * n + q) 0);
}

-- The first `count` records written, and those beyond as they were.
abbrev pub written : List Record → List ℕ → ℕ → ℕ → List Record
written xs s n zero = xs
written xs s n (suc i) = set (written xs s n i) i (record_at_row s n i)
