use Rattle.std.proofs.Common.{◌≡◌}
use Rattle.records.specs.Records.{written}
use Rattle.records.proofs.write_records.Given as goal

-- The first i records are written.
abbrev pub invariant-loop-i : goal.invariant-loop-i
invariant-loop-i l = l.records ≡ written l.initial.records l.scratch l.rows l.i
