use mathlib.Core.Path.{◌≡◌}
use Prim.Native.Nat.{◌*◌}
use lib.ListN.{drop}
use Rattle.rules.specs.Rules.{sound, judged}
use Rattle.packs.specs.Pack.{tables_in}
use Rattle.pack_rules.specs.Checks.{size_checks, tables_checks}
use Rattle.pack_rules.proofs.Left.{Left, tables_left}
use Rattle.pack_rules.proofs.check_tables.Given as goal

abbrev pub invariant-loop-i : goal.invariant-loop-i
invariant-loop-i l = Left l.list l.cells l.marks (3 * l.i) l.cell l.mark × (judged (size_checks (drop (3 * l.i) l.list)) ≡ sound) × (judged (tables_checks (tables_left l.list l.cells l.marks (3 * l.i) l.cell l.mark)) ≡ judged (tables_checks (tables_in l.list l.cells l.marks)))
