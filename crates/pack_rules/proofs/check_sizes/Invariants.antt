use mathlib.Core.Path.{◌≡◌}
use Prim.Native.Nat.{◌*◌}
use lib.ListN.{drop}
use Rattle.rules.specs.Rules.{judged}
use Rattle.pack_rules.specs.Checks.{size_checks}
use Rattle.pack_rules.proofs.check_sizes.Given as goal

abbrev pub invariant-loop-i : goal.invariant-loop-i
invariant-loop-i l = judged (size_checks (drop (3 * l.i) l.list)) ≡ judged (size_checks l.list)
