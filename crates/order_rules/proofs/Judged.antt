-- The rules in their order, as the code makes them, and what it means that none is broken.
use mathlib.Core.Path.{◌≡◌, sym}
use mathlib.Core.List.{List, [], ◌++◌}
use Prim.Native.Nat.{ℕ, ◌<◌}
use borrow.Author.Tests.{eqb-true, not-false, ltb-false}
use lib.ListN.{get_or}
use Rattle.tables.specs.Table.{Table}
use Rattle.rules.specs.Rules.{Verdict, sound, judged, winch, table_checks}
use Rattle.std.specs.Prelude.{Err}
use Rattle.rules.specs.declared.Refusal.{Refusal}
use Rattle.rules.specs.declared.Limits.{Limits}
use Rattle.rules.proofs.Checks.{unbroken, passed}
use Rattle.rules.proofs.First.{table-refused, table-then, more-fine, fine_valid}
use Rattle.order_rules.specs.Checks.{pair_cells, both_checks, verdict, Ready}

-- The verdict as the code makes it, with the limits given.
module _ (T U : Table) (room : ℕ) {L : Limits} {v : Verdict} (l : L ≡ winch) (e : v ≡ judged (table_checks L T)) where
  abbrev rest : List Verdict
  rest = table_checks winch U ++ both_checks T.rows T.events U.rows U.events room

  pub first-refused : (r : Refusal) → v ≡ Err r → Err r ≡ verdict T U room
  unfolding verdict
  first-refused = table-refused T [] l e rest

  pub first_fine : v ≡ sound → {u : Verdict} → u ≡ judged rest → u ≡ verdict T U room
  unfolding verdict
  first_fine h g = table-then T [] l e h rest g

-- Mark bytes are bytes, as the code's types say.
pub fine-ready : (T U : Table) (room : ℕ) → verdict T U room ≡ sound → ((i : ℕ) → get_or T.marks i 0 < 256) → ((i : ℕ) → get_or U.marks i 0 < 256) → Ready T U room
unfolding verdict
fine-ready T U room e bytes bytes2 =
    let both : List Verdict = both_checks T.rows T.events U.rows U.events room in
    let others = more-fine T (table_checks winch U ++ both) e in
    let at = passed both (more-fine U both others) in
    record {
      first = fine_valid T (table_checks winch U ++ both) e bytes;
      second = fine_valid U both others bytes2;
      same_events = sym (eqb-true _ _ (not-false _ (unbroken _ _ _ (at 0))));
      fits = ltb-false room (pair_cells T.rows U.rows) (unbroken _ _ _ (at 1));
    }
