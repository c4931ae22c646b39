use mathlib.Core.Path.{sym, ◌∙◌}
use borrow.Author.Tests.{le-ltb}
use lib.ListN.{get_or-eq_default}
use Rattle.rules.proofs.Judged.{spare-zero}
use Rattle.rules.proofs.check_contents.Goals as goal
use Rattle.rules.proofs.check_contents.Goals.{else-last-marks-via-then-last-marks+else-spare_set, else-last-marks-via-else-last-marks}

pub returns : goal.returns
returns c = let a = c.args in
    let first = sym c.first_outside-place.ensures in
    let inside = le-ltb _ _ c.if-place-cells.false in
    elim c.else-last-marks.branch [
      | else-last-marks-via-then-last-marks+else-spare_set w ↦ simp (first, inside, sym w.spare_set.ensures ∙ w.if-spare_set.false)
      | else-last-marks-via-else-last-marks w ↦ simp (first, inside, get_or-eq_default a.marks.now 0 w.if-last-marks.false, spare-zero a.rows)
    ]
