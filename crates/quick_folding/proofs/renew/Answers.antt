use Prim.Native.Nat.{◌<◌}
use mathlib.Core.Path.{refl}
use Rattle.quick_folding.specs.Parts.{passed}
use Rattle.quick_folding.proofs.Losing.{passed-all, passed_lost, some_below}
use Rattle.quick_folding.proofs.renew.Goals as goal
use Rattle.quick_folding.proofs.renew.Goals.{in_default-via-in-Some+else-few_alone, in_default-via-in-None+else-still}

pub returns-in-Some : goal.returns-in-Some
returns-in-Some c =
    let p = rw c.in-Some.is at c.requires.0 in
    let few = rw c.in-Some.is at c.requires.1 in
    rw c.in-Some.is (passed (some_below p few (rw c.in-Some.is at c.in-Some.lost-test.1)) (passed_lost p few c.relabel_lost.ensures) refl)

pub returns-in_default : goal.returns-in_default
returns-in_default c =
    let below : 0 < c.args.u = elim c.in_default.branch [
      | in_default-via-in-Some+else-few_alone w ↦ some_below (rw w.in-Some.is at c.requires.0) (rw w.in-Some.is at c.requires.1) (rw w.in-Some.is at w.in-Some.lost-test.1)
      | in_default-via-in-None+else-still w ↦ w.still.ensures.1 w.if-still.false
    ] in
    passed below (passed-all c.relabel.ensures) refl
