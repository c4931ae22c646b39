use mathlib.Core.Bool.{not}
use mathlib.Core.Path.{refl, ap, ◌∙◌}
use Prim.Native.Nat.{◌*◌}
use borrow.Author.Tests.{le-leb}
use lib.ListN.{length}
use Rattle.rules.specs.Rules.{table_of}
use Rattle.scratch.proofs.Works.{fine_valid, not-fine, fine-room}
use Rattle.renumbering.proofs.Left.{no_room, has_room, not-workable, scratch_short, cells_short, marks_short, all_room}
use native.Mathlib.Omega.{arith}
use Rattle.renumbering.proofs.renumber.Goals as goal

pub returns-then-not-valid : goal.returns-then-not-valid
returns-then-not-valid c = no_room _ _ _ _ (not-workable _ _ _ _ (not-fine _ c.valid.result c.valid.ensures (ap not c.if-not-valid.true) (λ n. 4 * n) (length c.args.scratch.now)))

pub returns-then-scratch-rows : goal.returns-then-scratch-rows
returns-then-scratch-rows c = let a = c.args in
    let works = fine-room _ c.valid.result c.valid.ensures (ap not c.if-not-valid.false) (λ n. 4 * n) (4 * a.rows) (length a.scratch.now) refl in
    no_room _ _ _ _ (scratch_short _ _ _ _ works c.if-scratch-rows.true)

pub returns-then-newcells-rows : goal.returns-then-newcells-rows
returns-then-newcells-rows c = no_room _ _ _ _ (cells_short _ _ _ _ c.if-newcells-rows.true)

pub returns-then-newmarks-mark_bytes : goal.returns-then-newmarks-mark_bytes
returns-then-newmarks-mark_bytes c = no_room _ _ _ _ (marks_short _ _ _ _ (omega arith))

pub renumber_within-requires-clause-valid : goal.renumber_within-requires-clause-valid
renumber_within-requires-clause-valid c = fine_valid _ c.valid.result c.valid.ensures (ap not c.if-not-valid.false) (λ i. omega (arith, c.type_inv.marks i))

pub returns : goal.returns
returns c = let a = c.args in
    let T = table_of a.rows a.events a.start a.cells.now a.marks.now in
    let w = c.renumber_within.ensures in
    let works = fine-room T c.valid.result c.valid.ensures (ap not c.if-not-valid.false) (λ n. 4 * n) (4 * a.rows) (length a.scratch.now) refl ∙ le-leb (4 * a.rows) (length a.scratch.now) (omega arith) in
    has_room _ _ _ _ (all_room T _ _ _ works c.if-newcells-rows.false (omega arith)) w.0 w.1 w.2 w.3
