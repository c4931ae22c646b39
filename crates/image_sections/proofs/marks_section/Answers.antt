use mathlib.Core.Path.{sym, ◌∙◌}
use Prim.Native.Nat.{◌+◌}
use native.Mathlib.Omega.{arith}
use borrow.Author.Tests.{le-ltb}
use lib.ListN.{length, get_or-eq_default}
use Rattle.tables.specs.Table.{mark_byte_count}
use Rattle.rules.proofs.Judged.{spare-zero}
use Rattle.image_numbers.proofs.Numbers.{number_got}
use Rattle.image_sections.specs.Sections.{section_of_marks}
use Rattle.image_sections.proofs.marks_section.Goals as goal
use Rattle.image_sections.proofs.marks_section.Goals.{else-last-image-via-then-last-image+else-spare_set, else-last-image-via-else-last-image}

pub overflow_add-end : goal.overflow_add-end
overflow_add-end c = let n = number_got c.args.image.now 0 c.in-Ok.rows c.in-Ok.at (sym c.number-count.ensures ∙ c.in-Ok.is) in
    omega (arith, c.mark_bytes.ensures, n.next_is, c.beyond.ensures.1 c.if-beyond.false)

pub returns : goal.returns
unfolding section_of_marks
returns c = let a = c.args in
    let number = sym c.number-count.ensures ∙ c.in-Ok.is in
    let few = sym c.beyond.ensures.0 ∙ c.if-beyond.false in
    let small = le-ltb a.small c.in-Ok.rows (omega arith) in
    let whole = le-ltb (length a.image.now) (c.in-Ok.at + mark_byte_count c.in-Ok.rows) (omega (arith, c.mark_bytes.ensures)) in
    elim c.else-last-image.branch [
      | else-last-image-via-then-last-image+else-spare_set w ↦ simp (number, few, small, whole, sym w.spare_set.ensures ∙ w.if-spare_set.false, c.mark_bytes.ensures)
      | else-last-image-via-else-last-image w ↦ simp (number, few, small, whole, get_or-eq_default a.image.now 0 w.if-last-image.false, spare-zero c.in-Ok.rows, c.mark_bytes.ensures)
    ]
