use mathlib.Core.Path.{refl, sym, ap, ◌∙◌}
use native.Mathlib.Omega.{arith}
use lib.ListN.{length}
use Rattle.std.specs.Prelude.{Ok, Err}
use Rattle.std.proofs.lemmas.Result.{err_from_is_err_and}
use Rattle.rules.specs.Rules.{sound, refusal, lent}
use Rattle.rules.specs.declared.Rule.TheVariants.{Room}
use Rattle.image_rules.proofs.Judged.{image-fine}
use Rattle.image_writer.proofs.Writing.{write-refused, write-short, write-fine, writes}
use Rattle.image_writer.proofs.write_as.Goals as goal

pub returns-in_err-check_image : goal.returns-in_err-check_image
returns-in_err-check_image c = let a = c.args in
    let T = lent a.table in
    let broken = sym c.check_image.ensures ∙ c.in_err-check_image.was in
    let p = err_from_is_err_and c.from_residual.result c.from_residual.ensures.1 in
    rw (p.1, p.2) (writes a.form T a.out.now a.out.now _ _ (write-refused a.form T (length a.out.now) _ broken) refl refl)

pub returns-then-out-length : goal.returns-then-out-length
returns-then-out-length c = let a = c.args in
    let T = lent a.table in
    let fine = sym c.check_image.ensures ∙ c.in_ok-check_image.was in
    rw c.at.ensures (writes a.form T a.out.now a.out.now _ (Err (refusal Room 0)) (write-short a.form T (length a.out.now) fine (omega (arith, c.image_length-length.ensures))) refl refl)

pub put_image-requires : goal.put_image-requires
put_image-requires c = let a = c.args in
    let f = image-fine a.form (lent a.table) (sym c.check_image.ensures ∙ c.in_ok-check_image.was) in
    let s = f.0 in
    (s.rows_fit, s.some_event, s.events_fit, s.all_cells, s.all_marks, f.1, omega (arith, c.image_length-length.ensures))

pub returns : goal.returns
returns c = let a = c.args in
    let T = lent a.table in
    let fine = sym c.check_image.ensures ∙ c.in_ok-check_image.was in
    let n = c.image_length-length in
    writes a.form T a.out.now c.put_image.new.out _ sound (write-fine a.form T (length a.out.now) fine (omega (arith, n.ensures))) (ap Ok n.ensures) c.put_image.ensures
