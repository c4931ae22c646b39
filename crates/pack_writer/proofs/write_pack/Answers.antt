use mathlib.Core.Path.{refl, sym, ap, ◌∙◌}
use lib.ListN.{length}
use Rattle.std.specs.Prelude.{Ok}
use Rattle.rules.specs.Rules.{sound}
use Rattle.pack_rules.proofs.Judged.{fine_sendable}
use Rattle.pack_rules.proofs.Accepted.{fine_accepted}
use Rattle.pack_writer.proofs.Writing.{count_then, writes}
use Rattle.std.proofs.lemmas.Result.{err_from_is_err_and}
use native.Mathlib.Omega.{arith}
use Rattle.pack_writer.proofs.write_pack.Goals as goal

pub put_count-requires : goal.put_count-requires
put_count-requires c = let a = c.args in
    let f = fine_accepted a.list.now a.cells.now a.marks.now (length a.out.now) (sym c.check_pack.ensures ∙ c.in_ok-check_pack.was) in
    (f.few, omega (arith, f.ample))

pub put_images-requires : goal.put_images-requires
put_images-requires c = let a = c.args in
    let f = fine_accepted a.list.now a.cells.now a.marks.now (length a.out.now) (sym c.check_pack.ensures ∙ c.in_ok-check_pack.was) in
    let s = fine_sendable a.list.now a.cells.now a.marks.now f.sizes f.all_cells f.all_marks f.tables (λ i. omega (arith, c.type_inv.marks i)) in
    (f.all_cells, f.all_marks, s, omega (arith, f.ample, c.put_count.auto.out))

pub returns-in_err-check_pack : goal.returns-in_err-check_pack
returns-in_err-check_pack c = let a = c.args in
    let p = err_from_is_err_and c.from_residual.result c.from_residual.ensures.1 in
    rw (p.1, p.2) (writes a.list.now a.cells.now a.marks.now a.out.now a.out.now _ _ (sym c.check_pack.ensures ∙ c.in_err-check_pack.was) refl refl)

pub returns : goal.returns
returns c = let a = c.args in
    let fine = sym c.check_pack.ensures ∙ c.in_ok-check_pack.was in
    let f = fine_accepted a.list.now a.cells.now a.marks.now (length a.out.now) fine in
    let w = c.put_images in
    let pack = count_then f a.out.now _ _ (omega (arith, f.ample)) c.put_count.ensures w.ensures.1 in
    writes a.list.now a.cells.now a.marks.now a.out.now w.new.out _ sound fine (ap Ok w.ensures.0) pack
