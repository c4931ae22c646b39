use mathlib.Core.Path.{sym, ap, ◌∙◌}
use Rattle.tables.specs.Lists.{over}
use Rattle.renumbering.proofs.Lining.{targets}
use Rattle.renumbering.proofs.Left.{lined_count, lined_again, total_fits, left-rows, left_cells, left_marks}
use native.Mathlib.Omega.{arith}
use Rattle.renumbering.proofs.renumber_within.Goals as goal

pub write_cells-requires : goal.write_cells-requires
write_cells-requires c = let v = c.requires.valid in
    let up = c.line_up-lined.ensures in
    (targets _ v, lined_again _ v _ _ up.1 _ up.0, lined_count _ v _ _ up.1 _ up.0, omega (arith, (total_fits _ v _ _ up.1 _ up.0).0))

pub write_marks-requires : goal.write_marks-requires
write_marks-requires c = let v = c.requires.valid in
    let up = c.line_up-lined.ensures in
    let h = lined_count _ v _ _ up.1 _ up.0 in
    (h, v.rows_fit, omega (arith, up.1.0.room), omega arith)

pub returns : goal.returns
returns c = let v = c.requires.valid in
    let up = c.line_up-lined.ensures in (
      up.0 ∙ sym (left-rows _ _),
      up.1,
      c.write_cells.ensures ∙ ap (over c.args.newcells.now 0) (left_cells _ v _ _ up.1 _ up.0),
      c.write_marks.ensures ∙ ap (over c.args.newmarks.now 0) (left_marks _ v _ _ up.1 _ up.0),
    )
