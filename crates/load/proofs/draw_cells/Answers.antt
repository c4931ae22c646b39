use mathlib.Core.Path.{◌≡◌, sym, ap, ◌∙◌}
use Prim.Native.Nat.{◌*◌}
use native.Mathlib.Omega.{arith}
use Rattle.tables.proofs.Lists.{tabulate-length}
use Rattle.tables.proofs.Over.{over_none, over-all, tabulate-next}
use Rattle.xorshift.specs.Xorshift.{state}
use Rattle.xorshift.proofs.States.{state-first, state-next}
use Rattle.load.specs.Load.{load_cell, load_cells}
use Rattle.load.proofs.Drawing.{cell_is, row_in, count_small}
use Rattle.load.proofs.draw_cells.Goals as goal

pub overflow_mul-count : goal.overflow_mul-count
overflow_mul-count c = omega (arith, count_small c.args.rows c.args.events c.requires.0 c.requires.2)

pub loop-c-init : goal.loop-c-init
loop-c-init c = (state-first c.args.seed, sym (over_none c.args.cells.now 0))

pub target-requires : goal.target-requires
target-requires c = (row_in c.args.rows c.args.events c.loop-c.c c.requires.1 (omega arith), c.requires.0)

pub loop-c-preserved : goal.loop-c-preserved
loop-c-preserved c = let a = c.args in
    let l = c.loop-c in
    let value = cell_is a.seed a.rows a.events l.c l.invariant.0 c.step-draw.ensures c.target.ensures in (
      state-next a.seed l.c _ _ l.invariant.0 c.step-draw.ensures,
      tabulate-next (a.rows * a.events) (load_cell a.seed a.rows a.events) a.cells.now l.c l.cells c.target.result l.invariant.1 value (omega arith) c.requires.3,
    )

pub returns : goal.returns
returns c = let a = c.args in
    let l = c.loop-c in
    let e : l.c ≡ a.rows * a.events = omega arith in
    (l.invariant.0 ∙ ap (state a.seed) e, l.invariant.1 ∙ over-all a.cells.now 0 (load_cells a.seed a.rows a.events) l.c (omega (arith, tabulate-length (a.rows * a.events) (load_cell a.seed a.rows a.events))))
