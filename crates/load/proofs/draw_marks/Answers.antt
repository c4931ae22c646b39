use mathlib.Core.Path.{ap, ◌∙◌}
use Prim.Native.Nat.{ℕ, ◌*◌}
use native.Mathlib.Omega.{arith}
use Rattle.tables.specs.Lists.{over}
use Rattle.tables.specs.Table.{pack}
use Rattle.marks.proofs.Marking.{marking_none, marking_next, marking_all}
use Rattle.xorshift.proofs.States.{state-first, state-next}
use Rattle.load.proofs.Drawing.{mark_at, mark_small, mark_none, mark_is, marks_same}
use Rattle.load.proofs.draw_marks.Goals as goal

pub overflow_mul-bits : goal.overflow_mul-bits
overflow_mul-bits c = omega (arith, c.mark_bytes-bits.ensures)

pub loop-i-init : goal.loop-i-init
loop-i-init c = let a = c.args in
    (state-first a.seed, marking_none (mark_at a.seed a.rows) (mark_small a.seed a.rows) a.marks.now (λ j. omega (arith, c.type_inv.marks j)))

pub loop-i-preserved : goal.loop-i-preserved
loop-i-preserved c = let a = c.args in
    let l = c.loop-i in
    let s = c.step-state in
    let m = c.mark in
    let p = c.put_mark in (
      state-next a.seed l.i _ _ l.invariant.0 s.ensures,
      marking_next (mark_at a.seed a.rows) (mark_small a.seed a.rows) a.marks.now l.marks l.i l.invariant.1 (omega (arith, c.mark_bytes-bits.ensures)) m.result (mark_is a.seed a.rows l.i l.invariant.0 s.ensures m.ensures) p.new.marks p.ensures,
    )

pub returns : goal.returns
returns c = let a = c.args in
    let l = c.loop-i in
    marking_all (mark_at a.seed a.rows) (mark_small a.seed a.rows) a.rows (mark_none a.seed a.rows) a.marks.now l.marks _ l.invariant.1 (λ j. omega (arith, c.slice_known-1.given j)) c.requires.1 (omega (arith, c.mark_bytes-bits.ensures))
    ∙ ap (λ l. over a.marks.now 0 (pack l)) (marks_same a.seed a.rows)
