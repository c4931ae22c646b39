use Prim.Native.Nat.{ℕ}
use mathlib.Core.Path.{subst}
use Rattle.quick_folding.specs.Parts.{Relabelled}
use Rattle.quick_folding.proofs.Losing.{losing-next, place_read, row_read}
use Rattle.quick_folding.proofs.relabel_lost.Goals as goal

pub loop-x-preserved : goal.loop-x-preserved
loop-x-preserved c = let p = c.requires in
    let a = c.args in
    let l = c.loop-x in
    let h = c.loop-x-test.true in
    losing-next p.1 p.2 p.3 h l.invariant (subst (λ (q : ℕ). Relabelled a.n a.level q l.scratch c.relabel_row.new.scratch)
    (row_read p.1 p.2 p.3 h l.invariant _ (place_read p.1 p.2 p.3 h l.invariant)) c.relabel_row.ensures)
