use mathlib.Core.Path.{◌≡◌, subst}
use mathlib.Core.List.{List}
use Prim.Native.Nat.{ℕ}
use native.Mathlib.Omega.{arith}
use Rattle.classes.specs.Values.{lead_to}
use Rattle.classes.specs.Steps.{led_by, Goes, Part}
use Rattle.classes.proofs.Reading.{sizes_after, reads_after}
use Rattle.classes.proofs.Parts.{Parting, parting-first, parting-next, parting-end}
use Rattle.classes.proofs.Level.part.Goals as goal

pub part_one-first-requires : goal.part_one-first-requires
part_one-first-requires c = let a = c.args in
    let v = a.self.now in
    let p = c.requires in
    let l = c.loop-i in
    let d = l.invariant in
    let h = c.loop-i-test.true in
    (sizes_after v.n v.m v.cells.now a.scratch.now l.scratch d.frame.size p.0, reads_after v.n v.m v.cells.now a.scratch.now l.scratch l.i d.frame.before (p.1 l.i h), h, p.2, parting-first p.3 d (omega arith))

pub loop-i-preserved : goal.loop-i-preserved
loop-i-preserved c = let a = c.args in
    let v = a.self.now in
    let p = c.requires in
    let l = c.loop-i in
    let d = l.invariant in
    let u = c.part_one-first.new.scratch in
    parting-next p.3 d p.0.room (omega (arith, p.0.inside)) (omega (arith, (p.1 l.i c.loop-i-test.true).places a.a p.2, p.0.inside))
    (subst (λ (b : List ℕ). Part v.n l.i (Goes v.n a.c a.v a.like (lead_to v.n v.m v.cells.now b a.a) l.scratch l.i) l.first l.scratch u c.part_one-first.result) d.frame.before c.part_one-first.ensures)

pub returns : goal.returns
returns c i h g = let a = c.args in
    let v = a.self.now in
    let l = c.loop-i in
    let e : l.i ≡ v.to = omega (arith, c.requires.3.inside) in
    parting-end c.requires.3 (subst (λ (k : ℕ). Parting v.n a.c a.v a.like (led_by v a.scratch.now a.a) a.scratch.now l.scratch k l.first) e l.invariant) i h g
