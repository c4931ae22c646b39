use mathlib.Core.Path.{◌≡◌, sym, ap, ◌∙◌}
use Prim.Native.Nat.{ℕ, ◌+◌, ◌*◌, ◌/◌}
use native.Mathlib.Numerals.{add-one}
use lib.ListN.{length, get_or}
use Rattle.tables.proofs.Lists.{tabulate-length, tabulate-at}
use Rattle.tables.proofs.Over.{over_none, over-next, over-all}
use Rattle.images.specs.Image as Image
use Rattle.images.specs.Image.{target_at, cells_at}
use native.Mathlib.Omega.{arith}
use Rattle.image_reader.proofs.copy_cells.Goals as goal

pub loop-i-init : goal.loop-i-init
loop-i-init c = sym (over_none c.args.cells.now 0)

pub loop-i-preserved : goal.loop-i-preserved
loop-i-preserved c = let a = c.args in
    let l = c.loop-i in
    let e : c.target.result ≡ target_at a.form a.image.now (l.i / a.events) (a.at + Image.width a.form * l.i) = c.target.ensures ∙ ap (λ (w : ℕ). target_at a.form a.image.now (l.i / a.events) (a.at + w * l.i)) c.width-width.ensures in
    let s = cells_at a.form a.image.now a.events a.at a.count in
    let n : length s ≡ a.count = tabulate-length a.count _ in
    let x : get_or s l.i 0 ≡ c.target.result = tabulate-at a.count _ l.i 0 (omega arith) ∙ sym e in
    let z : 0 + l.i ≡ l.i = omega arith in
    rw (add-one, l.invariant, ← x) (rw z at (over-next a.cells.now 0 s l.i (omega arith) (omega arith)))

pub returns : goal.returns
returns c = let a = c.args in
    let l = c.loop-i in
    l.invariant ∙ over-all a.cells.now 0 (cells_at a.form a.image.now a.events a.at a.count) l.i (omega (arith, tabulate-length a.count (λ i. target_at a.form a.image.now (i / a.events) (a.at + Image.width a.form * i))))
