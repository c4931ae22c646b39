use mathlib.Core.Path.{◌≡◌, sym, ◌∙◌}
use Prim.Native.Nat.{◌+◌}
use native.Mathlib.Numerals.{add-one}
use native.Mathlib.Omega.{arith}
use lib.ListN.{length, get_or, take, drop}
use Rattle.tables.proofs.Over.{over_none, over-next, over-all, part_length, part_at}
use Rattle.image_reader.proofs.copy_marks.Goals as goal

pub loop-i-init : goal.loop-i-init
loop-i-init c = sym (over_none c.args.marks.now 0)

pub loop-i-preserved : goal.loop-i-preserved
loop-i-preserved c = let a = c.args in
    let l = c.loop-i in
    let s = take a.count (drop a.at a.image.now) in
    let n : length s ≡ a.count = part_length a.image.now a.at a.count (omega arith) in
    let x : get_or s l.i 0 ≡ get_or a.image.now (a.at + l.i) 0 = part_at a.image.now a.at a.count l.i (omega arith) in
    let z : 0 + l.i ≡ l.i = omega arith in
    rw (add-one, l.invariant, ← x) (rw z at (over-next a.marks.now 0 s l.i (omega arith) (omega arith)))

pub returns : goal.returns
returns c = let a = c.args in
    let l = c.loop-i in
    let s = take a.count (drop a.at a.image.now) in
    l.invariant ∙ over-all a.marks.now 0 s l.i (omega (arith, part_length a.image.now a.at a.count (omega arith)))
