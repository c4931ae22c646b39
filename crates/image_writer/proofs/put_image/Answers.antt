use mathlib.Core.Path.{◌≡◌, refl, sym, ap, ◌∙◌}
use mathlib.Core.List.{◌++◌}
use Prim.Native.Nat.{ℕ, ◌+◌, ◌*◌}
use lib.ListN.{length, length-append}
use Rattle.tables.specs.Lists.{over}
use Rattle.tables.proofs.Over.{over_then}
use Rattle.rules.specs.Rules.{lent}
use Rattle.images.specs.Image.{number, width, targets, image_of}
use Rattle.images.proofs.Image.{targets-length}
use native.Mathlib.Omega.{arith}
use Rattle.image_writer.proofs.put_image.Goals as goal

pub returns : goal.returns
unfolding image_of
returns c = let a = c.args in
    let p = c.requires in
    let out = a.out.now in
    let T = lent a.table in
    let cells = T.cells in
    let marks = T.marks in
    let w = width a.form * length cells in
    let n1 = c.put_number in
    let n2 = c.put_bytes in
    let n3 = c.put_number-2 in
    let n4 = c.put_targets in
    let n5 = c.put_number-3 in
    let n6 = c.put_number-4 in
    let s1 = number T.rows in
    let s2 = s1 ++ marks in
    let s3 = s2 ++ number (T.rows * T.events) in
    let t = targets a.form T.events cells in
    let s4 = s3 ++ t in
    let s5 = s4 ++ number 1 in
    let all : w ≡ width a.form * (T.rows * T.events) = ap (λ (n : ℕ). width a.form * n) p.3 in
    let l2 : 2 + length marks ≡ length s2 = sym (length-append s1 marks) in
    let l3 : 2 + length marks + 2 ≡ length s3 = ap (λ (k : ℕ). k + 2) l2 ∙ sym (length-append s2 (number (T.rows * T.events))) in
    let long : length t ≡ w = targets-length a.form T p.5 in
    let l4 : 2 + length marks + 2 + w ≡ length s4 = omega (arith, l3, length-append s3 t, long) in
    let l5 : 2 + length marks + 2 + w + 2 ≡ length s5 = omega (arith, l4, length-append s4 (number 1)) in
    let e2 = over_then out n1.new.out n2.new.out s1 marks 2 n1.ensures refl (omega arith) n2.ensures in
    let e3 = over_then out n2.new.out n3.new.out s2 (number (T.rows * T.events)) (2 + length marks) e2 l2 (omega (arith, p.4, p.6)) n3.ensures in
    let e4 = over_then out n3.new.out n4.new.out s3 t (2 + length marks + 2) e3 l3 (omega (arith, p.4, p.6)) n4.ensures in
    let h5 = n5.ensures ∙ ap (λ (k : ℕ). over n4.new.out (2 + length marks + 2 + k * length cells) (number 1)) c.width.ensures in
    let h6 = n6.ensures ∙ ap (λ (k : ℕ). over n5.new.out (2 + length marks + 2 + k * length cells + 2) (number T.start)) c.width.ensures in
    let e5 = over_then out n4.new.out n5.new.out s4 (number 1) (2 + length marks + 2 + w) e4 l4 (omega (arith, all, p.4, p.6)) h5 in
    over_then out n5.new.out n6.new.out s5 (number T.start) (2 + length marks + 2 + w + 2) e5 l5 (omega (arith, all, p.4, p.6)) h6
