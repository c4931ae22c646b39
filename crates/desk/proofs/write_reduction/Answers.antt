use mathlib.Core.Path.{sym}
use Prim.Native.Nat.{ℕ}
use native.Mathlib.Omega.{arith}
use lib.ListN.{length-replicate}
use Rattle.rules.specs.Rules.{lent, offset_of}
use Rattle.text.proofs.Buffer.{puts_as}
use Rattle.desk.proofs.Sized.{few-left, refusal_is, text_is}
use Rattle.desk.proofs.write_reduction.Goals as goal

pub overflow_cast-left : goal.overflow_cast-left
overflow_cast-left c = let a = c.args in
    record { fits = omega (arith, few-left (offset_of a.offset) a.mask (lent a.table) c.requires.0 c.requires.1 c.ranges.mask.fits _ _ _ (length-replicate {A = ℕ} 4096 0) (length-replicate {A = ℕ} 16 0) (length-replicate {A = ℕ} 8640 0) c.reduce_recorded-done.ensures.0 _ c.in-Ok.is) }

pub returns-in-Err : goal.returns-in-Err
returns-in-Err c = let a = c.args in
    puts_as (sym (refusal_is (offset_of a.offset) a.mask (lent a.table) c.requires.0 c.requires.1 c.ranges.mask.fits _ _ _ (length-replicate {A = ℕ} 4096 0) (length-replicate {A = ℕ} 16 0) (length-replicate {A = ℕ} 8640 0) c.reduce_recorded-done.ensures.0 _ c.in-Err.is)) (rw c.number.ensures at c.put_refusal.ensures)

pub returns-in-Ok : goal.returns-in-Ok
returns-in-Ok c = let a = c.args in
    let e = text_is (offset_of a.offset) a.mask (lent a.table) c.requires.0 c.requires.1 c.ranges.mask.fits _ _ _ (length-replicate {A = ℕ} 4096 0) (length-replicate {A = ℕ} 16 0) (length-replicate {A = ℕ} 8640 0) c.reduce_recorded-done.ensures.0 _ c.in-Ok.is _ _ c.reduce_recorded-done.ensures.1 c.counted.ensures in
    puts_as (sym e) c.put_listing.ensures
