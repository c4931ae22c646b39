use mathlib.Core.Path.{sym}
use Prim.Native.Nat.{ℕ}
use native.Mathlib.Omega.{arith}
use lib.ListN.{replicate, length-replicate}
use Rattle.rules.specs.Rules.{lent, offset_of}
use Rattle.text.proofs.Buffer.{puts_as}
use Rattle.loss_desk.proofs.Losses.{refusal_is, text_is}
use Rattle.loss_desk.proofs.write_losses.Goals as goal

pub put_rows-requires : goal.put_rows-requires
put_rows-requires c = c.requires.1

pub returns-in-Err : goal.returns-in-Err
returns-in-Err c = let a = c.args in
    puts_as (sym (refusal_is (offset_of a.offset) a.mask (lent a.table) c.requires.0 c.requires.1 c.check.ensures c.in-Err.is)) (rw c.number.ensures at c.put_refusal.ensures)

pub returns-in-Ok : goal.returns-in-Ok
returns-in-Ok c = let a = c.args in
    puts_as (sym (text_is (offset_of a.offset) a.mask (lent a.table) c.requires.0 c.requires.1 (replicate 8640 0) c.check.ensures c.in-Ok.is (length-replicate {A = ℕ} 8640 0) c.fold_rows.ensures.1)) c.put_rows.ensures
