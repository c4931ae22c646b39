-- "'Buffer too short' said of an ample buffer, and refusing every table": both break demand 1.
use mathlib.Core.Path.{◌≡◌, ap}
use mathlib.Core.Bool.{false}
use Prim.Native.Nat.{ℕ, ◌*◌, ◌≤◌}
use native.Mathlib.Omega.{arith}
use Rattle.tables.specs.Table.{Table, Valid, mark_byte_count}
use Rattle.weights.specs.Weights.{spare_bit_set}
use Rattle.reduction_rules.specs.Checks.{verdict, answer_by}
use Rattle.reduction_rules.proofs.Room.{accepts}
use Rattle.rules.specs.Rules.{Verdict}
use Rattle.std.specs.Prelude.{Ok, Err}
use Rattle.rules.specs.declared.Refusal.{Refusal}

-- A mask of the events of a valid table, and buffers that have the named lengths or more.
module _ (need : ℕ → ℕ) (mask : ℕ) (T : Table) (v : Valid T) (cells marks records scratch : ℕ) (c : T.rows * T.events ≤ cells) (m : mark_byte_count T.rows ≤ marks) (r : T.rows ≤ records) (s : need T.rows ≤ scratch)
    (none : spare_bit_set mask T.events ≡ false) (rows : ℕ) where
  -- No rule is broken, so demand 1 asks for the new row count,
  pub reduces : answer_by (verdict need mask T cells marks records scratch) rows ≡ Ok rows
  reduces = ap (λ (u : Verdict). answer_by u rows) (accepts need mask T v cells marks records scratch c m r s none)

  -- and no refusal keeps it, of rule 7 or any other.
  pub refusing : (r : Refusal) → ¬ (Err r ≡ answer_by (verdict need mask T cells marks records scratch) rows)
  refusing r e = let z : ◌≡◌ {A = ℕ} 0 1 = cc reduces in omega arith
