-- A step that is written is read back, and a step that is read is the one that would be written.
use mathlib.Core.Path.{◌≡◌, refl}
use mathlib.Core.Bool.{Bool, true, false, cond, ◌||◌}
use Prim.Native.Nat.{ℕ, ◌-◌, ◌<◌}
use native.Mathlib.Nat.{lt_irrefl}
use native.Mathlib.Omega.{arith}
use borrow.Author.Tests.{ltb-true, ltb-false, lt-ltb, le-ltb}
use lib.Dec.{ltb}
use lib.IntN.{ℤ, pos, negsuc, ◌+ℤ◌, ◌-ℤ◌, +ℤ_comm, +ℤ-neg_ℤ_cancel, -ℤ-+ℤ_cancel}
use lib.Signed.{lt_z, mag}
use Rattle.std.specs.Prelude.{Option, Some, None}
use Rattle.steps.specs.Steps.{small, step_of, byte_of_step, step_of_byte, row_at, landing}

-- The step of a difference: `step_of row target` is that of target minus row.
abbrev step_by : ℤ → Option ℤ
step_by d = small (lt_z d (negsuc 127) || lt_z (pos 127) d) d

-- A difference from −128 to 127 is its own step.
step_by-small : (d : ℤ) → mag d < 128 → step_by d ≡ Some d
step_by-small (pos k) h = simp (le-ltb 127 k (omega arith))
step_by-small (negsuc k) h = simp (le-ltb 127 k (omega arith))

-- Neither below −128 nor above 127: an `i8`.
near : (z : ℤ) → lt_z z (negsuc 127) ≡ false → lt_z (pos 127) z ≡ false → mag z < 128
near (pos k) below above = omega (arith, ltb-false 127 k above)
near (negsuc k) below above = omega (arith, ltb-false 127 k below)

-- A step that is not too far is the difference itself, from −128 to 127.
small_is : (z d : ℤ) → step_by z ≡ Some d → (z ≡ d) × (mag d < 128)
small_is z d = pick (lt_z z (negsuc 127)) (lt_z (pos 127) z) refl refl
  where
    far : None ≡ Some d → ⊥
    far e = let none : ◌≡◌ {A = ℕ} 0 1 = cc in omega arith

    pick : (s t : Bool) → lt_z z (negsuc 127) ≡ s → lt_z (pos 127) z ≡ t → small (s || t) z ≡ Some d → (z ≡ d) × (mag d < 128)
    pick true t p q e = absurd (far e)
    pick false true p q e = absurd (far e)
    pick false false p q e = let is : z ≡ d = cc in (is, rw is at (near z p q))

-- The step of a byte is an `i8`.
step_in-small : (b : ℕ) → b < 256 → mag (step_of_byte b) < 128
step_in-small b h = pick (ltb b 128) refl
  where
    pick : (t : Bool) → ltb b 128 ≡ t → mag (cond t (pos b) (negsuc (255 - b))) < 128
    pick true e = ltb-true b 128 e
    pick false e = omega (arith, ltb-false b 128 e)

-- A byte is the byte of its step.
pub byte_back : (b : ℕ) → b < 256 → byte_of_step (step_of_byte b) ≡ b
byte_back b h = pick (ltb b 128)
  where
    pick : (t : Bool) → byte_of_step (cond t (pos b) (negsuc (255 - b))) ≡ b
    pick true = refl
    pick false = omega arith

-- A step from −128 to 127 is the step of its byte.
pub in_back : (d : ℤ) → mag d < 128 → step_of_byte (byte_of_step d) ≡ d
in_back (pos k) h = simp (lt-ltb k 128 h)
in_back (negsuc k) h = let back : 255 - (255 - k) ≡ k = omega arith in simp (le-ltb (255 - k) 128 (omega arith), back)

-- A target that was written as a step is read back.
pub leads : (row target : ℕ) (d : ℤ) → step_of row target ≡ Some d → landing row (step_of_byte (byte_of_step d)) ≡ target
leads row target d e =
    let s = small_is (pos target -ℤ pos row) d e in
    rw (in_back d s.1, ← s.0, +ℤ_comm (pos row), -ℤ-+ℤ_cancel)

-- A step that is written has a byte.
pub step_byte : (row target : ℕ) (d : ℤ) → step_of row target ≡ Some d → byte_of_step d < 256
step_byte row target d e = bound d (small_is (pos target -ℤ pos row) d e).1
  where
    bound : (d : ℤ) → mag d < 128 → byte_of_step d < 256
    bound (pos k) h = omega arith
    bound (negsuc k) h = omega arith

-- A step that was read is the step to the row that it leads to.
pub step_back_lem : (row b : ℕ) → b < 256 → landing row (step_of_byte b) < 65535 → step_of row (landing row (step_of_byte b)) ≡ Some (step_of_byte b)
step_back_lem row b h l =
    let d = step_of_byte b in
    rw (← on (pos row +ℤ d) l, +ℤ_comm (pos row) d, +ℤ-neg_ℤ_cancel d (pos row)) (step_by-small d (step_in-small b h))
  where
    on : (z : ℤ) → row_at z < 65535 → z ≡ pos (row_at z)
    on (pos k) l = refl
    on (negsuc k) l = absurd (lt_irrefl 65535 l)
