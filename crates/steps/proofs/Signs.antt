-- Signed numbers as the machine has them: a local holds the bits of its number (`of_z`), and a use reads them back (`to_z`).
use mathlib.Core.Path.{◌≡◌, refl, sym, ap, ◌∙◌, subst}
use mathlib.Core.Bool.{Bool, true, false, not, cond}
use Prim.Native.Nat.{ℕ, zero, suc, ◌+◌, ◌-◌, ◌≤◌, ◌<◌, ◌^◌, zero-le, suc-le-suc}
use native.Mathlib.Nat.{zero-add}
use native.Mathlib.Omega.{arith}
use borrow.Author.Tests.{le-ltb, ltb-false}
use lib.Dec.{T, ltb, leb-zero, leb-suc-zero}
use lib.IntN.{ℤ, pos, negsuc, neg_ℤ, nat_abs, ◌+ℤ◌, ◌-ℤ◌}
use lib.Signed.{le_z, lt_z, mag, non_neg}
use mir.Syntax.{Width, w8}
use mir.Val.{Fits, SFits, bits, to_z, of_z}
use mir.ValLaws.{to_z-of_z}

-- What is computed as x is z: it fits where z does, and is read back as z.
module _ {w : Width} {x z : ℤ} (is : x ≡ z) (f : SFits w z) where
  pub holds : SFits w x
  holds = subst (SFits w) (sym is) f

  pub reads : to_z w (of_z w x) ≡ z
  reads = to_z-of_z w x holds ∙ is

-- What is k may be made unsigned.
pub unsigned : {w : Width} {x : ℤ} {k : ℕ} → x ≡ pos k → k < 2 ^ bits w → T (non_neg x) × Fits w (nat_abs x)
unsigned {w} is h = subst (λ (z : ℤ). T (non_neg z) × Fits w (nat_abs z)) (sym is) (tt, record { fits = h })

-- ---- tests

-- `0 <= z` tells the sign, and so does `z < 0`.
pub above : (z : ℤ) → le_z (pos 0) z ≡ true → z ≡ pos (mag z)
above (pos k) e = refl
above (negsuc k) e = cc

pub below : (z : ℤ) → le_z (pos 0) z ≡ false → z ≡ negsuc (mag z)
below (pos k) e = let f = leb-zero k in cc
below (negsuc k) e = refl

pub not-below : (z : ℤ) → le_z (pos 0) z ≡ not (lt_z z (pos 0))
not-below (pos k) = leb-zero k ∙ ap not (sym (leb-suc-zero k))
not-below (negsuc k) = refl

-- Neither below −128 nor above 127: an `i8`.
pub small_fits : (z : ℤ) → lt_z z (negsuc 127) ≡ false → lt_z (pos 127) z ≡ false → SFits w8 z
small_fits (pos k) e₁ e₂ = record { sfits = suc-le-suc (ltb-false 127 k e₂) }
small_fits (negsuc k) e₁ e₂ = record { sfits = suc-le-suc (ltb-false 127 k e₁) }

-- ---- sums

-- `-1 - z` counts down from −1, and so takes k to −1 − k and back.
pub minus_pos : (k : ℕ) → negsuc 0 -ℤ pos k ≡ negsuc k
minus_pos zero = refl
minus_pos (suc k) = ap (λ (m : ℕ). negsuc (suc m)) (zero-add k)

pub minus_neg : (k : ℕ) → negsuc 0 -ℤ negsuc k ≡ pos k
minus_neg k = let one : suc k - 1 ≡ k = omega arith in simp (le-ltb (suc k) 1 (suc-le-suc zero-le), one)

-- A sum is no farther from 0 than its parts together.
pub sum_mag : (a : ℕ) (z : ℤ) → mag (pos a +ℤ z) ≤ a + mag z
sum_mag a (pos b) = omega arith
sum_mag a (negsuc b) = either (ltb a (suc b))
  where
    either : (t : Bool) → mag (cond t (negsuc (suc b - suc a)) (pos (a - suc b))) ≤ a + b
    either true = omega arith
    either false = omega arith

pub neg_mag : (k : ℕ) → mag (neg_ℤ (pos k)) ≤ k
neg_mag zero = zero-le
neg_mag (suc k) = omega arith
