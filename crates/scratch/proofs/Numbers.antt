-- Numbers: cases on two of them, and how large a product is.
use Prim.Native.Nat.{ℕ, ◌*◌, ◌≤◌, ◌<◌}
use mathlib.Core.Path.{◌≡◌}
use mathlib.Core.Logic.{◌⊎◌, inl, inr, ⊎_elim}
use native.Mathlib.Nat.{mul-le-mul}
use native.Mathlib.Decide.{dec_lt}
use native.Mathlib.Omega.{arith}

-- Cases on two numbers.
pub lt_or_ge : (a b : ℕ) → (a < b) ⊎ (b ≤ a)
lt_or_ge a b = by-dec (dec_lt a b)
  where
    by-dec : Dec (a < b) → (a < b) ⊎ (b ≤ a)
    by-dec (yes h) = inl h
    by-dec (no h) = inr (omega arith)

pub eq_or_ne : (a b : ℕ) → (a ≡ b) ⊎ (a ≡ b → ⊥)
eq_or_ne a b = ⊎_elim (λ l. inr (omega arith)) (λ g. ⊎_elim (λ l. inr (omega arith)) (λ h. inl (omega arith)) (lt_or_ge b a)) (lt_or_ge a b)

-- Rows and events are 16-bit numbers.
pub product_bound : (q m : ℕ) → q ≤ 65535 → m ≤ 65535 → q * m ≤ 4294836225
product_bound q m h g = mul-le-mul h g
