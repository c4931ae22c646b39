-- The language's count of ones is how many events count, and a mask has no bit beyond its 32.
use mathlib.Core.Path.{◌≡◌, refl, sym, ap, ap₂, ◌∙◌}
use mathlib.Core.Bool.{false}
use Prim.Native.Nat.{ℕ, zero, suc, ◌+◌, ◌/◌, ◌%◌, ◌^◌, ◌≤◌, ◌<◌}
use native.Mathlib.Nat.{div-eq_of_lt, mod-eq_of_lt, mod-lt, div-lt_iff_lt-mul, lt_of_lt_of_le, add_comm}
use native.Mathlib.Omega.{arith}
use borrow.Author.Tests.{eqb-true, not-false}
use lib.Count.{ones, ones_in, ones_cat, ones-ones}
use lib.Dec.{eqb}
use lib.Pow.{pow_mono, mod-pow-add, pow_pos, ones_lt}
use Rattle.tables.proofs.Counted.{full}
use Rattle.weights.specs.Weights.{spare_bit_set, counted}

-- One digit.
ones_digit : (x : ℕ) → x < 2 → ones x ≡ x
unfolding ones ones_in
ones_digit zero h = refl
ones_digit (suc zero) h = refl
ones_digit (suc (suc x)) h = absurd (omega arith)

-- The ones among the lowest m digits.
ones_low : (mask m : ℕ) → m ≤ 32 → ones (mask % 2 ^ m) ≡ counted mask m
unfolding counted
ones_low mask zero h = ap ones (let z : mask % 1 ≡ 0 = omega arith in z) ∙ ones_digit 0 (omega arith)
ones_low mask (suc m) h =
    let digit : mask / 2 ^ m % 2 < 2 = omega arith in
    let same : m % 32 ≡ m = omega arith in
    let next : suc m ≡ 1 + m = omega arith in
    ap (λ (x : ℕ). ones (mask % 2 ^ x)) next ∙ ap ones (mod-pow-add mask 1 m) ∙ ones_cat m (mask / 2 ^ m % 2 ^ 1) (mask % 2 ^ m) (mod-lt mask (pow_pos m))
    ∙ ap₂ ◌+◌ (ones_digit (mask / 2 ^ m % 2) digit ∙ ap (λ (x : ℕ). mask / 2 ^ x % 2) (sym same)) (ones_low mask m (omega arith)) ∙ add_comm _ _

-- A mask of m digits has as many ones as events count.
pub ones_counted : (mask m : ℕ) → m ≤ 32 → mask < 2 ^ m → ones mask ≡ counted mask m
ones_counted mask m h fits = sym (ap ones (mod-eq_of_lt fits)) ∙ ones_low mask m h

-- No bit is set at or above the event count.
below : (mask events : ℕ) → spare_bit_set mask events ≡ false → mask < 2 ^ events
unfolding spare_bit_set
below mask events e =
    let none : mask / 2 ^ events ≡ 0 = eqb-true (mask / 2 ^ events) 0 (not-false (eqb (mask / 2 ^ events) 0) e) in
    omega (arith, (div-lt_iff_lt-mul {k = 2 ^ events} {x = mask} {y = 1} (pow_pos events)).0 (omega arith))

-- Then the count of all ones is that of the events.
pub counted-all : (mask events : ℕ) → events ≤ 32 → mask < 2 ^ 32 → spare_bit_set mask events ≡ false → counted mask 32 ≡ counted mask events
counted-all mask events h fits e = sym (ones_counted mask 32 (omega arith) fits) ∙ ones_counted mask events h (below mask events e)

-- A mask of 32 bits has none above them.
pub no_spare : (mask events : ℕ) → mask < 2 ^ 32 → 32 ≤ events → spare_bit_set mask events ≡ false
unfolding spare_bit_set
no_spare mask events fits h = rw (div-eq_of_lt (lt_of_lt_of_le fits (pow_mono h)))

-- No more events count than there are.
pub counted_few : (mask m : ℕ) → counted mask m ≤ m
unfolding counted
counted_few mask zero = omega arith
counted_few mask (suc a) = omega (arith, counted_few mask a)

-- A mask that counts every one of m events has no bit beyond them, and counts m.
pub full_clear : (m : ℕ) → spare_bit_set (full m) m ≡ false
unfolding spare_bit_set
full_clear m = rw (div-eq_of_lt (ones_lt m))

pub full-counted : (m : ℕ) → m ≤ 32 → counted (full m) m ≡ m
full-counted m h = sym (ones_counted (full m) m h (ones_lt m)) ∙ ones-ones m
