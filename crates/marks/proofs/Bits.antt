-- One bit of a byte: the code's `|` and `& !` against `with_bit`, and what `with_bit` does to each bit.
use mathlib.Core.Path.{◌≡◌, ap}
use mathlib.Core.Logic.{◌≢◌}
use mathlib.Core.List.{List}
use Prim.Native.Nat.{ℕ, zero, suc, ◌+◌, ◌-◌, ◌*◌, ◌/◌, ◌%◌, ◌^◌, ◌≤◌, ◌<◌, min}
use native.Mathlib.Nat.{add-mul, zero-div, zero-mod, mod-lt, div-add-mod', div-lt_iff_lt-mul, pow-suc}
use native.Mathlib.Decide.{dec_lt}
use native.Mathlib.Numerals.{one-add}
use borrow.Author.Tests.{eq-eqb, ne_eqb}
use native.Mathlib.Omega.{arith}
use lib.Arith.{lt-one}
use lib.Bits.{bit_and, bit_or, and_step, and_le_l, and_high, or_add_and}
use lib.ListN.{length, get_or-eq_default}
use lib.Seq.{set_out}
use lib.Pow.{pow_pos, pow-lt, pow-add, shr_lt, shr-shr, split, high, low, field, mod-mod-pow}
use Rattle.tables.specs.Table.{mark_of}
use Rattle.marks.specs.Marks.{with_bit}

-- ---- the code's operations

-- The code's `1 << i` loses nothing.
shifted : (i : ℕ) → i < 8 → 1 * 2 ^ i % 256 ≡ 2 ^ i
shifted i h = omega (arith, pow-lt {j = 8} h)

and-bit : (b i : ℕ) → bit_and b (2 ^ i) ≡ b / 2 ^ i % 2 * 2 ^ i
and-bit b i =
    let top : 2 ^ (1 + i) - 2 ^ i ≡ 2 ^ i = omega (arith, pow-add 2 1 i) in
    rw top at (and_high b 1 i)

-- The step of `and-not`: the lowest digit joins the higher ones.
lowest : (a x p q : ℕ) → p + q ≡ a / 2 → p * 2 + min (a % 2) (1 - x % 2) + (q * 2 + min (a % 2) (x % 2)) ≡ a
lowest a x p q e = omega arith

-- A mask and its complement share out the digits.
and-not : (n a x : ℕ) → a < 2 ^ n → x < 2 ^ n → bit_and a (2 ^ n - 1 - x) + bit_and a x ≡ a
and-not zero a x ha hx = omega (arith, and_le_l a (1 - 1 - x), and_le_l a x)
and-not (suc n) a x ha hx =
    let p = pow-suc 2 n in
    let half : (2 ^ suc n - 1 - x) / 2 ≡ 2 ^ n - 1 - x / 2 = omega arith in
    let odd : (2 ^ suc n - 1 - x) % 2 ≡ 1 - x % 2 = omega arith in
    rw (and_step a (2 ^ suc n - 1 - x), and_step a x, half, odd) (lowest a x _ _ (and-not n (a / 2) (x / 2) (omega arith) (omega arith)))

pub set-bit : (b i : ℕ) → i < 8 → bit_or b (1 * 2 ^ i % 256) ≡ with_bit b i 1
set-bit b i h = rw shifted (omega (arith, or_add_and b (2 ^ i), and-bit b i, and_le_l b (2 ^ i)))

pub clear_bit : (b i : ℕ) → b < 256 → i < 8 → bit_and b (255 - 1 * 2 ^ i % 256) ≡ with_bit b i 0
clear_bit b i hb h = rw shifted (omega (arith, and-not 8 b (2 ^ i) hb (pow-lt h), and-bit b i))

-- For `put_mark`: a bit set or cleared, and a place beyond the bytes.
pub ruleset bit_put = (set-bit, clear_bit, eq-eqb, ne_eqb, set_out)

-- ---- the bits of `with_bit`

-- The bits above, the new bit and the bits below.
parts : (b i m : ℕ) → with_bit b i m ≡ (b / 2 ^ i / 2 * 2 + m) * 2 ^ i + b % 2 ^ i
parts b i m =
    let q = b / 2 ^ i in
    let whole = ap (λ (x : ℕ). x * 2 ^ i) (div-add-mod' q 2) in
    omega (arith, split b i, whole, add-mul (q / 2 * 2) (q % 2) (2 ^ i), add-mul (q / 2 * 2) m (2 ^ i))

-- A number from digit j up, by what stands above digit i; and digit j, by what stands below digit i.
higher : (x i j : ℕ) → i < j → x / 2 ^ j ≡ x / 2 ^ i / 2 / 2 ^ (j - (i + 1))
higher x i j h =
    let e : i + 1 + (j - (i + 1)) ≡ j = omega arith in
    rw (shr-shr x i 1, shr-shr x (i + 1) _, e)

lower : (x i j : ℕ) → j < i → x / 2 ^ j % 2 ≡ x % 2 ^ i % 2 ^ (1 + j) / 2 ^ j
lower x i j h =
    let e : i - (1 + j) + (1 + j) ≡ i = omega arith in
    rw (← field x 1 j, ← mod-mod-pow x (i - (1 + j)) (1 + j), e)

module _ (b i m : ℕ) (bit : m ≤ 1) where
  high_part : with_bit b i m / 2 ^ i ≡ b / 2 ^ i / 2 * 2 + m
  high_part = rw (parts, high _ i (mod-lt b (pow_pos i)))

  low_part : with_bit b i m % 2 ^ i ≡ b % 2 ^ i
  low_part = rw (parts, low _ i (mod-lt b (pow_pos i)))

  pub bit_here : with_bit b i m / 2 ^ i % 2 ≡ m
  bit_here = rw high_part (omega arith)

  pub bits_above : (j : ℕ) → i < j → with_bit b i m / 2 ^ j ≡ b / 2 ^ j
  bits_above j h =
      let halved : with_bit b i m / 2 ^ i / 2 ≡ b / 2 ^ i / 2 = rw high_part (omega arith) in
      rw (higher (with_bit b i m) i j h, higher b i j h, halved)

  pub bit_else : (j : ℕ) → j ≢ i → with_bit b i m / 2 ^ j % 2 ≡ b / 2 ^ j % 2
  bit_else j ne = pick (dec_lt i j)
    where
      pick : Dec (i < j) → with_bit b i m / 2 ^ j % 2 ≡ b / 2 ^ j % 2
      pick (yes h) = rw (bits_above j h)
      pick (no h) =
          let below : j < i = omega arith in
          rw (lower (with_bit b i m) i j below, lower b i j below, low_part)

-- ---- a number without bits

pub no_bits : (n x : ℕ) → x < 2 ^ n → ((k : ℕ) → k < n → x / 2 ^ k % 2 ≡ 0) → x ≡ 0
no_bits zero x h clear = lt-one h
no_bits (suc n) x h clear =
    let top : x / 2 ^ n < 2 = shr_lt 1 n (rw one-add h) in
    let zero-top : x / 2 ^ n < 1 = omega (arith, clear n (omega arith)) in
    no_bits n x (omega (arith, (div-lt_iff_lt-mul (pow_pos n)).0 zero-top)) (λ k g. clear k (omega arith))

-- ---- a mark beyond the bytes

pub beyond : (marks : List ℕ) (r : ℕ) → length marks ≤ r / 8 → mark_of marks r ≡ 0
beyond marks r h = rw (get_or-eq_default marks 0 h, zero-div, zero-mod)
