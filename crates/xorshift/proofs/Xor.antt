-- A number's xor with itself shifted is undone, once for every shift and width.
use mathlib.Core.Path.{◌≡◌, refl, sym, ap, ap₂, ◌∙◌}
use Prim.Native.Nat.{ℕ, zero, suc, ◌+◌, ◌-◌, ◌*◌, ◌/◌, ◌%◌, ◌^◌, ◌≤◌, ◌<◌}
use native.Mathlib.Nat.{mod-one, mod-lt, mod-eq_of_lt, mul-mod_left, zero-div, div-one, div-eq_of_lt, suc-mul}
use native.Mathlib.Omega.{arith}
use lib.Arith.{bin_ind}
use lib.Bits.{bit_xor, xor_self, xor_shr, xor_mod, xor_lt}
use lib.Pow.{pow_pos, shl-shr, shr-shr, mod-pow-add, mod-mod-pow}
use Rattle.xorshift.specs.Xorshift.{shift_left, xor_left, xor_right}
use Rattle.xorshift.specs.Back.{left_back, right_back}

-- ---- xor twice

bit-twice : (x y : ℕ) → x < 2 → y < 2 → bit_xor (bit_xor x y) y ≡ x
bit-twice zero zero hx hy = refl
bit-twice zero (suc zero) hx hy = refl
bit-twice (suc zero) zero hx hy = refl
bit-twice (suc zero) (suc zero) hx hy = refl
bit-twice zero (suc (suc y)) hx hy = absurd (omega arith)
bit-twice (suc zero) (suc (suc y)) hx hy = absurd (omega arith)
bit-twice (suc (suc x)) y hx hy = absurd (omega arith)

pub xor_twice : (a b : ℕ) → bit_xor (bit_xor a b) b ≡ a
xor_twice = bin_ind (λ (n : ℕ). (b : ℕ) → bit_xor (bit_xor n b) b ≡ n) xor_self (λ n ih b.
    let half : bit_xor (bit_xor n b) b / 2 ≡ n / 2
    = xor_shr (bit_xor n b) b 1 ∙ ap (λ (x : ℕ). bit_xor x (b / 2)) (xor_shr n b 1) ∙ ih (b / 2) in
    let odd : bit_xor (bit_xor n b) b % 2 ≡ n % 2
    = xor_mod (bit_xor n b) b 1 ∙ ap (λ (x : ℕ). bit_xor x (b % 2)) (xor_mod n b 1) ∙ bit-twice (n % 2) (b % 2) (omega arith) (omega arith) in
    omega arith)

-- ---- to the right: the bits from j up tell those from j - k up

module _ (k x : ℕ) where
  right_round : (z j : ℕ) → z / 2 ^ j ≡ x / 2 ^ j → bit_xor (xor_right k x) (z / 2 ^ k) / 2 ^ (j - k) ≡ x / 2 ^ (j - k)
  right_round z j h =
      let e : k + (j - k) ≡ j + (k - j) = omega arith in
      let same : z / 2 ^ k / 2 ^ (j - k) ≡ x / 2 ^ k / 2 ^ (j - k)
      = shr-shr z k (j - k) ∙ ap (λ (i : ℕ). z / 2 ^ i) e ∙ sym (shr-shr z j (k - j)) ∙ ap (λ (y : ℕ). y / 2 ^ (k - j)) h
      ∙ shr-shr x j (k - j) ∙ ap (λ (i : ℕ). x / 2 ^ i) (sym e) ∙ sym (shr-shr x k (j - k)) in
      xor_shr (xor_right k x) (z / 2 ^ k) (j - k) ∙ ap (bit_xor (xor_right k x / 2 ^ (j - k))) same
      ∙ sym (xor_shr (xor_right k x) (x / 2 ^ k) (j - k)) ∙ ap (λ (y : ℕ). y / 2 ^ (j - k)) (xor_twice x (x / 2 ^ k))

  right_rounds : (w n : ℕ) → x < 2 ^ w → right_back k n (xor_right k x) / 2 ^ (w - n * k) ≡ x / 2 ^ (w - n * k)
  unfolding right_back
  right_rounds w zero h =
      let e : w - 0 * k ≡ w = omega arith in
      rw e (zero-div (2 ^ w) ∙ sym (div-eq_of_lt h))
  right_rounds w (suc n) h =
      let e : w - suc n * k ≡ w - n * k - k = omega (arith, suc-mul n k) in
      rw e (right_round _ (w - n * k) (right_rounds w n h))

  pub right_undone : (w n : ℕ) → x < 2 ^ w → w ≤ n * k → right_back k n (xor_right k x) ≡ x
  right_undone w n h enough =
      let e : w - n * k ≡ 0 = omega arith in
      sym (div-one _) ∙ (rw e at (right_rounds w n h)) ∙ div-one x

-- ---- to the left: the bits below j tell those below j + k

module _ (w k x : ℕ) where
  -- The bits below i of a shifted number, by those below j of the number.
  shifted : (z j i : ℕ) → i ≤ w → i ≤ j + k → z % 2 ^ j ≡ x % 2 ^ j → shift_left w k z % 2 ^ i ≡ shift_left w k x % 2 ^ i
  shifted z j i hi h same = below z ∙ ap (λ (v : ℕ). (v * 2 ^ k + 0) % 2 ^ i) same ∙ sym (below x)
    where
      cut : (v n : ℕ) → i ≤ n → v % 2 ^ n % 2 ^ i ≡ v % 2 ^ i
      cut v n g =
          let e : n - i + i ≡ n = omega arith in
          rw e at (mod-mod-pow v (n - i) i)

      below : (v : ℕ) → shift_left w k v % 2 ^ i ≡ (v % 2 ^ j * 2 ^ k + 0) % 2 ^ i
      below v =
          cut (v * 2 ^ k) w hi ∙ sym (cut (v * 2 ^ k) (j + k) h)
          ∙ ap (λ (y : ℕ). y % 2 ^ i) (mod-pow-add (v * 2 ^ k) j k ∙ ap₂ (λ (p q : ℕ). p % 2 ^ j * 2 ^ k + q) (shl-shr v k) (mul-mod_left v (2 ^ k)))

  left-rounds : (n i : ℕ) → i ≤ w → i ≤ n * k → left_back w k n (xor_left w k x) % 2 ^ i ≡ x % 2 ^ i
  unfolding left_back
  left-rounds zero i hi h =
      let e : i ≡ 0 = omega arith in
      rw e (sym (mod-one x))
  left-rounds (suc n) i hi h =
      let z : ℕ = left_back w k n (xor_left w k x) in
      xor_mod (xor_left w k x) (shift_left w k z) i
      ∙ ap (bit_xor (xor_left w k x % 2 ^ i)) (shifted z (i - k) i hi (omega arith) (left-rounds n (i - k) (omega arith) (omega (arith, suc-mul n k))))
      ∙ sym (xor_mod (xor_left w k x) (shift_left w k x) i) ∙ ap (λ (y : ℕ). y % 2 ^ i) (xor_twice x (shift_left w k x))

  pub left-small : x < 2 ^ w → xor_left w k x < 2 ^ w
  left-small h = xor_lt w x (shift_left w k x) h (mod-lt (x * 2 ^ k) (pow_pos w))

  pub left_undone : (n : ℕ) → x < 2 ^ w → w ≤ suc n * k → left_back w k (suc n) (xor_left w k x) ≡ x
  unfolding left_back
  left_undone n h enough =
      let small : left_back w k (suc n) (xor_left w k x) < 2 ^ w = xor_lt w (xor_left w k x) _ (left-small h) (mod-lt _ (pow_pos w)) in
      sym (mod-eq_of_lt small) ∙ left-rounds (suc n) w (omega arith) enough ∙ mod-eq_of_lt h
