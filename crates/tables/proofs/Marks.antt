-- Packed marks: what `pack` writes, `mark_of` reads back.
use mathlib.Core.Path.{◌≡◌, sym, ap, ◌∙◌}
use mathlib.Core.List.{List, [], ◌∷◌}
use Prim.Native.Nat.{ℕ, zero, suc, ◌+◌, ◌*◌, ◌/◌, ◌%◌, ◌^◌, ◌≤◌, ◌<◌}
use native.Mathlib.Nat.{zero-add, mul-le-mul_left, zero-div, zero-mod, div-one, div-eq_of_lt, mod-eq_of_lt, add-mul-div_left, add-mul-mod_self_left, div-div-eq-div-mul, div-add-mod, pow-zero, pow-succ', lt_of_lt_of_le}
use native.Mathlib.Omega.{arith}
use native.Mathlib.Decide.{dec_lt}
use lib.ListN.{length, get_or, take, drop, length-take, drop_of_length-le}
use lib.Seq.{get_or-take, get_or-drop, ext_get_or}
use lib.Pow.{pow_mono}
use Rattle.tables.specs.Table.{mark_byte_count, mark_of, digits, pack}
use Rattle.tables.specs.Lists.{over}
use Rattle.tables.proofs.Lists.{tabulate-length, tabulate-all}
use Rattle.tables.proofs.Over.{over-length, over_inside, over-behind}

pub mark_small : (marks : List ℕ) (r : ℕ) → mark_of marks r ≤ 1
mark_small marks r = omega arith

-- ---- digits, in any base

module _ (b : ℕ) (pos : 0 < b) where
  pub digit_at : (l : List ℕ) → ((i : ℕ) → get_or l i 0 < b) → (i : ℕ) → digits b l / b ^ i % b ≡ get_or l i 0
  unfolding digits
  digit_at [] small i = rw (zero-div, zero-mod)
  digit_at (x ∷ l) small zero = rw (pow-zero, div-one, add-mul-mod_self_left, mod-eq_of_lt (small 0))
  digit_at (x ∷ l) small (suc i) =
      let rest : (x + b * digits b l) / b ≡ digits b l = rw (add-mul-div_left x (digits b l) pos, div-eq_of_lt (small 0), zero-add) in
      rw (pow-succ', ← div-div-eq-div-mul, rest) (digit_at l (λ j. small (suc j)) i)

  pub digits-below : (l : List ℕ) → ((i : ℕ) → get_or l i 0 < b) → digits b l < b ^ length l
  unfolding digits
  digits-below [] small = rw pow-zero (omega arith)
  digits-below (x ∷ l) small =
      let h = mul-le-mul_left b (digits-below l (λ j. small (suc j))) in
      rw pow-succ' (omega (arith, small 0, h))

-- ---- packed marks

pub pack-length : (l : List ℕ) → length (pack l) ≡ mark_byte_count (length l)
unfolding pack
pack-length l = tabulate-length _ _

-- Byte i of the packed marks; beyond them both sides are 0.
pack-at : (l : List ℕ) (i : ℕ) → get_or (pack l) i 0 ≡ digits 2 (take 8 (drop (8 * i) l))
unfolding pack digits
pack-at l i = tabulate-all _ _ i 0 (λ h. rw (drop_of_length-le l {i = 8 * i} (omega arith)))

take-small : (n : ℕ) (l : List ℕ) → ((i : ℕ) → get_or l i 0 < 2) → (i : ℕ) → get_or (take n l) i 0 < 2
take-small zero l small i = omega arith
take-small (suc n) [] small i = omega arith
take-small (suc n) (m ∷ l) small zero = small 0
take-small (suc n) (m ∷ l) small (suc i) = take-small n l (λ j. small (suc j)) i

module _ (l : List ℕ) (small : (i : ℕ) → get_or l i 0 < 2) where
  part_small : (k i : ℕ) → get_or (take 8 (drop k l)) i 0 < 2
  part_small k = take-small 8 (drop k l) (λ j. rw get_or-drop (small (k + j)))

  -- Also beyond the list, where both sides are 0.
  pub pack_mark : (r : ℕ) → mark_of (pack l) r ≡ get_or l r 0
  pack_mark r =
      let h : r % 8 < 8 = omega arith in
      rw (pack-at, digit_at 2 (omega arith) _ (part_small (8 * (r / 8))), get_or-take, get_or-drop, div-add-mod)

  pub pack_bytes : (i : ℕ) → get_or (pack l) i 0 < 256
  pack_bytes i = rw pack-at (lt_of_lt_of_le (digits-below 2 (omega arith) _ (part_small (8 * i))) (pow_mono {j = 8} (rw length-take (omega arith))))

-- ---- marks written one by one

-- Numbers of n bits are equal if their bits are.
bits_same : (n b c : ℕ) → b < 2 ^ n → c < 2 ^ n → ((k : ℕ) → k < n → b / 2 ^ k % 2 ≡ c / 2 ^ k % 2) → b ≡ c
bits_same zero b c hb hc h = omega arith
bits_same (suc n) b c hb hc h =
    let p = pow-succ' 2 n in
    let low : b % 2 ≡ c % 2 = sym (ap (λ (x : ℕ). x % 2) (div-one b)) ∙ h 0 (omega arith) ∙ ap (λ (x : ℕ). x % 2) (div-one c) in
    let high : b / 2 ≡ c / 2 = bits_same n (b / 2) (c / 2) (omega arith) (omega arith) (λ k l.
    rw (div-div-eq-div-mul b 2 (2 ^ k), div-div-eq-div-mul c 2 (2 ^ k), ← pow-succ' 2 k) (h (suc k) (omega arith))) in
    omega arith

-- The bit of a byte as the mark of a row.
byte_bit : (marks : List ℕ) (j k : ℕ) → k < 8 → get_or marks j 0 / 2 ^ k % 2 ≡ mark_of marks (8 * j + k)
byte_bit marks j k h =
    let byte : (8 * j + k) / 8 ≡ j = omega arith in
    let bit : (8 * j + k) % 8 ≡ k = omega arith in
    rw (byte, bit)

-- Bytes whose marks are those of l, and beyond them what they were, are the packed marks of l written over.
pub pack-over : (l d e : List ℕ) → ((i : ℕ) → get_or l i 0 < 2) → ((i : ℕ) → get_or d i 0 < 256) → ((i : ℕ) → get_or e i 0 < 256) → length e ≡ length d
    → mark_byte_count (length l) ≤ length d → ((r : ℕ) → r < 8 * mark_byte_count (length l) → mark_of e r ≡ get_or l r 0)
    → ((r : ℕ) → 8 * mark_byte_count (length l) ≤ r → mark_of e r ≡ mark_of d r) → e ≡ over d 0 (pack l)
pack-over l d e small hd he same fits here beyond =
    let n = pack-length l in
    let inside : 0 + length (pack l) ≤ length d = omega arith in
    ext_get_or 0 e (over d 0 (pack l)) (same ∙ sym (over-length d 0 (pack l) inside)) (λ j hj. elim (dec_lt j (mark_byte_count (length l))) [
      | yes h ↦
          bits_same 8 (get_or e j 0) (get_or (pack l) j 0) (he j) (pack_bytes l small j)
          (λ k hk. byte_bit e j k hk ∙ here (8 * j + k) (omega arith) ∙ sym (pack_mark l small (8 * j + k)) ∙ sym (byte_bit (pack l) j k hk))
          ∙ sym (over_inside d 0 (pack l) inside j 0 (omega arith)) ∙ ap (λ (i : ℕ). get_or (over d 0 (pack l)) i 0) (zero-add j)
      | no h ↦
          bits_same 8 (get_or e j 0) (get_or d j 0) (he j) (hd j) (λ k hk. byte_bit e j k hk ∙ beyond (8 * j + k) (omega arith) ∙ sym (byte_bit d j k hk))
          ∙ sym (over-behind d 0 (pack l) inside j 0 (omega arith))
    ])
