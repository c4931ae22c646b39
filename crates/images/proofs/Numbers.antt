-- Numbers in bytes: what is written at a place is read there, and what is read is what stands there.
use mathlib.Core.Path.{◌≡◌, sym, ap, ◌∙◌}
use mathlib.Core.List.{List, [], ◌∷◌, ◌++◌}
use Prim.Native.Nat.{ℕ, zero, suc, ◌+◌, ◌/◌, ◌%◌, ◌≤◌, ◌<◌}
use native.Mathlib.Nat.{add-zero, mod-eq_of_lt}
use native.Mathlib.Numerals.{add-one, add-two}
use native.Mathlib.Omega.{arith}
use lib.ListN.{length, get_or, take, drop}
use lib.Seq.{drop_at, drop-cons, drop-drop, get_or-drop}
use Rattle.images.specs.Image.{number, number_at}

-- ---- bytes

abbrev pub Bytes : List ℕ → Type 0
Bytes l = (i : ℕ) → get_or l i 0 < 256

pub append_bytes : (s t : List ℕ) → Bytes s → Bytes t → Bytes (s ++ t)
append_bytes [] t hs ht i = ht i
append_bytes (x ∷ s) t hs ht zero = hs 0
append_bytes (x ∷ s) t hs ht (suc i) = append_bytes s t (λ j. hs (suc j)) ht i

pub take_bytes : (n : ℕ) (l : List ℕ) → Bytes l → Bytes (take n l)
take_bytes zero l h i = omega arith
take_bytes (suc n) [] h i = omega arith
take_bytes (suc n) (x ∷ l) h zero = h 0
take_bytes (suc n) (x ∷ l) h (suc i) = take_bytes n l (λ j. h (suc j)) i

pub drop_bytes : (n : ℕ) (l : List ℕ) → Bytes l → Bytes (drop n l)
drop_bytes n l h i = rw get_or-drop (h (n + i))

pub number_bytes : (n : ℕ) → Bytes (number n)
number_bytes n zero = omega arith
number_bytes n (suc zero) = omega arith
number_bytes n (suc (suc i)) = omega arith

-- ---- places in bytes

module _ (b : List ℕ) where
  -- What comes after a part.
  pub after : (at n : ℕ) (s r : List ℕ) → drop at b ≡ s ++ r → length s ≡ n → drop (at + n) b ≡ r
  after at n s r e h = sym (drop-drop n at b) ∙ ap (drop n) e ∙ drop_at s r n h

  -- What is written is read.
  pub number-at : (at n : ℕ) (r : List ℕ) → drop at b ≡ number n ++ r → n < 65536 → number_at b at ≡ n
  number-at at n r e h =
      let low : get_or b at 0 ≡ n % 256 = rw add-zero at (sym (get_or-drop at b 0 0)) ∙ ap (λ (l : List ℕ). get_or l 0 0) e in
      let high : get_or b (at + 1) 0 ≡ n / 256 % 256 = sym (get_or-drop at b 1 0) ∙ ap (λ (l : List ℕ). get_or l 1 0) e in
      omega arith

  -- What is read is what stands there.
  module _ (bytes : Bytes b) where
    pub number-on : (at : ℕ) → at + 2 ≤ length b → drop at b ≡ number (number_at b at) ++ drop (at + 2) b
    number-on at h =
        let low : number_at b at % 256 ≡ get_or b at 0 = omega (arith, bytes at, bytes (at + 1)) in
        let high : number_at b at / 256 ≡ get_or b (at + 1) 0 = omega (arith, bytes at, bytes (at + 1)) in
        rw (low, high, mod-eq_of_lt (bytes (at + 1)), add-one, add-two, drop-cons b at 0 (omega arith), drop-cons b (suc at) 0 (omega arith))
