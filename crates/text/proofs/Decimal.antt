-- Laws of numbers in decimal digits: how they go on, and that they are the digits of the number.
use mathlib.Core.Path.{◌≡◌, refl, sym, ap, ◌∙◌}
use mathlib.Core.List.Memᴰ
use mathlib.Core.List.{List, [], ◌∷◌, ◌++◌, Memᴰ}
use mathlib.Core.Logic.{inl, inr}
use Prim.Native.Nat.{ℕ, zero, suc, ◌+◌, ◌-◌, ◌*◌, ◌/◌, ◌%◌, ◌^◌, ◌≤◌, ◌<◌}
use native.Mathlib.Nat.{pow-succ'}
use native.Mathlib.Omega.{arith}
use native.Mathlib.Decide.{dec_lt}
use borrow.Author.Tests.{lt-ltb, le-ltb}
use lib.ListN.{length, get_or, length-append, get_or-append}
use Rattle.text.specs.Text.{decimal_in, decimal}

-- ---- how the digits go on

one_digit : (most n : ℕ) → n < 10 → decimal_in (suc most) n ≡ (48 + n) ∷ []
unfolding decimal_in
one_digit most n h = rw (lt-ltb n 10 h, decimal_in)

more-digits : (most n : ℕ) → 10 ≤ n → decimal_in (suc most) n ≡ decimal_in most (n / 10) ++ ((48 + n % 10) ∷ [])
unfolding decimal_in
more-digits most n h = rw (le-ltb n 10 h, decimal_in)

-- What holds of a number of one digit, and of one with a digit more, holds of every number and its digits.
module _ (P : ℕ → List ℕ → Type 0) (one : (n : ℕ) → n < 10 → P n ((48 + n) ∷ [])) (more : (n : ℕ) (l : List ℕ) → 10 ≤ n → P (n / 10) l → P n (l ++ ((48 + n % 10) ∷ []))) where
  all_digits : (most n : ℕ) → n < most → P n (decimal_in most n)
  all_digits zero n h = absurd (omega arith)
  all_digits (suc most) n h = pick (dec_lt n 10) (λ g. all_digits most (n / 10) g)
    where
      pick : Dec (n < 10) → (n / 10 < most → P (n / 10) (decimal_in most (n / 10))) → P n (decimal_in (suc most) n)
      pick (yes g) ih = rw (one_digit most n g) (one n g)
      pick (no g) ih = rw (more-digits most n (omega arith)) (more n (decimal_in most (n / 10)) (omega arith) (ih (omega arith)))

  decimal-all : (n : ℕ) → P n (decimal n)
  unfolding decimal
  decimal-all n = all_digits (suc n) n (omega arith)

-- It does not matter how many digits there may be, if there are enough.
enough : (a b n : ℕ) → n < a → n < b → decimal_in a n ≡ decimal_in b n
enough a b n ha hb = all_digits (λ n l. (b : ℕ) → n < b → l ≡ decimal_in b n) one more a n ha b hb
  where
    one : (n : ℕ) → n < 10 → (b : ℕ) → n < b → ((48 + n) ∷ []) ≡ decimal_in b n
    one n h zero g = absurd (omega arith)
    one n h (suc b) g = sym (one_digit b n h)

    more : (n : ℕ) (l : List ℕ) → 10 ≤ n → ((b : ℕ) → n / 10 < b → l ≡ decimal_in b (n / 10)) → (b : ℕ) → n < b → l ++ ((48 + n % 10) ∷ []) ≡ decimal_in b n
    more n l h e zero g = absurd (omega arith)
    more n l h e (suc b) g = ap (λ (k : List ℕ). k ++ ((48 + n % 10) ∷ [])) (e b (omega arith)) ∙ sym (more-digits b n h)

pub decimal-one : (n : ℕ) → n < 10 → decimal n ≡ (48 + n) ∷ []
unfolding decimal
decimal-one n h = one_digit n n h

pub decimal-more : (n : ℕ) → 10 ≤ n → decimal n ≡ decimal (n / 10) ++ ((48 + n % 10) ∷ [])
unfolding decimal
decimal-more n h = more-digits n n h ∙ ap (λ (k : List ℕ). k ++ ((48 + n % 10) ∷ [])) (enough n (suc (n / 10)) (n / 10) (omega arith) (omega arith))

-- ---- how many digits there are

-- A number below 10 ^ d has at most d of them, where d is not 0.
pub decimal-length : (d n : ℕ) → n < 10 ^ suc d → length (decimal n) ≤ suc d
decimal-length zero n h = rw (decimal-one n (omega arith)) (omega arith)
decimal-length (suc d) n h = pick (dec_lt n 10) (decimal-length d (n / 10))
  where
    pick : Dec (n < 10) → (n / 10 < 10 ^ suc d → length (decimal (n / 10)) ≤ suc d) → length (decimal n) ≤ suc (suc d)
    pick (yes g) ih = rw (decimal-one n g) (omega arith)
    pick (no g) ih = rw (decimal-more n (omega arith)) (omega (arith, length-append (decimal (n / 10)) ((48 + n % 10) ∷ []), ih (omega (arith, pow-succ' 10 (suc d)))))

-- ---- what the digits are

-- The number whose digits are those of n and then the list's.
unfoldable pub value : ℕ → List ℕ → ℕ
value n [] = n
value n (b ∷ l) = value (n * 10 + (b - 48)) l

value-append : (n : ℕ) (l m : List ℕ) → value n (l ++ m) ≡ value (value n l) m
unfolding value
value-append n [] m = refl
value-append n (b ∷ l) m = value-append (n * 10 + (b - 48)) l m

-- Read back, they give the number.
pub decimal-value : (n : ℕ) → value 0 (decimal n) ≡ n
unfolding value
decimal-value = decimal-all (λ n l. value 0 l ≡ n) (λ n h. omega arith) (λ n l h e. value-append 0 l ((48 + n % 10) ∷ []) ∙ omega (arith, e))

-- Each is a digit.
pub decimal_digit : (n b : ℕ) → Memᴰ b (decimal n) → (48 ≤ b) × (b ≤ 57)
decimal_digit = decimal-all (λ n l. (b : ℕ) → Memᴰ b l → (48 ≤ b) × (b ≤ 57))
    (λ n h b g. let e = Memᴰ.eq_of_singleton g in (omega arith, omega arith))
    (λ n l h each b g. elim (Memᴰ.append_cases l g) [ inl f ↦ each b f | inr f ↦ let e = Memᴰ.eq_of_singleton f in (omega arith, omega arith) ])

-- The first is no 0, but that of the number 0.
pub decimal-first : (n : ℕ) → get_or (decimal n) 0 0 ≡ 48 → n ≡ 0
decimal-first n e = elim (dec_lt 0 n) [
  | yes h ↦ absurd (omega (
    arith,
    decimal-all (λ n l. 0 < n → (0 < length l) × (48 < get_or l 0 0))
        (λ n h g. (omega arith, omega arith))
        (λ n l h first g.
        let f = first (omega arith) in
        (omega (arith, length-append l ((48 + n % 10) ∷ [])), omega (arith, get_or-append l ((48 + n % 10) ∷ []) 0 0 f.0)))
        n h,
  ))
  | no h ↦ omega arith
]
