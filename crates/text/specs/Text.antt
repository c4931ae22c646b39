-- Text as bytes: words, numbers, texts one after the other, and a lent buffer with text in it.
use Rattle.std.specs.Prelude.{◌≡◌, true, false, List, [], ◌∷◌, ◌++◌, ℕ, zero, suc, ◌+◌, ◌-◌, ◌/◌, ◌%◌, min, ltb, length, take, drop}
use Prim.Native.Char.{code}
use Prim.Native.String.{String, [] as none, ◌∷◌ as ◌then◌}

-- The bytes of a text in ASCII.
abbrev pub text : String → List ℕ
text none = []
text (c then s) = code c ∷ text s

-- The lowest decimal digits of n, at most so many of them, as bytes of text; the highest first, and no 0 in front.
unfoldable pub decimal_in : ℕ → ℕ → List ℕ
decimal_in zero n = []
decimal_in (suc most) n = elim (ltb n 10) [ true ↦ (48 + n) ∷ [] | false ↦ decimal_in most (n / 10) ++ ((48 + n % 10) ∷ []) ]

-- A number in decimal digits; n + 1 of them are always enough.
unfoldable pub decimal : ℕ → List ℕ
decimal n = decimal_in (suc n) n

-- f 0, f 1, .. f (n - 1), one after the other.
unfoldable pub joined : ℕ → (ℕ → List ℕ) → List ℕ
joined zero f = []
joined (suc n) f = joined n f ++ f n

-- A buffer with l in front, as far as there is room, and beyond l what was there.
unfoldable pub filled : List ℕ → List ℕ → List ℕ
filled out l = take (length out) l ++ drop (length l) out

-- The text t is written into a buffer from place `at` on, as far as there is room; `end` is the place after it.
pub record Puts (out : List ℕ) (at : ℕ) (t exit : List ℕ) (end : ℕ) : Type 0 where
  pub text_in : exit ≡ filled out (take at out ++ t)
  pub next : end ≡ at + min (length t) (length out - at)
