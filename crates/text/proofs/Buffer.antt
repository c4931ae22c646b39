-- Laws of text that is written into a buffer, one piece after the other.
use mathlib.Core.Path.{◌≡◌, refl, sym, ap, ap₂, subst⁻¹, ◌∙◌}
use mathlib.Core.List.{List, [], ◌∷◌, ◌++◌, append_assoc, append-nil}
use Prim.Native.Nat.{ℕ, zero, suc, ◌+◌, ◌≤◌, ◌<◌, min}
use native.Mathlib.Omega.{arith}
use native.Mathlib.Decide.{dec_lt}
use native.Mathlib.Numerals.{add-one}
use lib.ListN.{length, take, drop, set, length-append, length-take, length-drop, take-append-drop, drop_of_length-le}
use lib.Seq.{length-take-le, take_all, take-append-le, take-append_seam, drop-append_seam, take_at, drop-drop, set_split, append_snoc}
use Rattle.text.specs.Text.{joined, filled, Puts}

-- ---- a buffer with text in front

module _ (out l : List ℕ) where
  -- There is room for all of it.
  pub filled_in : length l ≤ length out → filled out l ≡ l ++ drop (length l) out
  unfolding filled
  filled_in h = rw (take_all (length out) l h)

  -- There is room for no more.
  filled_out : length out ≤ length l → filled out l ≡ take (length out) l
  unfolding filled
  filled_out h = rw (drop_of_length-le out h, append-nil)

  filled-length : length (filled out l) ≡ length out
  unfolding filled
  filled-length = omega (arith, length-append (take (length out) l) (drop (length l) out), length-take (length out) l, length-drop (length l) out)

-- More text behind the first, where the first ends at m or fills the buffer.
module _ (out l t : List ℕ) (m : ℕ) where
  more_in : length l < length out → m ≡ length l → filled (filled out l) (take m (filled out l) ++ t) ≡ filled out (l ++ t)
  unfolding filled
  more_in h e =
      let x = filled_in out l (omega arith) in
      let n = filled-length out l in
      let front : take m (filled out l) ≡ l = ap (take m) x ∙ take_at l (drop (length l) out) m (sym e) in
      let back : drop (length (l ++ t)) (filled out l) ≡ drop (length (l ++ t)) out
      = ap (λ (k : ℕ). drop k (filled out l)) (length-append l t) ∙ sym (drop-drop (length t) (length l) (filled out l))
      ∙ ap (drop (length t)) (ap (drop (length l)) x ∙ drop-append_seam l (drop (length l) out))
      ∙ drop-drop (length t) (length l) out ∙ ap (λ (k : ℕ). drop k out) (sym (length-append l t)) in
      rw (front, n, back)

  more_out : length out ≤ length l → length out ≤ m → filled (filled out l) (take m (filled out l) ++ t) ≡ filled out (l ++ t)
  more_out h g =
      let x = filled out l in
      let n = filled-length out l in
      ap (λ (k : List ℕ). filled x (k ++ t)) (take_all m x (omega arith))
      ∙ filled_out x (x ++ t) (omega (arith, length-append x t)) ∙ take-append_seam x t
      ∙ filled_out out l h ∙ sym (filled_out out (l ++ t) (omega (arith, length-append l t)) ∙ take-append-le (length out) l t h)

  filled_more : min m (length out) ≡ min (length l) (length out) → filled (filled out l) (take m (filled out l) ++ t) ≡ filled out (l ++ t)
  filled_more e = elim (dec_lt (length l) (length out)) [
    | yes h ↦ more_in h (omega arith)
    | no h ↦ more_out (omega arith) (omega arith)
  ]

-- ---- pieces of text

-- One piece after the other.
pub puts_then : {out s mid t exit : List ℕ} {at m end : ℕ} → Puts out at s mid m → Puts mid m t exit end → Puts out at (s ++ t) exit end
puts_then {out} {s} {mid} {t} {exit} {at} {m} {end} p q =
    let l = take at out ++ s in
    let n : length l ≡ min at (length out) + length s = omega (arith, length-append (take at out) s, length-take at out) in
    let k : length mid ≡ length out = ap length p.text_in ∙ filled-length out l in
    let st = length-append s t in
    record {
      text_in = rw (q.text_in, p.text_in) (filled_more out l t m (omega (arith, p.next)) ∙ ap (filled out) (append_assoc (take at out) s t));
      next = omega (arith, p.next, q.next);
    }

-- A byte.
pub puts_byte : (out : List ℕ) (at b : ℕ) → at < length out → Puts out at (b ∷ []) (set out at b) (at + 1)
puts_byte out at b h =
    let n : length (take at out) ≡ at = length-take-le at out (omega arith) in
    let k : length (take at out ++ (b ∷ [])) ≡ suc at = omega (arith, length-append (take at out) (b ∷ [])) in
    record {
      text_in = set_split out at b h ∙ sym (append_snoc (take at out) b (drop (suc at) out)) ∙ sym (filled_in out (take at out ++ (b ∷ [])) (omega arith) ∙ ap (λ (i : ℕ). take at out ++ (b ∷ []) ++ drop i out) k);
      next = omega arith;
    }

-- No room for a text.
pub puts_out : (out : List ℕ) (at : ℕ) (t : List ℕ) → length out ≤ at → Puts out at t out at
puts_out out at t h =
    let n : take at out ≡ out = take_all at out h in
    record {
      text_in = rw n (sym (filled_out out (out ++ t) (omega (arith, length-append out t)) ∙ take-append_seam out t));
      next = omega arith;
    }

-- No text.
pub puts_none : (out : List ℕ) (at : ℕ) → Puts out at [] out at
puts_none out at = elim (dec_lt at (length out)) [
  | yes h ↦ (let n : length (take at out) ≡ at = length-take-le at out (omega arith) in
      record {
        text_in = rw (append-nil (take at out)) (sym (filled_in out (take at out) (omega arith) ∙ ap (λ (i : ℕ). take at out ++ drop i out) n ∙ take-append-drop at out));
        next = omega arith;
      })
  | no h ↦ puts_out out at [] (omega arith)
]

-- All of a text from the buffer's start.
pub puts_all : {out t exit : List ℕ} {end : ℕ} → Puts out 0 t exit end → (exit ≡ filled out t) × (end ≡ min (length t) (length out))
puts_all {out} {t} {exit} {end} p = (p.text_in, omega (arith, p.next))

-- The same text by another name.
pub puts_as : {out s t exit : List ℕ} {at end : ℕ} → t ≡ s → Puts out at s exit end → Puts out at t exit end
puts_as {out} {s} {t} {exit} {at} {end} e p = subst⁻¹ (λ (l : List ℕ). Puts out at l exit end) e p

-- ---- a text for each number

module _ (f : ℕ → List ℕ) where
  pub puts_first : (out : List ℕ) (at : ℕ) → Puts out at (joined 0 f) out at
  unfolding joined
  puts_first out at = puts_none out at

  pub puts_next : {out mid exit : List ℕ} {at m end : ℕ} (i : ℕ) → Puts out at (joined i f) mid m → Puts mid m (f i) exit end → Puts out at (joined (i + 1) f) exit end
  unfolding joined
  puts_next i p q = rw add-one (puts_then p q)

-- Equal texts for each number.
pub joined_same : (n : ℕ) (f g : ℕ → List ℕ) → ((i : ℕ) → i < n → f i ≡ g i) → joined n f ≡ joined n g
unfolding joined
joined_same zero f g h = refl
joined_same (suc n) f g h = ap₂ ◌++◌ (joined_same n f g (λ i l. h i (omega arith))) (h n (omega arith))
