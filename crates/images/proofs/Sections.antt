-- Bytes of the members of a list, one after the other: how many, what stands from each place on, and what is read back.
use mathlib.Core.Path.{◌≡◌, refl, sym, ap, ◌∙◌}
use mathlib.Core.List.{List, [], ◌∷◌, ◌++◌, append-nil, append_assoc}
use Prim.Native.Nat.{ℕ, zero, suc, ◌+◌, ◌*◌, ◌≤◌, ◌<◌}
use native.Mathlib.Nat.{mul-zero, mul-suc}
use native.Mathlib.Omega.{arith}
use lib.ListN.{length, get_or, take, drop, length-append}
use lib.Seq.{get_or-take, length-take-le}
use Rattle.tables.specs.Lists.{tabulate, over}
use Rattle.tables.proofs.Lists.{tabulate-same}
use Rattle.tables.proofs.Over.{over-over}
use Rattle.images.specs.Image.{section}
use Rattle.images.proofs.Numbers.{Bytes, append_bytes, after}

pub section_bytes : (f : ℕ → ℕ → List ℕ) (l : List ℕ) → ((i x : ℕ) → Bytes (f i x)) → Bytes (section f l)
unfolding section
section_bytes f [] h i = omega arith
section_bytes f (x ∷ l) h i = append_bytes (f 0 x) (section (λ j. f (suc j)) l) (h 0 x) (section_bytes (λ j. f (suc j)) l (λ j. h (suc j))) i

-- Each member has w bytes.
abbrev pub Wide : ℕ → (ℕ → ℕ → List ℕ) → List ℕ → Type 0
Wide w f l = (i : ℕ) → i < length l → length (f i (get_or l i 0)) ≡ w

tail_wide : (w : ℕ) (f : ℕ → ℕ → List ℕ) (x : ℕ) (l : List ℕ) → Wide w f (x ∷ l) → Wide w (λ j. f (suc j)) l
tail_wide w f x l h i g = h (suc i) (omega arith)

pub section-length : (w : ℕ) (f : ℕ → ℕ → List ℕ) (l : List ℕ) → Wide w f l → length (section f l) ≡ w * length l
unfolding section
section-length w f [] h = sym (mul-zero w)
section-length w f (x ∷ l) h =
    length-append (f 0 x) (section (λ j. f (suc j)) l)
    ∙ omega (arith, h 0 (omega arith), section-length w (λ j. f (suc j)) l (tail_wide w f x l h), mul-suc w (length l))

-- ---- written

-- One member more.
section-suc : (f : ℕ → ℕ → List ℕ) (l : List ℕ) (i : ℕ) → i < length l → section f (take (suc i) l) ≡ section f (take i l) ++ f i (get_or l i 0)
unfolding section
section-suc f [] i h = absurd (omega arith)
section-suc f (x ∷ l) zero h = append-nil (f 0 x)
section-suc f (x ∷ l) (suc i) h =
    ap (λ (m : List ℕ). f 0 x ++ m) (section-suc (λ j. f (suc j)) l i (omega arith)) ∙ sym (append_assoc (f 0 x) (section (λ j. f (suc j)) (take i l)) (f (suc i) (get_or l i 0)))

pub section-none : (f : ℕ → ℕ → List ℕ) → section f [] ≡ []
unfolding section
section-none f = refl

-- Written over the bytes behind those of the members before it.
pub section-next : (w : ℕ) (f : ℕ → ℕ → List ℕ) (d : List ℕ) (at : ℕ) (l : List ℕ) (i : ℕ) → Wide w f l → i < length l → at + w * i ≤ length d
    → over (over d at (section f (take i l))) (at + w * i) (f i (get_or l i 0)) ≡ over d at (section f (take (suc i) l))
section-next w f d at l i h hi hd =
    let n : length (take i l) ≡ i = length-take-le i l (omega arith) in
    let wide : Wide w f (take i l) = λ j g. ap (λ (x : ℕ). length (f j x)) (get_or-take i l j 0 (omega arith)) ∙ h j (omega arith) in
    let m : w * i ≡ length (section f (take i l)) = sym (section-length w f (take i l) wide ∙ ap (λ (k : ℕ). w * k) n) in
    ap (λ (k : ℕ). over (over d at (section f (take i l))) (at + k) (f i (get_or l i 0))) m
    ∙ over-over d at (section f (take i l)) (omega (arith, m)) (f i (get_or l i 0))
    ∙ ap (over d at) (sym (section-suc f l i hi))

-- ---- read

module _ (b : List ℕ) (w : ℕ) where
  -- The place of a member, counted from the one behind the first.
  next_place : (at i : ℕ) → at + w * suc i ≡ at + w + w * i
  next_place at i = omega (arith, mul-suc w i)

  first-place : (at : ℕ) → at + w * 0 ≡ at
  first-place at = omega (arith, mul-zero w)

  -- What is written is read, if it is of each member by itself: g i k is what is read as member i at place k.
  pub section-at : (f : ℕ → ℕ → List ℕ) (g : ℕ → ℕ → ℕ) (l : List ℕ) (at : ℕ) (r : List ℕ) → Wide w f l
      → ((i : ℕ) → i < length l → (k : ℕ) (s : List ℕ) → drop k b ≡ f i (get_or l i 0) ++ s → g i k ≡ get_or l i 0)
      → drop at b ≡ section f l ++ r → tabulate (length l) (λ i. g i (at + w * i)) ≡ l
  unfolding tabulate section
  section-at f g [] at r wide each e = refl
  section-at f g (x ∷ l) at r wide each e =
      let on : drop at b ≡ f 0 x ++ (section (λ j. f (suc j)) l ++ r) = e ∙ append_assoc (f 0 x) _ r in
      let here : g 0 (at + w * 0) ≡ x = ap (g 0) (first-place at) ∙ each 0 (omega arith) at _ on in
      let rest = section-at (λ j. f (suc j)) (λ j. g (suc j)) l (at + w) r (tail_wide w f x l wide) (λ i h k s. each (suc i) (omega arith) k s)
      (after b at w (f 0 x) _ on (wide 0 (omega arith))) in
      ap (λ (y : ℕ). y ∷ tabulate (length l) (λ i. g (suc i) (at + w * suc i))) here
      ∙ ap (λ (m : List ℕ). x ∷ m) (tabulate-same (length l) _ _ (λ i h. ap (g (suc i)) (next_place at i)) ∙ rest)

  -- What is read is what stands there, if it is of each member by itself.
  pub section_on : (f : ℕ → ℕ → List ℕ) (g : ℕ → ℕ → ℕ) (n at : ℕ)
      → ((i : ℕ) → i < n → drop (at + w * i) b ≡ f i (g i (at + w * i)) ++ drop (at + w * i + w) b)
      → drop at b ≡ section f (tabulate n (λ i. g i (at + w * i))) ++ drop (at + w * n) b
  unfolding tabulate section
  section_on f g zero at each = ap (λ (k : ℕ). drop k b) (sym (first-place at))
  section_on f g (suc n) at each =
      let on : drop at b ≡ f 0 (g 0 (at + w * 0)) ++ drop (at + w) b =
      ap (λ (k : ℕ). drop k b) (sym (first-place at)) ∙ each 0 (omega arith) ∙ ap (λ (k : ℕ). f 0 (g 0 (at + w * 0)) ++ drop (k + w) b) (first-place at) in
      let rest = section_on (λ j. f (suc j)) (λ j. g (suc j)) n (at + w)
      (λ i h. rw next_place at (each (suc i) (omega arith))) in
      on
      ∙ ap (λ (m : List ℕ). f 0 (g 0 (at + w * 0)) ++ m) (rest ∙ ap (λ (k : ℕ). section (λ j. f (suc j)) (tabulate n (λ i. g (suc i) (at + w + w * i))) ++ drop k b) (sym (next_place at n)))
      ∙ sym (append_assoc (f 0 (g 0 (at + w * 0))) _ _)
      ∙ ap (λ (m : List ℕ). f 0 (g 0 (at + w * 0)) ++ section (λ j. f (suc j)) m ++ drop (at + w * suc n) b)
      (tabulate-same n _ _ (λ i h. ap (g (suc i)) (sym (next_place at i))))
