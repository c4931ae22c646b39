-- Laws of the lists of rows that the folding finds: the first that passes a test, those that are kept.
use mathlib.Core.Path.{◌≡◌, refl, sym, ap, ◌∙◌, subst}
use mathlib.Core.Bool.{Bool, true, false, cond}
use mathlib.Core.List.{List, [], ◌∷◌, ◌++◌, append-nil}
use mathlib.Core.Logic.{inl, inr}
use Prim.Native.Nat.{ℕ, suc, ◌+◌, ◌≤◌, ◌<◌}
use native.Mathlib.Omega.{arith}
use lib.ListN.{length, get_or, length-append, get_or-eq_default}
use Rattle.automata.proofs.Tests.{clash, not_true}
use Rattle.automata.proofs.Lists.{Mem}
use Rattle.tables.specs.Lists.{some, first, position, sift}
use Rattle.tables.proofs.Lists.{read_same, at_mem, mem_cases, some_has, has_some, position_in, position_passes}
use Rattle.folding.specs.Found.{added}

-- ---- two tests that the members pass alike
module _ (f g : ℕ → Bool) where
  pub some_same : (l : List ℕ) → ((x : ℕ) → Mem x l → f x ≡ g x) → some f l ≡ some g l
  unfolding some
  some_same [] h = refl
  some_same (x ∷ l) h = rw (h x (inl refl), some_same l (λ y m. h y (inr m)))

  pub first_same : (d : ℕ) (l : List ℕ) → ((x : ℕ) → Mem x l → f x ≡ g x) → first f d l ≡ first g d l
  unfolding first
  first_same d [] h = refl
  first_same d (x ∷ l) h = pick (f x) (g x) (h x (inl refl)) (first_same d l (λ y m. h y (inr m)))
    where
      pick : (a b : Bool) → a ≡ b → first f d l ≡ first g d l → ◌≡◌ {A = ℕ} (elim a [ true ↦ x | false ↦ first f d l ]) (elim b [ true ↦ x | false ↦ first g d l ])
      pick true true e ih = refl
      pick true false e ih = clash refl e
      pick false true e ih = clash e refl
      pick false false e ih = ih

-- ---- the first that passes a test
module _ (f : ℕ → Bool) where
  first-at : (d : ℕ) (l : List ℕ) → first f d l ≡ get_or l (position f l) d
  unfolding first position
  first-at d [] = refl
  first-at d (x ∷ l) = pick (f x) (first-at d l)
    where
      pick : (b : Bool) → first f d l ≡ get_or l (position f l) d
          → ◌≡◌ {A = ℕ} (elim b [ true ↦ x | false ↦ first f d l ]) (get_or (x ∷ l) (elim b [ true ↦ 0 | false ↦ suc (position f l) ]) d)
      pick true ih = refl
      pick false ih = ih

  pub first_found_lem : (d : ℕ) (l : List ℕ) → position f l < length l → first f d l ≡ get_or l (position f l) 0
  first_found_lem d l h = first-at d l ∙ read_same l (position f l) d 0 h

  pub first-none : (d : ℕ) (l : List ℕ) → length l ≤ position f l → first f d l ≡ d
  first-none d l h = first-at d l ∙ get_or-eq_default l d h

  some-found : (l : List ℕ) → position f l < length l → some f l ≡ true
  some-found l h = has_some f l (get_or l (position f l) 0) (at_mem l (position f l) 0 h) (position_passes f l 0 h)

  none_found : (l : List ℕ) → length l ≤ position f l → some f l ≡ false
  none_found l h = not_true (some f l) (λ t. let r = some_has f l t in omega (arith, position_in f l r.0 r.1 r.2))

-- ---- those that are kept
module _ (like : ℕ → ℕ → Bool) where
  pub sift-next : (x : ℕ) (xs l : List ℕ) → sift like l (x ∷ xs) ≡ sift like (l ++ added like l x) xs
  unfolding sift added
  sift-next x xs l = pick (some (like x) l)
    where
      pick : (b : Bool) → (elim b [ true ↦ sift like l xs | false ↦ sift like (l ++ (x ∷ [])) xs ]) ≡ sift like (l ++ cond b [] (x ∷ [])) xs
      pick true = ap (λ (m : List ℕ). sift like m xs) (sym (append-nil l))
      pick false = refl

  pub added_none : (l : List ℕ) (x : ℕ) → position (like x) l < length l → added like l x ≡ []
  unfolding added
  added_none l x h = rw (some-found (like x) l h)

  pub added_it : (l : List ℕ) (x : ℕ) → length l ≤ position (like x) l → added like l x ≡ x ∷ []
  unfolding added
  added_it l x h = rw (none_found (like x) l h)

  pub added_mem : (l : List ℕ) (x y : ℕ) → Mem y (added like l x) → y ≡ x
  unfolding added
  added_mem l x y = pick (some (like x) l)
    where
      pick : (b : Bool) → Mem y (cond b [] (x ∷ [])) → y ≡ x
      pick true m = absurd m
      pick false (inl e) = e
      pick false (inr m) = absurd m

  pub added_few : (l : List ℕ) (x : ℕ) → length (added like l x) ≤ 1
  unfolding added
  added_few l x = pick (some (like x) l)
    where
      pick : (b : Bool) → length (cond b [] (x ∷ [])) ≤ 1
      pick true = omega arith
      pick false = omega arith

  pub sift_few : (xs l : List ℕ) → length (sift like l xs) ≤ length l + length xs
  unfolding sift
  sift_few [] l = omega arith
  sift_few (x ∷ xs) l =
      omega (arith, ap length (sift-next x xs l), sift_few xs (l ++ added like l x), length-append l (added like l x), added_few l x)

-- Two relations that are the same on rows.
module _ (Row : ℕ → Type 0) (like same : ℕ → ℕ → Bool) (agree : (x y : ℕ) → Row x → Row y → like x y ≡ same x y) where
  pub added_same : (l : List ℕ) (x : ℕ) → ((y : ℕ) → Mem y l → Row y) → Row x → added like l x ≡ added same l x
  unfolding added
  added_same l x hl hx = rw (some_same (like x) (same x) l (λ y m. agree x y hx (hl y m)))

  pub sift_same : (xs l : List ℕ) → ((y : ℕ) → Mem y l → Row y) → ((y : ℕ) → Mem y xs → Row y) → sift like l xs ≡ sift same l xs
  unfolding sift
  sift_same [] l hl hx = refl
  sift_same (x ∷ xs) l hl hx =
      sift-next like x xs l
      ∙ ap (λ (m : List ℕ). sift like (l ++ m) xs) (added_same l x hl (hx x (inl refl)))
      ∙ sift_same xs (l ++ added same l x) more (λ y m. hx y (inr m))
      ∙ sym (sift-next same x xs l)
    where
      more : (y : ℕ) → Mem y (l ++ added same l x) → Row y
      more y m = elim (mem_cases l (added same l x) y m) [ inl g ↦ hl y g | inr g ↦ subst Row (sym (added_mem same l x y g)) (hx x (inl refl)) ]
