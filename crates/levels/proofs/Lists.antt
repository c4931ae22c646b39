-- The first member of a list that passes a test, and sifting a list whose likeness is handed on to earlier members.
use mathlib.Core.Path.{◌≡◌, refl, sym, ap, subst, ◌∙◌}
use mathlib.Core.Bool.{Bool, true, false, ◌||◌}
use mathlib.Core.List.{List, [], ◌∷◌, ◌++◌}
use mathlib.Core.Logic.{◌⊎◌, inl, inr}
use Prim.Native.Nat.{ℕ, zero, suc, ◌≤◌, ◌<◌}
use native.Mathlib.Omega.{arith}
use lib.ListN.{length, get_or, take}
use lib.Seq.{take-suc}
use Rattle.automata.proofs.Tests.{either, clash, last_or_less}
use Rattle.automata.proofs.Lists.{Mem, Pairwise}
use Rattle.tables.specs.Lists.{some, first, sift}
use Rattle.tables.proofs.Lists.{mem_left, mem_right, mem_take, some_has, has_some, pairwise_all, first_is, sift-more, sift-all}

pub pairwise_left : (R : ℕ → ℕ → Type 0) (l m : List ℕ) → Pairwise R (l ++ m) → Pairwise R l
pairwise_left R [] m p = tt
pairwise_left R (x ∷ l) m p = (λ y h. p.0 y (mem_left l m y h), pairwise_left R l m p.1)

-- The least number up to n that passes a test which n passes.
pub least-place : (f : ℕ → Bool) (n : ℕ) → f n ≡ true → (i : ℕ) × (i ≤ n) × (f i ≡ true) × ((h : ℕ) → h < i → f h ≡ false)
least-place f n t = elim (search n) [
  | inl ne ↦ (n, omega arith, t, ne)
  | inr r ↦ (r.0, omega (arith, r.1), r.2, r.3)
]
  where
    search : (m : ℕ) → ((h : ℕ) → h < m → f h ≡ false) ⊎ ((i : ℕ) × (i < m) × (f i ≡ true) × ((h : ℕ) → h < i → f h ≡ false))
    search zero = inl (λ h g. absurd (omega arith))
    search (suc m) = elim (search m) [
      | inl ne ↦ elim (either (f m)) [
        | inl u ↦ inr (m, omega arith, u, ne)
        | inr u ↦ inl (λ h g. elim (last_or_less h m g) [ inl e ↦ rw e u | inr l ↦ ne h l ])
      ]
      | inr r ↦ inr (r.0, omega (arith, r.1), r.2, r.3)
    ]

-- ---- first
module _ (f : ℕ → Bool) where
  pub first-append : (d : ℕ) (a b : List ℕ) → first f d (a ++ b) ≡ first f (first f d b) a
  unfolding first
  first-append d [] b = refl
  first-append d (x ∷ a) b = pick (f x) (first-append d a b)
    where
      pick : (t : Bool) → first f d (a ++ b) ≡ first f (first f d b) a
          → ◌≡◌ {A = ℕ} (elim t [ true ↦ x | false ↦ first f d (a ++ b) ]) (elim t [ true ↦ x | false ↦ first f (first f d b) a ])
      pick true ih = refl
      pick false ih = ih

  -- It is the member at place i, if that passes and none before it does.
  pub first-at : (l : List ℕ) (i d e : ℕ) → i < length l → f (get_or l i e) ≡ true → ((h : ℕ) → h < i → f (get_or l h e) ≡ false) → first f d l ≡ get_or l i e
  unfolding first
  first-at [] i d e h t none = absurd (omega arith)
  first-at (x ∷ l) zero d e h t none = pick (f x) t
    where
      pick : (b : Bool) → b ≡ true → ◌≡◌ {A = ℕ} (elim b [ true ↦ x | false ↦ first f d l ]) x
      pick true g = refl
      pick false g = clash g refl
  first-at (x ∷ l) (suc i) d e h t none = pick (f x) (none 0 (omega arith)) (first-at l i d e (omega arith) t (λ j g. none (suc j) (omega arith)))
    where
      pick : (b : Bool) → b ≡ false → first f d l ≡ get_or l i e → ◌≡◌ {A = ℕ} (elim b [ true ↦ x | false ↦ first f d l ]) (get_or l i e)
      pick true g ih = clash refl g
      pick false g ih = ih

  pub first-none : (d : ℕ) (l : List ℕ) → some f l ≡ false → first f d l ≡ d
  unfolding first some
  first-none d [] e = refl
  first-none d (x ∷ l) e = pick (f x) e (first-none d l)
    where
      pick : (b : Bool) → (b || some f l) ≡ false → (some f l ≡ false → first f d l ≡ d) → ◌≡◌ {A = ℕ} (elim b [ true ↦ x | false ↦ first f d l ]) d
      pick true g ih = clash refl g
      pick false g ih = ih g

  -- Where some member passes, it is a member, and what stands behind the list does not matter.
  pub first_in : (d : ℕ) (l : List ℕ) → some f l ≡ true → Mem (first f d l) l
  first_in d l t = let r = some_has f l t in (first_is f (λ x y. Unit {0}) d l (pairwise_all (λ x y. Unit {0}) l (λ x y hx hy. tt)) r.0 r.1 r.2).is_in

  pub first_any : (l : List ℕ) (d e : ℕ) → some f l ≡ true → first f d l ≡ first f e l
  unfolding first some
  first_any [] d e t = clash t refl
  first_any (x ∷ l) d e t = pick (f x) t (first_any l d e)
    where
      pick : (b : Bool) → (b || some f l) ≡ true → (some f l ≡ true → first f d l ≡ first f e l)
          → ◌≡◌ {A = ℕ} (elim b [ true ↦ x | false ↦ first f d l ]) (elim b [ true ↦ x | false ↦ first f e l ])
      pick true g ih = refl
      pick false g ih = ih g

  -- Of one member.
  first-not : (d x : ℕ) → f x ≡ false → first f d (x ∷ []) ≡ d
  unfolding first
  first-not d x e = pick (f x) e
    where
      pick : (b : Bool) → b ≡ false → ◌≡◌ {A = ℕ} (elim b [ true ↦ x | false ↦ d ]) d
      pick true g = clash refl g
      pick false g = refl

  pub first_self : (x : ℕ) → first f x (x ∷ []) ≡ x
  unfolding first
  first_self x = pick (f x)
    where
      pick : (b : Bool) → ◌≡◌ {A = ℕ} (elim b [ true ↦ x | false ↦ x ]) x
      pick true = refl
      pick false = refl

-- ---- sift
pub sift-append : (like : ℕ → ℕ → Bool) (l xs ys : List ℕ) → sift like l (xs ++ ys) ≡ sift like (sift like l xs) ys
unfolding sift
sift-append like l [] ys = refl
sift-append like l (x ∷ xs) ys = pick (some (like x) l) (λ m. sift-append like m xs ys)
  where
    pick : (b : Bool) → ((m : List ℕ) → sift like m (xs ++ ys) ≡ sift like (sift like m xs) ys)
        → (elim b [ true ↦ sift like l (xs ++ ys) | false ↦ sift like (l ++ (x ∷ [])) (xs ++ ys) ])
        ≡ sift like (elim b [ true ↦ sift like l xs | false ↦ sift like (l ++ (x ∷ [])) xs ]) ys
    pick true ih = ih l
    pick false ih = ih (l ++ (x ∷ []))

sift-one : (like : ℕ → ℕ → Bool) (l : List ℕ) (x : ℕ) → sift like l (x ∷ []) ≡ elim (some (like x) l) [ true ↦ l | false ↦ l ++ (x ∷ []) ]
unfolding sift
sift-one like l x = refl

-- Each member is like itself; what it is like, and is no later, hands this on to what that is like before it.
pub record Handed (like : ℕ → ℕ → Bool) (l : List ℕ) : Type 0 where
  pub self : (i : ℕ) → i < length l → like (get_or l i 0) (get_or l i 0) ≡ true
  pub on : (h i j : ℕ) → h < i → i ≤ j → j < length l → like (get_or l j 0) (get_or l i 0) ≡ true → like (get_or l i 0) (get_or l h 0) ≡ true → like (get_or l j 0) (get_or l h 0) ≡ true

module _ (like : ℕ → ℕ → Bool) (l : List ℕ) where
  -- What is kept of the first i.
  abbrev pub sifted : ℕ → List ℕ
  sifted i = sift like [] (take i l)

  more : (i : ℕ) → i < length l → sifted (suc i) ≡ elim (some (like (get_or l i 0)) (sifted i)) [ true ↦ sifted i | false ↦ sifted i ++ (get_or l i 0 ∷ []) ]
  more i h = ap (sift like []) (take-suc l i 0 h) ∙ sift-append like [] (take i l) (get_or l i 0 ∷ []) ∙ sift-one like (sifted i) (get_or l i 0)

  pub sifted_skip : (i : ℕ) → i < length l → some (like (get_or l i 0)) (sifted i) ≡ true → sifted (suc i) ≡ sifted i
  sifted_skip i h t = more i h ∙ rw t

  pub sifted-add : (i : ℕ) → i < length l → some (like (get_or l i 0)) (sifted i) ≡ false → sifted (suc i) ≡ sifted i ++ (get_or l i 0 ∷ [])
  sifted-add i h t = more i h ∙ rw t

  pub sifted_mem : (i x : ℕ) → Mem x (sifted i) → Mem x (take i l)
  sifted_mem i = sift-all like (λ x. Mem x (take i l)) (take i l) [] (λ x m. absurd m) (λ x m. m)

  module _ (t : Handed like l) where
    -- The first that the member at place j is like is the same among the kept ones as among all, up to place j.
    pub sifted-first : (i j d : ℕ) → i ≤ suc j → j < length l → first (like (get_or l j 0)) d (sifted i) ≡ first (like (get_or l j 0)) d (take i l)
    unfolding first sift
    sifted-first zero j d h g = refl
    sifted-first (suc i) j d h g =
        elim (either (some (like (get_or l i 0)) (sifted i))) [
          | inl e ↦ ap (first (like (get_or l j 0)) d) (sifted_skip i hi e) ∙ same e (either (like (get_or l j 0) (get_or l i 0))) ∙ sym (behind (sifted-first i j _ (omega arith) g))
          | inr e ↦ ap (first (like (get_or l j 0)) d) (sifted-add i hi e) ∙ first-append (like (get_or l j 0)) d (sifted i) (get_or l i 0 ∷ []) ∙ sym (behind (sifted-first i j _ (omega arith) g))
        ]
      where
        hi : i < length l
        hi = omega arith

        behind : first (like (get_or l j 0)) (first (like (get_or l j 0)) d (get_or l i 0 ∷ [])) (sifted i) ≡ first (like (get_or l j 0)) (first (like (get_or l j 0)) d (get_or l i 0 ∷ [])) (take i l)
            → first (like (get_or l j 0)) d (take (suc i) l) ≡ first (like (get_or l j 0)) (first (like (get_or l j 0)) d (get_or l i 0 ∷ [])) (sifted i)
        behind ih = ap (first (like (get_or l j 0)) d) (take-suc l i 0 hi) ∙ first-append (like (get_or l j 0)) d (take i l) (get_or l i 0 ∷ []) ∙ sym ih

        same : some (like (get_or l i 0)) (sifted i) ≡ true → (like (get_or l j 0) (get_or l i 0) ≡ true) ⊎ (like (get_or l j 0) (get_or l i 0) ≡ false)
            → first (like (get_or l j 0)) d (sifted i) ≡ first (like (get_or l j 0)) (first (like (get_or l j 0)) d (get_or l i 0 ∷ [])) (sifted i)
        same e (inl u) =
            let r = some_has (like (get_or l i 0)) (sifted i) e in
            let m = mem_take l i r.0 0 (sifted_mem i r.0 r.1) in
            let v = t.on m.0 i j m.1 (omega arith) g u (subst (λ (z : ℕ). like (get_or l i 0) z ≡ true) (sym m.3) r.2) in
            first_any (like (get_or l j 0)) (sifted i) d (first (like (get_or l j 0)) d (get_or l i 0 ∷ [])) (has_some (like (get_or l j 0)) (sifted i) r.0 r.1 (subst (λ (z : ℕ). like (get_or l j 0) z ≡ true) m.3 v))
        same e (inr u) = ap (λ (c : ℕ). first (like (get_or l j 0)) c (sifted i)) (sym (first-not (like (get_or l j 0)) d (get_or l i 0) u))

    -- The member at place j is like one that is kept so far.
    sifted-some : (j : ℕ) → j < length l → some (like (get_or l j 0)) (sifted (suc j)) ≡ true
    sifted-some j h = elim (either (some (like (get_or l j 0)) (sifted j))) [
      | inl e ↦ ap (some (like (get_or l j 0))) (sifted_skip j h e) ∙ e
      | inr e ↦ ap (some (like (get_or l j 0))) (sifted-add j h e)
          ∙ has_some (like (get_or l j 0)) (sifted j ++ (get_or l j 0 ∷ [])) (get_or l j 0) (mem_right (sifted j) (get_or l j 0 ∷ []) (get_or l j 0) (inl refl)) (t.self j h)
    ]

    -- Whatever follows, the first kept member that it is like is the first of all.
    pub sift-first : (j d : ℕ) (r : List ℕ) → j < length l → first (like (get_or l j 0)) d (sift like [] (take (suc j) l ++ r)) ≡ first (like (get_or l j 0)) d (take (suc j) l)
    sift-first j d r h =
        let m = sift-more like r (sifted (suc j)) in
        ap (first (like (get_or l j 0)) d) (sift-append like [] (take (suc j) l) r ∙ m.1) ∙ first-append (like (get_or l j 0)) d (sifted (suc j)) m.0
        ∙ first_any (like (get_or l j 0)) (sifted (suc j)) (first (like (get_or l j 0)) d m.0) d (sifted-some j h) ∙ sifted-first (suc j) j d (omega arith) h
