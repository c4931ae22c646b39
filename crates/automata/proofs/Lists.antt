-- Membership, lists whose members stand in a relation, and the pigeonhole principle.
use mathlib.Core.Path.{◌≡◌, refl, sym, ◌∙◌}
use mathlib.Core.List.{List, [], ◌∷◌}
use mathlib.Core.Logic.{◌⊎◌, inl, inr, ◌≢◌}
use Prim.Native.Nat.{ℕ, zero, suc, ◌≤◌, ◌<◌}
use native.Mathlib.Omega.{arith}
use native.Mathlib.Decide.{ℕ_discrete}
use lib.ListN.{length}

abbrev pub Mem : ℕ → List ℕ → Type 0
Mem a [] = ⊥
Mem a (x ∷ l) = (a ≡ x) ⊎ Mem a l

-- Each member stands in the relation to every later one.
abbrev pub Pairwise : (ℕ → ℕ → Type 0) → List ℕ → Type 0
Pairwise R [] = Unit {0}
Pairwise R (x ∷ l) = ((y : ℕ) → Mem y l → R x y) × Pairwise R l

abbrev pub Distinct : List ℕ → Type 0
Distinct l = Pairwise ◌≢◌ l

-- y, but x in the place of n
swap : (n x y : ℕ) → Dec (y ≡ n) → ℕ
swap n x y (yes e) = x
swap n x y (no h) = y

swap_below : (n x y : ℕ) (d : Dec (y ≡ n)) → x < suc n → y < suc n → x ≢ y → swap n x y d < n
unfolding swap
swap_below n x y (yes e) hx hy ne = let h : x ≢ n = λ g. ne (g ∙ sym e) in omega arith
swap_below n x y (no h) hx hy ne = omega arith

swap_inj : (n x y z : ℕ) (d : Dec (y ≡ n)) (e : Dec (z ≡ n)) → x ≢ y → x ≢ z → swap n x y d ≡ swap n x z e → y ≡ z
unfolding swap
swap_inj n x y z (yes d) (yes e) hy hz g = d ∙ sym e
swap_inj n x y z (yes d) (no e) hy hz g = absurd (hz g)
swap_inj n x y z (no d) (yes e) hy hz g = absurd (hy (sym g))
swap_inj n x y z (no d) (no e) hy hz g = g

-- A list with no repeats is no longer than the number of values of a one-to-one map of its members.
pub pigeonhole : (l : List ℕ) (n : ℕ) → Distinct l → (f : (q : ℕ) → Mem q l → ℕ) → ((q : ℕ) (h : Mem q l) → f q h < n)
    → ((q p : ℕ) (g : Mem q l) (h : Mem p l) → f q g ≡ f p h → q ≡ p) → length l ≤ n
pigeonhole [] n dl f below inj = omega arith
pigeonhole (x ∷ l) zero dl f below inj = let h = below x (inl refl) in omega arith
pigeonhole (x ∷ l) (suc n) dl f below inj =
    let ih = pigeonhole l n dl.1
    (λ q h. swap n (f x (inl refl)) (f q (inr h)) (ℕ_discrete (f q (inr h)) n))
    (λ q h. swap_below n (f x (inl refl)) (f q (inr h)) (ℕ_discrete (f q (inr h)) n) (below x (inl refl)) (below q (inr h)) (apart q h))
    (λ q p g h e. inj q p (inr g) (inr h)
    (swap_inj n (f x (inl refl)) (f q (inr g)) (f p (inr h)) (ℕ_discrete (f q (inr g)) n) (ℕ_discrete (f p (inr h)) n) (apart q g) (apart p h) e)) in
    omega arith
  where
    apart : (q : ℕ) (h : Mem q l) → f x (inl refl) ≢ f q (inr h)
    apart q h e = dl.0 q h (inj x q (inl refl) (inr h) e)

-- Distinct numbers below n are at most n.
pub few : (l : List ℕ) (n : ℕ) → Distinct l → ((q : ℕ) → Mem q l → q < n) → length l ≤ n
few l n dl below = pigeonhole l n dl (λ q h. q) below (λ q p g h e. e)
