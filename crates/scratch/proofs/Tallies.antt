-- Cells counted one by one; and that of one cell there is no other.
use mathlib.Core.Path.{◌≡◌, refl, sym, ap, ◌∙◌}
use mathlib.Core.Bool.{Bool, cond}
use mathlib.Core.List.{List}
use mathlib.Core.Logic.{◌⊎◌, inl, inr, ⊎_elim}
use Prim.Native.Nat.{ℕ, zero, suc, ◌+◌, ◌≤◌, ◌<◌}
use native.Mathlib.Omega.{arith}
use native.Mathlib.Numerals.{add-one}
use borrow.Author.Tests.{eq-eqb, ne_eqb}
use lib.ListN.{get_or}
use Rattle.scratch.specs.Tests.{tally}
use Rattle.scratch.proofs.Numbers.{eq_or_ne}

pub tally-none : (s : List ℕ) (from x : ℕ) → tally s from x 0 ≡ 0
unfolding tally
tally-none s from x = refl

module _ (s : List ℕ) (from x i : ℕ) where
  pub tally_hit : get_or s (from + i) 0 ≡ x → tally s from x (i + 1) ≡ tally s from x i + 1
  unfolding tally
  tally_hit e = ap (tally s from x) (add-one i) ∙ ap (λ (b : Bool). tally s from x i + cond b 1 0) (eq-eqb (get_or s (from + i) 0) x e)

  pub tally_miss : (get_or s (from + i) 0 ≡ x → ⊥) → tally s from x (i + 1) ≡ tally s from x i
  unfolding tally
  tally_miss ne =
      let z : tally s from x i + 0 ≡ tally s from x i = omega arith in
      ap (tally s from x) (add-one i) ∙ ap (λ (b : Bool). tally s from x i + cond b 1 0) (ne_eqb (get_or s (from + i) 0) x ne) ∙ z

  pub tally-more : (tally s from x i ≤ tally s from x (i + 1)) × (tally s from x (i + 1) ≤ tally s from x i + 1)
  tally-more = ⊎_elim (λ e. (omega (arith, tally_hit e), omega (arith, tally_hit e))) (λ e. (omega (arith, tally_miss e), omega (arith, tally_miss e))) (eq_or_ne (get_or s (from + i) 0) x)

-- For `once`, which counts them.
pub ruleset tallies = (tally-none, tally_hit, tally_miss)

-- A cell that holds x is counted.
tally-some : (s : List ℕ) (from x count j : ℕ) → j < count → get_or s (from + j) 0 ≡ x → 0 < tally s from x count
tally-some s from x zero j h e = absurd (omega arith)
tally-some s from x (suc i) j h e =
    let z : suc i ≡ i + 1 = omega arith in
    rw z (⊎_elim
    (λ q. omega (arith, tally_hit s from x i (ap (λ (k : ℕ). get_or s (from + k) 0) (sym q) ∙ e)))
    (λ q. omega (arith, tally-some s from x i j (omega arith) e, (tally-more s from x i).0))
    (eq_or_ne j i))

-- Where one is, there is no other.
pub tally-one : (s : List ℕ) (from x count : ℕ) → tally s from x count ≡ 1 → (j k : ℕ) → j < count → k < count → get_or s (from + j) 0 ≡ x → get_or s (from + k) 0 ≡ x → j ≡ k
tally-one s from x zero one j k hj hk ej ek = absurd (omega arith)
tally-one s from x (suc i) one j k hj hk ej ek = pick (eq_or_ne j i) (eq_or_ne k i) (λ o a b. tally-one s from x i o j k a b ej ek)
  where
    z : tally s from x (suc i) ≡ tally s from x (i + 1)
    z = let e : suc i ≡ i + 1 = omega arith in ap (tally s from x) e

    alone : (a b : ℕ) → a ≡ i → b < i → get_or s (from + a) 0 ≡ x → get_or s (from + b) 0 ≡ x → ⊥
    alone a b ai bi ea eb = omega (arith, z, tally_hit s from x i (ap (λ (y : ℕ). get_or s (from + y) 0) (sym ai) ∙ ea), tally-some s from x i b bi eb)

    pick : (j ≡ i) ⊎ (j ≡ i → ⊥) → (k ≡ i) ⊎ (k ≡ i → ⊥) → (tally s from x i ≡ 1 → j < i → k < i → j ≡ k) → j ≡ k
    pick (inl a) (inl b) less = a ∙ sym b
    pick (inl a) (inr b) less = absurd (alone j k a (omega arith) ej ek)
    pick (inr a) (inl b) less = absurd (alone k j b (omega arith) ek ej)
    pick (inr a) (inr b) less = ⊎_elim
        (λ h. less (omega (arith, z, tally_hit s from x i h, tally-some s from x i j (omega arith) ej)) (omega arith) (omega arith))
        (λ h. less (omega (arith, z, tally_miss s from x i h)) (omega arith) (omega arith))
        (eq_or_ne (get_or s (from + i) 0) x)
