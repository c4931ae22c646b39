-- How many numbers below n pass a test.
use mathlib.Core.Path.{◌≡◌, refl, sym, subst}
use mathlib.Core.Bool.{Bool, true, false, ◌||◌, false≢true}
use mathlib.Core.Logic.{◌⊎◌, inl, inr}
use Prim.Native.Nat.{ℕ, zero, suc, ◌+◌, ◌≤◌, ◌<◌}
use native.Mathlib.Omega.{arith}
use native.Mathlib.Decide.{ℕ_discrete, dec_lt}
use lib.Dec.{eqb, leb}
use borrow.Author.Tests.{eq-eqb, ne_eqb, le-leb, lt-leb}
use Rattle.automata.proofs.Tests.{last_or_less}

-- A test as a number.
abbrev pub bit : Bool → ℕ
bit true = 1
bit false = 0

bit_le : (a b : Bool) → (a ≡ true → b ≡ true) → bit a ≤ bit b
bit_le true true h = omega arith
bit_le true false h = absurd (false≢true (h refl))
bit_le false true h = omega arith
bit_le false false h = omega arith

bit-one : (a : Bool) → bit a ≤ 1
bit-one true = omega arith
bit-one false = omega arith

bit_back : (a b : Bool) → bit b ≤ bit a → b ≡ true → a ≡ true
bit_back true b h e = refl
bit_back false true h e = absurd (omega arith)
bit_back false false h e = e

bit_yes : (a : Bool) → a ≡ true → 1 ≤ bit a
bit_yes true e = omega arith
bit_yes false e = absurd (false≢true e)

-- How many numbers below n pass the test f.
unfoldable pub count : (ℕ → Bool) → ℕ → ℕ
count f zero = 0
count f (suc n) = bit (f n) + count f n

-- One number more.
pub count_next : (f : ℕ → Bool) (n : ℕ) → count f (suc n) ≡ bit (f n) + count f n
unfolding count
count_next f n = refl

pub count_bound : (f : ℕ → Bool) (n : ℕ) → count f n ≤ n
unfolding count
count_bound f zero = omega arith
count_bound f (suc n) = omega (arith, count_bound f n, bit-one (f n))

pub count-some : (f : ℕ → Bool) (n i : ℕ) → i < n → f i ≡ true → 1 ≤ count f n
unfolding count
count-some f zero i h e = absurd (omega arith)
count-some f (suc n) i h e = pick (last_or_less i n h) (count-some f n i)
  where
    pick : (i ≡ n) ⊎ (i < n) → (i < n → f i ≡ true → 1 ≤ count f n) → 1 ≤ bit (f n) + count f n
    pick (inl g) ih = omega (arith, bit_yes (f n) (subst (λ (j : ℕ). f j ≡ true) g e))
    pick (inr g) ih = omega (arith, ih g e)

module _ (f g : ℕ → Bool) where
  pub count_le : (n : ℕ) → ((i : ℕ) → i < n → f i ≡ true → g i ≡ true) → count f n ≤ count g n
  unfolding count
  count_le zero h = omega arith
  count_le (suc n) h = omega (arith, count_le n (λ i l. h i (omega arith)), bit_le (f n) (g n) (h n (omega arith)))

  -- If f implies g and passes no less often, then g implies f.
  pub count_same : (n : ℕ) → ((i : ℕ) → i < n → f i ≡ true → g i ≡ true) → count g n ≤ count f n → (i : ℕ) → i < n → g i ≡ true → f i ≡ true
  unfolding count
  count_same zero h c i l e = absurd (omega arith)
  count_same (suc n) h c i l e =
      let b = bit_le (f n) (g n) (h n (omega arith)) in
      let r = count_le n (λ j k. h j (omega arith)) in
      pick (last_or_less i n l) (count_same n (λ j k. h j (omega arith)) (omega arith))
    where
      pick : (i ≡ n) ⊎ (i < n) → ((i : ℕ) → i < n → g i ≡ true → f i ≡ true) → f i ≡ true
      pick (inl k) ih =
          let r = count_le n (λ j m. h j (omega arith)) in
          subst (λ (j : ℕ). f j ≡ true) (sym k) (bit_back (f n) (g n) (omega arith) (subst (λ (j : ℕ). g j ≡ true) k e))
      pick (inr k) ih = ih i k e

  -- Equal tests pass equally often.
  pub count_cong : (n : ℕ) → ((i : ℕ) → i < n → f i ≡ g i) → count f n ≡ count g n
  unfolding count
  count_cong zero h = refl
  count_cong (suc n) h = rw (h n (omega arith), count_cong n (λ i l. h i (omega arith)))

-- Where all pass.
pub count-all : (f : ℕ → Bool) (n : ℕ) → ((i : ℕ) → i < n → f i ≡ true) → count f n ≡ n
unfolding count
count-all f zero h = refl
count-all f (suc n) h = rw (h n (omega arith), count-all f n (λ i l. h i (omega arith))) (omega arith)

-- Where none passes.
pub count_none : (n : ℕ) → count (λ i. false) n ≡ 0
unfolding count
count_none zero = refl
count_none (suc n) = omega (arith, count_none n)

-- Where one number more is to pass.
pub count_also : (f : ℕ → Bool) (n x : ℕ) → x < n → f x ≡ false → count (λ i. eqb i x || f i) n ≡ suc (count f n)
unfolding count
count_also f zero x h e = absurd (omega arith)
count_also f (suc n) x h e = pick (last_or_less x n h) (λ g. count_also f n x g e)
  where
    other : (i : ℕ) → ¬ (i ≡ x) → (eqb i x || f i) ≡ f i
    other i ne = rw (ne_eqb i x ne)

    pick : (x ≡ n) ⊎ (x < n) → (x < n → count (λ i. eqb i x || f i) n ≡ suc (count f n)) → bit (eqb n x || f n) + count (λ i. eqb i x || f i) n ≡ suc (bit (f n) + count f n)
    pick (inl g) ih =
        rw (eq-eqb n x (sym g), subst (λ (j : ℕ). f j ≡ false) g e, count_cong (λ i. eqb i x || f i) f n (λ i l. other i (λ k. omega arith))) (omega arith)
    pick (inr g) ih = rw (other n (λ k. omega arith), ih g) (omega arith)

-- Numbers at k or above it are those at k and those above it.
pub count-split : (f : ℕ → ℕ) (k n : ℕ) → count (λ i. leb k (f i)) n ≡ count (λ i. eqb (f i) k) n + count (λ i. leb (suc k) (f i)) n
unfolding count
count-split f k zero = refl
count-split f k (suc n) = omega (arith, count-split f k n, one (f n))
  where
    one : (a : ℕ) → bit (leb k a) ≡ bit (eqb a k) + bit (leb (suc k) a)
    one a = elim (ℕ_discrete a k) [
      | yes e ↦ rw (eq-eqb a k e, le-leb k a (omega arith), lt-leb (suc k) a (omega arith))
      | no ne ↦ elim (dec_lt k a) [
        | yes l ↦ rw (ne_eqb a k ne, le-leb k a (omega arith), le-leb (suc k) a (omega arith))
        | no l ↦ rw (ne_eqb a k ne, lt-leb k a (omega arith), lt-leb (suc k) a (omega arith))
      ]
    ]
