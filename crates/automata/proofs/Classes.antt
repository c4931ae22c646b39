-- Equivalences on the numbers below n: how many classes they have, and when a chain of them comes to rest.
use mathlib.Core.Path.{◌≡◌, sym, subst}
use mathlib.Core.Bool.{Bool, true, false, not}
use mathlib.Core.Logic.{◌⊎◌, inl, inr}
use Prim.Native.Nat.{ℕ, zero, suc, ◌+◌, ◌≤◌, ◌<◌}
use native.Mathlib.Omega.{arith}
use native.Mathlib.Decide.{dec_le}
use Rattle.automata.specs.Nearness.{every}
use Rattle.automata.proofs.Count.{count, count_bound, count-some, count_le, count_same}
use Rattle.automata.proofs.Tests.{either, clash, not_true, flip_true, last_or_less, every-at, every_make}

-- ---- classes

pub record Equivalence (n : ℕ) (R : ℕ → ℕ → Bool) : Type 0 where
  pub self : (q : ℕ) → q < n → R q q ≡ true
  pub flip : (q p : ℕ) → q < n → p < n → R q p ≡ true → R p q ≡ true
  pub join : (q p r : ℕ) → q < n → p < n → r < n → R q p ≡ true → R p r ≡ true → R q r ≡ true

-- q is the least of its class
lowest : (ℕ → ℕ → Bool) → ℕ → Bool
lowest R q = every q (λ p. not (R p q))

lowest_at : (R : ℕ → ℕ → Bool) (q p : ℕ) → lowest R q ≡ true → p < q → R p q ≡ false
unfolding lowest
lowest_at R q p e h = flip_true (R p q) (every-at q (λ x. not (R x q)) e p h)

lowest_make : (R : ℕ → ℕ → Bool) (q : ℕ) → ((p : ℕ) → p < q → R p q ≡ false) → lowest R q ≡ true
unfolding lowest
lowest_make R q h = every_make q (λ p. not (R p q)) (λ p l. rw (h p l))

pub classes : ℕ → (ℕ → ℕ → Bool) → ℕ
classes n R = count (lowest R) n

pub classes_bound : (n : ℕ) (R : ℕ → ℕ → Bool) → classes n R ≤ n
unfolding classes
classes_bound n R = count_bound (lowest R) n

pub classes_some : (n : ℕ) (R : ℕ → ℕ → Bool) → 0 < n → 1 ≤ classes n R
unfolding classes
classes_some n R h = count-some (lowest R) n 0 h (lowest_make R 0 (λ p l. absurd (omega arith)))

-- the least of the class of q
record Least (R : ℕ → ℕ → Bool) (q : ℕ) : Type 0 where
  at : ℕ
  low : at ≤ q
  kin : R at q ≡ true
  first : lowest R at ≡ true

-- the first number from i on that is related to q, where none below i is
seek : (R : ℕ → ℕ → Bool) (q i j : ℕ) → i + j ≡ q → R q q ≡ true → ((p : ℕ) → p < i → R p q ≡ false)
    → (x : ℕ) × (x ≤ q) × (R x q ≡ true) × ((p : ℕ) → p < x → R p q ≡ false)
seek R q i zero e self none =
    let g : q ≡ i = omega arith in
    (q, omega arith, self, λ p h. none p (omega arith))
seek R q i (suc j) e self none = pick (either (R i q)) (seek R q (suc i) j (omega arith) self)
  where
    pick : (R i q ≡ true) ⊎ (R i q ≡ false) → (((p : ℕ) → p < suc i → R p q ≡ false) → (x : ℕ) × (x ≤ q) × (R x q ≡ true) × ((p : ℕ) → p < x → R p q ≡ false))
        → (x : ℕ) × (x ≤ q) × (R x q ≡ true) × ((p : ℕ) → p < x → R p q ≡ false)
    pick (inl t) go = (i, omega arith, t, none)
    pick (inr f) go = go (λ p h. elim (last_or_less p i h) [ inl g ↦ subst (λ (x : ℕ). R x q ≡ false) (sym g) f | inr l ↦ none p l ])

least : (n : ℕ) (R : ℕ → ℕ → Bool) → Equivalence n R → (q : ℕ) → q < n → Least R q
least n R e q h =
    let s = seek R q 0 q (omega arith) (e.self q h) (λ p l. absurd (omega arith)) in
    let hx : s.0 < n = omega (arith, s.1) in
    record {
      at = s.0;
      low = s.1;
      kin = s.2;
      first = lowest_make R s.0 (λ p l. not_true (R p s.0) (λ t. clash (e.join p s.0 q (omega arith) hx h t s.2) (s.3 p l)));
    }

-- F is finer than G
module _ (n : ℕ) (F G : ℕ → ℕ → Bool) (f : Equivalence n F) (g : Equivalence n G) (fine : (q p : ℕ) → q < n → p < n → F q p ≡ true → G q p ≡ true) where
  lowest_fine : (q : ℕ) → q < n → lowest G q ≡ true → lowest F q ≡ true
  lowest_fine q h t = lowest_make F q (λ p l. not_true (F p q) (λ x. clash (fine p q (omega arith) h x) (lowest_at G q p t l)))

  -- The finer one has no fewer classes.
  pub classes_fine : classes n G ≤ classes n F
  unfolding classes
  classes_fine = count_le (lowest G) (lowest F) n lowest_fine

  lowest_one : (r t : ℕ) → r < n → t < n → lowest G r ≡ true → lowest G t ≡ true → G r t ≡ true → r ≡ t
  lowest_one r t hr ht lr lt x = pick (dec_le r t) (dec_le t r)
    where
      pick : Dec (r ≤ t) → Dec (t ≤ r) → r ≡ t
      pick (yes a) (yes b) = omega arith
      pick a (no b) = clash x (lowest_at G t r lt (omega arith))
      pick (no a) (yes b) = clash (g.flip r t hr ht x) (lowest_at G r t lr (omega arith))

  -- With no more classes the finer one is the same.
  pub classes_same : classes n F ≤ classes n G → (q p : ℕ) → q < n → p < n → G q p ≡ true → F q p ≡ true
  unfolding classes
  classes_same h q p hq hp x =
      let r = least n F f q hq in
      let t = least n F f p hp in
      let hr : r.at < n = omega (arith, r.low) in
      let ht : t.at < n = omega (arith, t.low) in
      let back = count_same (lowest G) (lowest F) n lowest_fine h in
      let gr = fine r.at q hr hq r.kin in
      let gt = g.flip t.at p ht hp (fine t.at p ht hp t.kin) in
      let grt = g.join r.at q t.at hr hq ht gr (g.join q p t.at hq hp ht x gt) in
      let e = lowest_one r.at t.at hr ht (back r.at hr r.first) (back t.at ht t.first) grt in
      f.join q r.at p hq hr hp (f.flip r.at q hr hq r.kin) (subst (λ (a : ℕ). F a p ≡ true) (sym e) t.kin)

-- ---- chains

-- A number from 1 to n that grows at each step until a rest, which lasts: the chain rests from step n - 1 on.
module _ (n : ℕ) (m : ℕ → ℕ) (Rest : ℕ → Type 0) (some : (j : ℕ) → 1 ≤ m j) (most : (j : ℕ) → m j ≤ n)
    (stop : (j : ℕ) → m (suc j) ≤ m j → Rest j) (last : (j : ℕ) → Rest j → Rest (suc j)) where
  grown : (j : ℕ) → Rest j ⊎ (j < m j)
  grown zero = inr (some 0)
  grown (suc j) = pick (grown j) (dec_le (m (suc j)) (m j))
    where
      pick : Rest j ⊎ (j < m j) → Dec (m (suc j) ≤ m j) → Rest (suc j) ⊎ (suc j < m (suc j))
      pick (inl r) d = inl (last j r)
      pick (inr h) (yes s) = inl (last j (stop j s))
      pick (inr h) (no s) = inr (omega arith)

  pub rests : (j : ℕ) → n ≤ suc j → Rest j
  rests j h = pick (grown j)
    where
      pick : Rest j ⊎ (j < m j) → Rest j
      pick (inl r) = r
      pick (inr g) = stop j (omega (arith, most (suc j)))
