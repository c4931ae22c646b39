-- Similarity is nearness from what the depths leave of the offset; with no offset it is that of any offset of twice the rows or more.
use mathlib.Core.Path.{◌≡◌, refl, sym, ◌∙◌, fun_ext}
use mathlib.Core.Bool.{Bool, true, false, ◌||◌}
use Prim.Native.Nat.{ℕ, ◌+◌, ◌*◌, ◌-◌, ◌≤◌, ◌<◌, min}
use native.Mathlib.Omega.{arith}
use native.Mathlib.Decide.{ℕ_discrete}
use lib.Dec.{eqb, leb}
use borrow.Author.Tests.{eq-eqb, ne_eqb, leb-true, le-leb, lt-leb}
use Rattle.automata.specs.Runs.{Events, Machine, Sound, Light, Len, len, endless, IsDistance}
use Rattle.tables.specs.Lengths.{distance, depth}
use Rattle.automata.proofs.Tests.{clash}
use Rattle.automata.proofs.Runs.{near_refl, near_sym, near_up}
use Rattle.tables.proofs.Lengths.{Below, distance_is, distance-below, depth_below}
use Rattle.automata.proofs.Folding.{Alike, cap}
use Rattle.tables.specs.Table.{offset, none}
use Rattle.tables.specs.Reduction.{replaced, similar_by, similar}

-- ---- with an offset

smallest : (k : ℕ) (d e : Len) → min k (min (replaced k d) (replaced k e)) ≡ min (cap k d) (cap k e)
smallest k (len d) (len e) = omega arith
smallest k (len d) endless = omega arith
smallest k endless (len e) = omega arith
smallest k endless endless = omega arith

cap_top : (k : ℕ) (d : Len) → cap k d ≤ k
cap_top k (len d) = omega arith
cap_top k endless = omega arith

module _ {E : Events} {M : Machine} (k q p : ℕ) (d e : Len) where
  by_holds : (x : Len) → IsDistance E M q p x → similar_by (offset k) x d e ≡ true → Alike E M k q p d e
  unfolding similar_by
  by_holds (len L) h t = near_up (omega (arith, leb-true (L + min k (min (replaced k d) (replaced k e))) k t, smallest k d e)) h.0
  by_holds endless h t = clash t refl

  by_found : (x : Len) → IsDistance E M q p x → Alike E M k q p d e → similar_by (offset k) x d e ≡ true
  unfolding similar_by
  by_found (len L) h n = le-leb (L + min k (min (replaced k d) (replaced k e))) k
      (omega (arith, smallest k d e, cap_top k d, h.1 (k - min (cap k d) (cap k e)) n))
  by_found endless h n = absurd (h (k - min (cap k d) (cap k e)) n)

module _ {E : Events} {M : Machine} (s : Sound E M) (z : Light E) (k q p : ℕ) (hq : q < M.rows) (hp : p < M.rows) where
  pub similar_holds : similar E M (offset k) q p ≡ true → Alike E M k q p (depth E M q) (depth E M p)
  unfolding similar
  similar_holds = by_holds k q p (depth E M q) (depth E M p) (distance E M q p) (distance_is s z hq hp)

  pub similar_found : Alike E M k q p (depth E M q) (depth E M p) → similar E M (offset k) q p ≡ true
  unfolding similar
  similar_found = by_found k q p (depth E M q) (depth E M p) (distance E M q p) (distance_is s z hq hp)

module _ {E : Events} {M : Machine} (s : Sound E M) (z : Light E) (k : ℕ) where
  pub similar_refl : (q : ℕ) → q < M.rows → similar E M (offset k) q q ≡ true
  similar_refl q hq = similar_found s z k q q hq hq near_refl

  pub similar_sym : (q p : ℕ) → q < M.rows → p < M.rows → similar E M (offset k) q p ≡ true → similar E M (offset k) p q ≡ true
  similar_sym q p hq hp t = similar_found s z k p q hp hq (near_sym (near_up (omega arith) (similar_holds s z k q p hq hp t)))

-- ---- with none

yes_both : (k L m : ℕ) → L + m ≤ k → (eqb L 0 || true) ≡ leb (L + m) k
yes_both k L m h = pick (eqb L 0) ∙ sym (le-leb (L + m) k h)
  where
    pick : (b : Bool) → (b || true) ≡ true
    pick true = refl
    pick false = refl

only_zero : (k L m : ℕ) → m ≡ k → (eqb L 0 || false) ≡ leb (L + m) k
only_zero k L m e = pick (ℕ_discrete L 0)
  where
    pick : Dec (L ≡ 0) → (eqb L 0 || false) ≡ leb (L + m) k
    pick (yes z) = rw (eq-eqb L 0 z) (sym (le-leb (L + m) k (omega arith)))
    pick (no h) = rw (ne_eqb L 0 h) (sym (lt-leb (L + m) k (omega arith)))

-- Of lengths below n, none is the same as any offset of twice n or more.
by_none : (n k : ℕ) → 2 * n ≤ k → (x d e : Len) → Below n x → Below n d → Below n e → similar_by none x d e ≡ similar_by (offset k) x d e
unfolding similar_by
by_none n k h endless d e bx bd be = refl
by_none n k h (len L) (len d) (len e) bx bd be = yes_both k L (min k (min d e)) (omega arith)
by_none n k h (len L) (len d) endless bx bd be = yes_both k L (min k (min d k)) (omega arith)
by_none n k h (len L) endless (len e) bx bd be = yes_both k L (min k (min k e)) (omega arith)
by_none n k h (len L) endless endless bx bd be = only_zero k L (min k (min k k)) (omega arith)

pub similar_none : (E : Events) (M : Machine) (k : ℕ) → 0 < M.rows → 2 * M.rows ≤ k → similar E M none ≡ similar E M (offset k)
unfolding similar
similar_none E M k pos h = fun_ext (λ q. fun_ext (λ p.
    by_none M.rows k h (distance E M q p) (depth E M q) (depth E M p) (distance-below E M q p) (depth_below E M q pos) (depth_below E M p pos)))
