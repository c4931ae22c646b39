-- What two stores leave, values written one by one, and the row into which a row folds.
use mathlib.Core.Path.{◌≡◌, sym, ap, subst, ◌∙◌}
use mathlib.Core.List.{List}
use mathlib.Core.Logic.{⊎_elim}
use Prim.Native.Nat.{ℕ, ◌+◌, ◌-◌, ◌*◌, ◌≤◌, ◌<◌}
use native.Mathlib.Omega.{arith}
use borrow.Author.Tests.{eq-eqb, ne_eqb}
use lib.ListN.{length, get_or, drop, set, length-set}
use lib.Seq.{get_or-drop, get_or-set_same, get_or-set_other}
use Rattle.scratch.proofs.Numbers.{eq_or_ne}
use Rattle.quick_folding.specs.Parts.{label_at, list_at, fold_at, Wrote, Valued, Labels}

-- A cell behind those that may have changed.
pub same_behind : (k : ℕ) (t s : List ℕ) → drop k t ≡ drop k s → (i : ℕ) → k ≤ i → get_or t i 0 ≡ get_or s i 0
same_behind k t s e i h =
    let g : k + (i - k) ≡ i = omega arith in
    subst (λ (x : ℕ). get_or t x 0 ≡ get_or s x 0) g (sym (get_or-drop k t (i - k) 0) ∙ ap (λ (l : List ℕ). get_or l (i - k) 0) e ∙ get_or-drop k s (i - k) 0)

-- What two stores leave as it was, and what they bring.
module _ (t : List ℕ) (a x b y : ℕ) where
  pub set2_size : length (set (set t a x) b y) ≡ length t
  set2_size = length-set (set t a x) b y ∙ length-set t a x

  pub set2_other : (k : ℕ) → (k ≡ a → ⊥) → (k ≡ b → ⊥) → get_or (set (set t a x) b y) k 0 ≡ get_or t k 0
  set2_other k na nb = get_or-set_other (set t a x) b k y 0 nb ∙ get_or-set_other t a k x 0 na

  pub set2_first : a < length t → (a ≡ b → ⊥) → get_or (set (set t a x) b y) a 0 ≡ x
  set2_first h ne = get_or-set_other (set t a x) b a y 0 ne ∙ get_or-set_same t a x 0 h

  pub set2_second : b < length t → get_or (set (set t a x) b y) b 0 ≡ y
  set2_second h = get_or-set_same (set t a x) b y 0 (omega (arith, length-set t a x))

-- Values written one by one.
pub wrote_next : {at q : ℕ} {f : ℕ → ℕ} {s t : List ℕ} (x : ℕ) → at + q < length s → Wrote at q f s t → x ≡ f q → Wrote at (q + 1) f s (set t (at + q) x)
wrote_next {at} {q} {f} {s} {t} x h d e =
    let z = d.size in
    let room : at + q < length t = omega arith in
    record {
      size = length-set t (at + q) x ∙ z;
      here = λ p l.
          ⊎_elim
          (λ g. let k : at + p ≡ at + q = omega arith in rw k (get_or-set_same t (at + q) x 0 room ∙ e ∙ ap f (sym g)))
          (λ g. get_or-set_other t (at + q) (at + p) x 0 (λ y. g (omega arith)) ∙ d.here p (omega arith))
          (eq_or_ne p q);
      below = λ k l. get_or-set_other t (at + q) k x 0 (λ y. omega arith) ∙ d.below k l;
      above = λ k l. get_or-set_other t (at + q) k x 0 (λ y. omega arith) ∙ d.above k (omega arith);
    }

-- ---- the rows into which rows fold
module _ (n : ℕ) (s : List ℕ) (q : ℕ) where
  pub fold_none : get_or s q 0 ≡ 0 → fold_at n s q ≡ 0
  unfolding fold_at
  fold_none e = rw (eq-eqb (get_or s q 0) 0 e)

  pub fold_some : (get_or s q 0 ≡ 0 → ⊥) → fold_at n s q ≡ list_at n s (label_at n s q)
  unfolding fold_at
  fold_some ne = rw (ne_eqb (get_or s q 0) 0 ne)

-- Writing values changes neither the labels nor what stands there.
module _ {n count : ℕ} {f : ℕ → ℕ} {s t : List ℕ} (l : Labels n s) (d : Valued n count f s t) where
  pub fold_still : (q : ℕ) → q < n → count ≤ n → fold_at n t q ≡ fold_at n s q
  fold_still q h fits =
      let lead : get_or t q 0 ≡ get_or s q 0 = d.below q (omega arith) in
      ⊎_elim
      (λ e. fold_none n t q (lead ∙ e) ∙ sym (fold_none n s q e))
      (λ ne. fold_some n t q (λ e. ne (sym lead ∙ e)) ∙ ap (list_at n t) (d.below (n + q) (omega arith)) ∙ d.above (3 * n + label_at n s q) (omega arith) ∙ sym (fold_some n s q ne))
      (eq_or_ne (get_or s q 0) 0)
