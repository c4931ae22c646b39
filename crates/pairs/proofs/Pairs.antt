-- The cells of pairs: how a pair is read, what a store does to every pair, and a whole triangle as one list.
use Prim.Native.Nat.{ℕ, zero, suc, ◌+◌, ◌≤◌, ◌<◌}
use mathlib.Core.Path.{◌≡◌, refl, sym, ap, ap₂, subst, subst₂, ◌∙◌}
use mathlib.Core.Logic.{◌⊎◌, inl, inr, ⊎_elim}
use mathlib.Core.List.{List, ◌++◌}
use native.Mathlib.Omega.{arith}
use lib.ListN.{length, get_or, take, drop, set, length-append, length-drop, take-append-drop, get_or-append}
use lib.Seq.{length-take-le, take-add, get_or-append-add, get_or-take, get_or-drop, get_or-set_same, get_or-set_other, ext_get_or}
use Rattle.tables.specs.Lists.{tabulate, over}
use Rattle.tables.proofs.Lists.{tabulate-length, tabulate-at, tabulate-same}
use Rattle.tables.proofs.Over.{over-length, take-over, drop-over}
use Rattle.pairs.specs.Pairs.{triangle, pair_at, pairs}
use Rattle.pairs.proofs.Cells.{pair_greater, pair_less, pair_same}
use Rattle.scratch.proofs.Numbers.{lt_or_ge, eq_or_ne}
use Rattle.pairs.proofs.Triangle.{triangle-next, triangle-one}

-- ---- two rows

pub pair_sym : (s : List ℕ) (q p : ℕ) → pair_at s q p ≡ pair_at s p q
pair_sym s q p =
    ⊎_elim
    (λ l. pair_greater s q p l ∙ sym (pair_less s p q l))
    (λ g. ⊎_elim (λ l. pair_less s q p l ∙ sym (pair_greater s p q l)) (λ k. pair_same s q p (omega arith) ∙ sym (pair_same s p q (omega arith))) (lt_or_ge q p))
    (lt_or_ge p q)

-- What holds of each cell below a row's start in two lists, and of 0, holds of each pair of rows before it.
pub pair_lift : (R : ℕ → ℕ → Type 0) (n : ℕ) (s t : List ℕ) → R 0 0 → ((k : ℕ) → k < triangle n → R (get_or s k 0) (get_or t k 0))
    → (q p : ℕ) → q < n → p < n → R (pair_at s q p) (pair_at t q p)
pair_lift R n s t none each q p hq hp =
    ⊎_elim
    (λ l. subst₂ R (sym (pair_greater s q p l)) (sym (pair_greater t q p l)) (each (triangle q + p) (omega (arith, triangle-next q n hq))))
    (λ g.
    ⊎_elim
    (λ l. subst₂ R (sym (pair_less s q p l)) (sym (pair_less t q p l)) (each (triangle p + q) (omega (arith, triangle-next p n hp))))
    (λ k. subst₂ R (sym (pair_same s q p (omega arith))) (sym (pair_same t q p (omega arith))) none)
    (lt_or_ge q p))
    (lt_or_ge p q)

-- ---- a store at the cell of i and j: every pair is as it was, or is that one, at the value stored

module _ (s : List ℕ) (i j v : ℕ) (P : ℕ → ℕ → Type 0) where
  cell_set : (x y : ℕ) → triangle i + j < length s → j < i → y < x → P i j
      → (get_or (set s (triangle i + j) v) (triangle x + y) 0 ≡ get_or s (triangle x + y) 0) ⊎ ((get_or (set s (triangle i + j) v) (triangle x + y) 0 ≡ v) × P x y)
  cell_set x y room h l here =
      ⊎_elim
      (λ e.
      let k = triangle-one x y i j l h e in
      inr (rw e (get_or-set_same s (triangle i + j) v 0 room), subst₂ P (sym k.0) (sym k.1) here))
      (λ e. inl (get_or-set_other s (triangle i + j) (triangle x + y) v 0 e))
      (eq_or_ne (triangle x + y) (triangle i + j))

pub pair_set : (s : List ℕ) (i j v : ℕ) (P : ℕ → ℕ → Type 0) (q p : ℕ) → triangle i + j < length s → j < i → P i j → P j i
    → (pair_at (set s (triangle i + j) v) q p ≡ pair_at s q p) ⊎ ((pair_at (set s (triangle i + j) v) q p ≡ v) × P q p)
pair_set s i j v P q p room h here there =
    ⊎_elim
    (λ l. rw (pair_greater (set s (triangle i + j) v) q p l, pair_greater s q p l) (cell_set s i j v P q p room h l here))
    (λ g.
    ⊎_elim
    (λ l. rw (pair_less (set s (triangle i + j) v) q p l, pair_less s q p l) (cell_set s i j v (λ x y. P y x) p q room h l there))
    (λ k. inl (pair_same _ q p (omega arith) ∙ sym (pair_same s q p (omega arith))))
    (lt_or_ge q p))
    (lt_or_ge p q)

-- ---- a whole triangle

pub pairs-length : (f : ℕ → ℕ → ℕ) (n : ℕ) → length (pairs f n) ≡ triangle n
unfolding pairs triangle
pairs-length f zero = refl
pairs-length f (suc n) = omega (arith, length-append (pairs f n) (tabulate n (f n)), pairs-length f n, tabulate-length n (f n))

-- Triangles of equal pairs are equal.
pub pairs_same : (f g : ℕ → ℕ → ℕ) (n : ℕ) → ((q p : ℕ) → q < n → p < q → f q p ≡ g q p) → pairs f n ≡ pairs g n
unfolding pairs
pairs_same f g zero h = refl
pairs_same f g (suc n) h = ap₂ ◌++◌ (pairs_same f g n (λ q p l. h q p (omega arith))) (tabulate-same n (f n) (g n) (λ p l. h n p (omega arith) l))

pairs_in : (f : ℕ → ℕ → ℕ) (n q p : ℕ) → q < n → p < q → get_or (pairs f n) (triangle q + p) 0 ≡ f q p
unfolding pairs
pairs_in f zero q p hq hp = absurd (omega arith)
pairs_in f (suc n) q p hq hp =
    ⊎_elim
    (λ l.
    get_or-append (pairs f n) (tabulate n (f n)) 0 (triangle q + p) (omega (arith, pairs-length f n, triangle-next q n l))
    ∙ pairs_in f n q p l hp)
    (λ g.
    let e : q ≡ n = omega arith in
    let k : triangle q + p ≡ length (pairs f n) + p = omega (arith, ap triangle e, pairs-length f n) in
    ap (λ (i : ℕ). get_or (pairs f n ++ tabulate n (f n)) i 0) k
    ∙ get_or-append-add (pairs f n) (tabulate n (f n)) p 0
    ∙ tabulate-at n (f n) p 0 (omega arith)
    ∙ ap (λ (i : ℕ). f i p) (sym e))
    (lt_or_ge q n)

-- The first cells of s are a triangle just if each of them is what f says.
module _ (f : ℕ → ℕ → ℕ) (s : List ℕ) where
  row_made : (n : ℕ) → triangle n + n ≤ length s → ((p : ℕ) → p < n → get_or s (triangle n + p) 0 ≡ f n p) → take n (drop (triangle n) s) ≡ tabulate n (f n)
  row_made n room h =
      let e = length-take-le n (drop (triangle n) s) (omega (arith, length-drop (triangle n) s)) in
      ext_get_or 0 (take n (drop (triangle n) s)) (tabulate n (f n)) (e ∙ sym (tabulate-length n (f n)))
      (λ i l.
      let b : i < n = omega arith in
      get_or-take n (drop (triangle n) s) i 0 b ∙ get_or-drop (triangle n) s i 0 ∙ h i b ∙ sym (tabulate-at n (f n) i 0 b))

  pub pairs_made : (n : ℕ) → triangle n ≤ length s → ((q p : ℕ) → q < n → p < q → get_or s (triangle q + p) 0 ≡ f q p) → take (triangle n) s ≡ pairs f n
  unfolding pairs triangle
  pairs_made zero room h = refl
  pairs_made (suc n) room h =
      take-add (triangle n) n s ∙ ap₂ ◌++◌ (pairs_made n (omega arith) (λ q p l. h q p (omega arith))) (row_made n room (λ p l. h n p (omega arith) l))

  pub pairs-cell : (n : ℕ) → take (triangle n) s ≡ pairs f n → (q p : ℕ) → q < n → p < q → get_or s (triangle q + p) 0 ≡ f q p
  pairs-cell n e q p hq hp =
      let l : triangle q + p < triangle n = omega (arith, triangle-next q n hq) in
      sym (get_or-take (triangle n) s (triangle q + p) 0 l) ∙ ap (λ (l : List ℕ). get_or l (triangle q + p) 0) e ∙ pairs_in f n q p hq hp

  -- Each pair is read as f says, where f does not mind the order and is 0 of a row and itself.
  pub pairs_read : (n : ℕ) → ((q p : ℕ) → q < n → p < n → f q p ≡ f p q) → ((q : ℕ) → q < n → f q q ≡ 0) → take (triangle n) s ≡ pairs f n
      → (q p : ℕ) → q < n → p < n → pair_at s q p ≡ f q p
  pairs_read n turn none e q p hq hp =
      ⊎_elim
      (λ l. pair_greater s q p l ∙ pairs-cell n e q p hq l)
      (λ g.
      ⊎_elim
      (λ l. pair_less s q p l ∙ pairs-cell n e p q hp l ∙ turn p q hp hq)
      (λ k.
      let z : q ≡ p = omega arith in
      pair_same s q p z ∙ sym (none q hq) ∙ ap (f q) z)
      (lt_or_ge q p))
      (lt_or_ge p q)

  -- The same of a buffer that a triangle was written over.
  module _ (n : ℕ) (room : triangle n ≤ length s) where
    fits : 0 + length (pairs f n) ≤ length s
    fits = omega (arith, pairs-length f n)

    pub over-pairs-length : length (over s 0 (pairs f n)) ≡ length s
    over-pairs-length = over-length s 0 (pairs f n) fits

    pub over-pairs-take : take (triangle n) (over s 0 (pairs f n)) ≡ pairs f n
    over-pairs-take =
        let e : triangle n ≡ 0 + length (pairs f n) = omega (arith, pairs-length f n) in
        ap (λ (k : ℕ). take k (over s 0 (pairs f n))) e ∙ take-over s 0 (pairs f n) fits

    pub over-pairs-drop : drop (triangle n) (over s 0 (pairs f n)) ≡ drop (triangle n) s
    over-pairs-drop =
        let e : 0 + length (pairs f n) ≡ triangle n = omega (arith, pairs-length f n) in
        subst (λ (k : ℕ). drop k (over s 0 (pairs f n)) ≡ drop k s) e (drop-over s 0 (pairs f n) fits)

pub pairs-at : (f : ℕ → ℕ → ℕ) (s : List ℕ) (n : ℕ) → triangle n ≤ length s → ((q p : ℕ) → q < n → p < n → f q p ≡ f p q) → ((q : ℕ) → q < n → f q q ≡ 0)
    → (q p : ℕ) → q < n → p < n → pair_at (over s 0 (pairs f n)) q p ≡ f q p
pairs-at f s n room turn none = pairs_read f (over s 0 (pairs f n)) n turn none (over-pairs-take f s n room)

-- A buffer whose first cells are what f says, and whose rest is that of s.
pub over-pairs : (f : ℕ → ℕ → ℕ) (s t : List ℕ) (n : ℕ) → triangle n ≤ length t → ((q p : ℕ) → q < n → p < q → get_or t (triangle q + p) 0 ≡ f q p)
    → drop (triangle n) t ≡ drop (triangle n) s → t ≡ over s 0 (pairs f n)
unfolding over
over-pairs f s t n room each rest =
    let e : triangle n ≡ 0 + length (pairs f n) = omega (arith, pairs-length f n) in
    sym (take-append-drop (triangle n) t) ∙ ap₂ ◌++◌ (pairs_made f t n room each) (rest ∙ ap (λ (k : ℕ). drop k s) e)
