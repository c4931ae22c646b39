-- The sheet: at which offsets a row is kept, by its depth and its least distance from the rows before it; and how many are.
use mathlib.Core.Path.{◌≡◌, refl, sym, ap, subst, ◌∙◌}
use mathlib.Core.Bool.{Bool, true, false, cond}
use mathlib.Core.List.{List, [], ◌∷◌}
use mathlib.Core.Logic.{◌⊎◌, inl, inr}
use Prim.Native.Nat.{ℕ, zero, suc, ◌+◌, ◌≤◌, ◌<◌}
use native.Mathlib.Omega.{arith}
use native.Mathlib.Decide.{dec_le}
use lib.Dec.{eqb}
use borrow.Author.Tests.{lt-ltb, le-ltb}
use lib.ListN.{length, take}
use Rattle.automata.specs.Runs.{Events, Machine, Sound, Light, Near, Len, len, endless, IsDistance}
use Rattle.automata.proofs.Tests.{either, clash, not_true, last_or_less}
use Rattle.automata.proofs.Count.{count, count_cong}
use Rattle.automata.proofs.Lists.{Mem}
use Rattle.automata.proofs.Runs.{near_up, near_cast}
use Rattle.tables.specs.Lengths.{distance, depth, reached}
use Rattle.tables.specs.Table.{Offset, offset}
use Rattle.tables.specs.Lists.{some}
use Rattle.tables.specs.Reduction.{order, kept}
use Rattle.tables.proofs.Lengths.{Below, distance_is, distance-below}
use Rattle.tables.proofs.Lists.{mem_take, take_mem, some_mem, mem_some, distinct_count, place_is}
use Rattle.tables.proofs.Folds.{kept_order, folding}
use Rattle.levels.specs.Levels.{need, far, shorter, till, under, row_at, need_at, nearest, before, apart, goes, ahead, nearest_of}
use Rattle.levels.proofs.Order.{order_distinct, at_row, place_of, earlier_ahead, ahead_earlier, ahead-reached}
use Rattle.levels.proofs.Folds.{kept_far, kept_lone, gone-near}

-- ---- lengths

-- The length is at most L.
abbrev pub Within : Len → ℕ → Type 0
Within (len m) L = m ≤ L
Within endless L = ⊥

-- The shorter of two lengths is at most L just if one of them is.
within_left : (x y : Len) (L : ℕ) → Within x L → Within (shorter x y) L
within_left (len a) (len b) L h = omega arith
within_left (len a) endless L h = h
within_left endless y L h = absurd h

within_right : (x y : Len) (L : ℕ) → Within y L → Within (shorter x y) L
within_right (len a) (len b) L h = omega arith
within_right (len a) endless L h = absurd h
within_right endless y L h = h

within_cases : (x y : Len) (L : ℕ) → Within (shorter x y) L → Within x L ⊎ Within y L
within_cases (len a) (len b) L h = elim (dec_le a L) [ yes g ↦ inl g | no g ↦ inr (omega arith) ]
within_cases (len a) endless L h = inl h
within_cases endless y L h = inr h

-- A length is determined by the numbers that it is at most.
within_one : (x y : Len) → ((L : ℕ) → Within x L → Within y L) → ((L : ℕ) → Within y L → Within x L) → x ≡ y
within_one (len a) (len b) f g =
    let e : a ≡ b = omega (arith, f a (omega arith), g b (omega arith)) in
    ap len e
within_one (len a) endless f g = absurd (f a (omega arith))
within_one endless (len b) f g = absurd (g b (omega arith))
within_one endless endless f g = refl

shorter-below : (n : ℕ) (x y : Len) → Below n x → Below n y → Below n (shorter x y)
shorter-below n (len a) (len b) hx hy = omega arith
shorter-below n (len a) endless hx hy = hx
shorter-below n endless y hx hy = hy

-- A least distance is endless, or less than the rows are.
pub nearest_of-below : (E : Events) (M : Machine) (q : ℕ) (f : ℕ → Bool) (m : ℕ) → Below M.rows (nearest_of E M q f m)
unfolding nearest_of
nearest_of-below E M q f zero = tt
nearest_of-below E M q f (suc m) = pick (f m) (nearest_of-below E M q f m)
  where
    pick : (b : Bool) → Below M.rows (nearest_of E M q f m) → Below M.rows (cond b (shorter (nearest_of E M q f m) (distance E M q m)) (nearest_of E M q f m))
    pick true ih = shorter-below M.rows (nearest_of E M q f m) (distance E M q m) ih (distance-below E M q m)
    pick false ih = ih

-- The offset is below `till` just if the least distance is above what the depth leaves of the offset.
till-gone : (k : ℕ) (m d : Len) → Within m (need k d) → under k (till m d) ≡ false
till-gone k (len zero) d h = le-ltb k 0 (omega arith)
till-gone k (len (suc m)) (len d) h = le-ltb k (suc m + d) (omega arith)
till-gone k (len (suc m)) endless h = absurd (omega arith)
till-gone k endless d h = absurd h

till_kept : (k : ℕ) (m d : Len) → (Within m (need k d) → ⊥) → under k (till m d) ≡ true
till_kept k (len zero) d h = absurd (h (omega arith))
till_kept k (len (suc m)) (len d) h = lt-ltb k (suc m + d) (omega arith)
till_kept k (len (suc m)) endless h = refl
till_kept k endless d h = refl

module _ {E : Events} {M : Machine} (s : Sound E M) (z : Light E) where
  -- ---- the least distance

  -- A distance is at most L just if the rows are near at level L.
  within_near : (q p L : ℕ) → q < M.rows → p < M.rows → Within (distance E M q p) L → Near E M M L q p
  within_near q p L hq hp = pick (distance E M q p) (distance_is s z hq hp)
    where
      pick : (x : Len) → IsDistance E M q p x → Within x L → Near E M M L q p
      pick (len D) h g = near_up g h.0
      pick endless h g = absurd g

  near_within : (q p L : ℕ) → q < M.rows → p < M.rows → Near E M M L q p → Within (distance E M q p) L
  near_within q p L hq hp n = pick (distance E M q p) (distance_is s z hq hp)
    where
      pick : (x : Len) → IsDistance E M q p x → Within x L
      pick (len D) h = h.1 L n
      pick endless h = h L n

  -- The least from a list of rows is, just if some row of the list is near at level L;
  nearest_holds : (q L : ℕ) → q < M.rows → (l : List ℕ) → ((p : ℕ) → Mem p l → p < M.rows) → Within (nearest E M q l) L → (p : ℕ) × Mem p l × Near E M M L q p
  unfolding nearest
  nearest_holds q L hq [] rows h = absurd h
  nearest_holds q L hq (p ∷ l) rows h = pick (within_cases (distance E M q p) (nearest E M q l) L h) (nearest_holds q L hq l (λ x m. rows x (inr m)))
    where
      pick : Within (distance E M q p) L ⊎ Within (nearest E M q l) L → (Within (nearest E M q l) L → (x : ℕ) × Mem x l × Near E M M L q x) → (x : ℕ) × Mem x (p ∷ l) × Near E M M L q x
      pick (inl g) ih = (p, inl refl, within_near q p L hq (rows p (inl refl)) g)
      pick (inr g) ih = let r = ih g in (r.0, inr r.1, r.2)

  nearest-found : (q L p : ℕ) → q < M.rows → p < M.rows → (l : List ℕ) → Mem p l → Near E M M L q p → Within (nearest E M q l) L
  unfolding nearest
  nearest-found q L p hq hp [] m n = absurd m
  nearest-found q L p hq hp (x ∷ l) (inl e) n = within_left (distance E M q x) (nearest E M q l) L (subst (λ (y : ℕ). Within (distance E M q y) L) e (near_within q p L hq hp n))
  nearest-found q L p hq hp (x ∷ l) (inr m) n = within_right (distance E M q x) (nearest E M q l) L (nearest-found q L p hq hp l m n)

  -- and that from the rows below m that pass a test, just if one of those is.
  nearest_of_holds : (q L : ℕ) (f : ℕ → Bool) → q < M.rows → (m : ℕ) → m ≤ M.rows → Within (nearest_of E M q f m) L → (p : ℕ) × (p < m) × (f p ≡ true) × Near E M M L q p
  unfolding nearest_of
  nearest_of_holds q L f hq zero b h = absurd h
  nearest_of_holds q L f hq (suc m) b h = pick (f m) refl h (nearest_of_holds q L f hq m (omega arith))
    where
      less : (p : ℕ) × (p < m) × (f p ≡ true) × Near E M M L q p → (p : ℕ) × (p < suc m) × (f p ≡ true) × Near E M M L q p
      less r = (r.0, omega (arith, r.1), r.2, r.3)

      pick : (t : Bool) → f m ≡ t → Within (cond t (shorter (nearest_of E M q f m) (distance E M q m)) (nearest_of E M q f m)) L
          → (Within (nearest_of E M q f m) L → (p : ℕ) × (p < m) × (f p ≡ true) × Near E M M L q p) → (p : ℕ) × (p < suc m) × (f p ≡ true) × Near E M M L q p
      pick true e g ih = elim (within_cases (nearest_of E M q f m) (distance E M q m) L g) [
        | inl w ↦ less (ih w)
        | inr w ↦ (m, omega arith, e, within_near q m L hq (omega arith) w)
      ]
      pick false e g ih = less (ih g)

  nearest_of-found : (q L p : ℕ) (f : ℕ → Bool) → q < M.rows → p < M.rows → f p ≡ true → Near E M M L q p → (m : ℕ) → p < m → Within (nearest_of E M q f m) L
  unfolding nearest_of
  nearest_of-found q L p f hq hp t n zero l = absurd (omega arith)
  nearest_of-found q L p f hq hp t n (suc m) l = pick (f m) refl (last_or_less p m l) (nearest_of-found q L p f hq hp t n m)
    where
      pick : (b : Bool) → f m ≡ b → (p ≡ m) ⊎ (p < m) → (p < m → Within (nearest_of E M q f m) L) → Within (cond b (shorter (nearest_of E M q f m) (distance E M q m)) (nearest_of E M q f m)) L
      pick true e (inl g) ih = within_right (nearest_of E M q f m) (distance E M q m) L (subst (λ (y : ℕ). Within (distance E M q y) L) g (near_within q p L hq hp n))
      pick true e (inr g) ih = within_left (nearest_of E M q f m) (distance E M q m) L (ih g)
      pick false e (inl g) ih = clash (subst (λ (y : ℕ). f y ≡ true) g t) e
      pick false e (inr g) ih = ih g

  -- ---- the least distance from the rows before a row

  -- The rows before place j are the first j of the order.
  apart-at : (j : ℕ) → j < length (order E M) → apart E M (row_at E M j) ≡ nearest E M (row_at E M j) (take j (order E M))
  unfolding apart before
  apart-at j h = ap (λ (i : ℕ). nearest E M (row_at E M j) (take i (order E M))) (place_is (order E M) (order_distinct E M) j h)

  -- By places: it is at most L just if the row at place j is not the first of the order among those near it at level L.
  pub apart_holds : (j L : ℕ) → j < length (order E M) → Within (apart E M (row_at E M j)) L → (i : ℕ) × (i < j) × Near E M M L (row_at E M j) (row_at E M i)
  apart_holds j L h w =
      let x = nearest_holds (row_at E M j) L (at_row E M j h) (take j (order E M))
      (λ p m. (let t = mem_take (order E M) j p 0 m in subst (λ (y : ℕ). y < M.rows) t.3 (at_row E M t.0 t.2)))
      (subst (λ (y : Len). Within y L) (apart-at j h) w) in
      let t = mem_take (order E M) j x.0 0 x.1 in
      (t.0, t.1, near_cast refl (sym t.3) x.2)

  pub apart-found : (i j L : ℕ) → i < j → j < length (order E M) → Near E M M L (row_at E M j) (row_at E M i) → Within (apart E M (row_at E M j)) L
  apart-found i j L g h n = subst (λ (y : Len). Within y L) (sym (apart-at j h))
      (nearest-found (row_at E M j) L (row_at E M i) (at_row E M j h) (at_row E M i (omega arith)) (take j (order E M)) (take_mem (order E M) j i 0 g (omega arith)) n)

  -- Without the order: that from the rows that come before by their leads.
  pub apart_is : (q : ℕ) → q < M.rows → reached E M q ≡ true → apart E M q ≡ nearest_of E M q (ahead E M q) M.rows
  apart_is q hq u =
      let r = place_of E M q hq u in
      subst (λ (x : ℕ). apart E M x ≡ nearest_of E M x (ahead E M x) M.rows) r.2 (at r.0 r.1 (subst (λ (x : ℕ). reached E M x ≡ true) (sym r.2) u))
    where
      at : (j : ℕ) → j < length (order E M) → reached E M (row_at E M j) ≡ true → apart E M (row_at E M j) ≡ nearest_of E M (row_at E M j) (ahead E M (row_at E M j)) M.rows
      at j h v = within_one (apart E M (row_at E M j)) (nearest_of E M (row_at E M j) (ahead E M (row_at E M j)) M.rows)
          (λ L w.
          let x = apart_holds j L h w in
          let b = at_row E M x.0 (omega (arith, x.1)) in
          nearest_of-found (row_at E M j) L (row_at E M x.0) (ahead E M (row_at E M j)) (at_row E M j h) b (earlier_ahead E M x.0 j x.1 h) x.2 M.rows b)
          (λ L w.
          let x = nearest_of_holds (row_at E M j) L (ahead E M (row_at E M j)) (at_row E M j h) M.rows (omega arith) w in
          let i = place_of E M x.0 x.1 (ahead-reached E M (row_at E M j) x.0 v x.2) in
          apart-found i.0 j L (ahead_earlier E M i.0 j i.1 h (subst (λ (p : ℕ). ahead E M (row_at E M j) p ≡ true) (sym i.2) x.2)) h (near_cast refl (sym i.2) x.3))

  pub apart_below : (q : ℕ) → q < M.rows → reached E M q ≡ true → Below M.rows (apart E M q)
  apart_below q hq u = subst (Below M.rows) (sym (apart_is q hq u)) (nearest_of-below E M q (ahead E M q) M.rows)

  -- ---- the sheet

  -- By places, with an offset.
  sheet-at : (k j : ℕ) → j < length (order E M) → some (eqb (row_at E M j)) (kept E M (offset k)) ≡ under k (till (apart E M (row_at E M j)) (depth E M (row_at E M j)))
  sheet-at k j h = elim (either (some (eqb (row_at E M j)) (kept E M (offset k)))) [
    | inl t ↦ t ∙ sym (till_kept k (apart E M (row_at E M j)) (depth E M (row_at E M j)) (λ w.
        let x = apart_holds j (need_at E M k (row_at E M j)) h w in
        kept_lone s z k x.0 j x.1 h (some_mem (row_at E M j) (kept E M (offset k)) t) x.2))
    | inr f ↦ f ∙ sym (till-gone k (apart E M (row_at E M j)) (depth E M (row_at E M j))
        (let x = gone-near s z k j h (λ m. clash (mem_some (row_at E M j) (kept E M (offset k)) m) f) in
        apart-found x.0 j (need_at E M k (row_at E M j)) x.1 h x.2))
  ]

  -- A row is kept at the offsets below that at which it goes.
  pub sheet : (k : Offset) (q : ℕ) → q < M.rows → some (eqb q) (kept E M k) ≡ under (far M.rows k) (goes E M q)
  unfolding goes
  sheet k q hq = ap (some (eqb q)) (kept_far E M k (omega arith)) ∙ elim (either (reached E M q)) [
    | inl u ↦ (let r = place_of E M q hq u in
        rw u (subst (λ (x : ℕ). some (eqb x) (kept E M (offset (far M.rows k))) ≡ under (far M.rows k) (till (apart E M x) (depth E M x))) r.2 (sheet-at (far M.rows k) r.0 r.1)))
    | inr f ↦ rw f (not_true (some (eqb q) (kept E M (offset (far M.rows k)))) (λ t. clash (kept_order s z (far M.rows k) q (some_mem q (kept E M (offset (far M.rows k))) t)).1 f)
        ∙ sym (le-ltb (far M.rows k) 0 (omega arith)))
  ]

  -- So many rows are kept.
  pub kept_count : (k : Offset) → length (kept E M k) ≡ count (λ q. under (far M.rows k) (goes E M q)) M.rows
  kept_count k =
      ap length (kept_far E M k (omega (arith, s.start_inside)))
      ∙ distinct_count (kept E M (offset (far M.rows k))) M.rows (folding s z (far M.rows k)).distinct (λ x m. (kept_order s z (far M.rows k) x m).0)
      ∙ count_cong (λ q. some (eqb q) (kept E M (offset (far M.rows k)))) (λ q. under (far M.rows k) (goes E M q)) M.rows
      (sheet (offset (far M.rows k)))
