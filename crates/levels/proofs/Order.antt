-- The order by places: every reached row has just one, deeper rows come first and equal depths by lower row number, and the need rises.
use mathlib.Core.Path.{◌≡◌, refl, sym, ap, subst, ◌∙◌}
use mathlib.Core.Bool.{true, not, ◌&&◌}
use mathlib.Core.List.{List}
use mathlib.Core.Logic.{◌⊎◌, inl, inr, ◌≢◌}
use Prim.Native.Nat.{ℕ, zero, suc, ◌≤◌, ◌<◌}
use native.Mathlib.Omega.{arith}
use native.Mathlib.Decide.{dec_lt, ℕ_discrete}
use lib.Dec.{ltb}
use borrow.Author.Tests.{ltb-true, lt-ltb}
use lib.ListN.{length}
use Rattle.automata.specs.Runs.{Events, Machine, Len, len, endless}
use Rattle.automata.proofs.Tests.{either, clash, and_left, and_right, and_make, or_cases, or_left, or_right}
use Rattle.automata.proofs.Lists.{Mem, Pairwise, Distinct}
use Rattle.automata.proofs.Folding.{◌⊑◌}
use Rattle.tables.specs.Lengths.{lead, is_zero, reached, depth}
use Rattle.tables.specs.Lists.{tabulate}
use Rattle.tables.specs.Reduction.{same_len, level, levels, order}
use Rattle.tables.proofs.Lengths.{lead-unreached, lead-reached, lead-endless}
use Rattle.tables.proofs.Lists.{mem_at, at_mem, pairwise_append, pairwise_map, pairwise_at, pairwise_filter, tabulate_rises, place-one}
use Rattle.tables.proofs.Folds.{same_len_lem, len_same, Deeper, level_mem, levels_mem, order_mem, mem_order, order_falls}
use Rattle.levels.specs.Levels.{longer, row_at, need_at, ahead}
use Rattle.levels.proofs.Need.{need_deep}

-- ---- lengths

-- No two lengths are longer than one another,
longer-one_way : (x y : Len) → longer x y ≡ true → longer y x ≡ true → ⊥
longer-one_way (len a) (len b) t u = omega (arith, ltb-true b a t, ltb-true a b u)
longer-one_way (len a) endless t u = clash t refl
longer-one_way endless (len b) t u = clash u refl
longer-one_way endless endless t u = clash t refl

-- none is longer than itself,
longer-not_same : (x y : Len) → longer x y ≡ true → x ≡ y → ⊥
longer-not_same x y t e = let u = subst (λ (z : Len). longer x z ≡ true) (sym e) t in longer-one_way x x u u

-- and 0 is longer than none.
longer-zero : (y : Len) → longer (len 0) y ≡ true → ⊥
longer-zero (len b) t = omega (arith, ltb-true b 0 t)
longer-zero endless t = clash t refl

module _ (E : Events) (M : Machine) where
  -- ---- which row comes first

  -- p comes before q, by its lead or by its number.
  abbrev Sooner : ℕ → ℕ → Type 0
  Sooner q p = (longer (lead E M p) (lead E M q) ≡ true) ⊎ ((lead E M p ≡ lead E M q) × (p < q))

  ahead_is : (q p : ℕ) → ahead E M q p ≡ true → Sooner q p
  unfolding ahead
  ahead_is q p t = elim (or_cases (longer (lead E M p) (lead E M q)) (same_len (lead E M p) (lead E M q) && ltb p q) t) [
    | inl l ↦ inl l
    | inr u ↦ inr (
      same_len_lem (lead E M p) (lead E M q) (and_left (same_len (lead E M p) (lead E M q)) (ltb p q) u),
      ltb-true p q (and_right (same_len (lead E M p) (lead E M q)) (ltb p q) u),
    )
  ]

  is_ahead : (q p : ℕ) → Sooner q p → ahead E M q p ≡ true
  unfolding ahead
  is_ahead q p (inl l) = or_left (longer (lead E M p) (lead E M q)) (same_len (lead E M p) (lead E M q) && ltb p q) l
  is_ahead q p (inr e) = or_right (longer (lead E M p) (lead E M q)) (same_len (lead E M p) (lead E M q) && ltb p q)
      (and_make (same_len (lead E M p) (lead E M q)) (ltb p q) (subst (λ (x : Len). same_len (lead E M p) x ≡ true) e.0 (len_same (lead E M p))) (lt-ltb p q e.1))

  -- No two rows come before one another,
  ahead-one_way : (q p : ℕ) → ahead E M q p ≡ true → ahead E M p q ≡ true → ⊥
  ahead-one_way q p t u = pick (ahead_is q p t) (ahead_is p q u)
    where
      pick : Sooner q p → Sooner p q → ⊥
      pick (inl a) (inl b) = longer-one_way (lead E M p) (lead E M q) a b
      pick (inl a) (inr b) = longer-not_same (lead E M p) (lead E M q) a (sym b.0)
      pick (inr a) (inl b) = longer-not_same (lead E M q) (lead E M p) b (sym a.0)
      pick (inr a) (inr b) = omega (arith, a.1, b.1)

  -- and no unreached row comes before a reached one.
  pub ahead-reached : (q p : ℕ) → reached E M q ≡ true → ahead E M q p ≡ true → reached E M p ≡ true
  unfolding reached
  ahead-reached q p u t = elim (either (reached E M p)) [
    | inl v ↦ v
    | inr f ↦ elim (ahead_is q p t) [
      | inl l ↦ absurd (longer-zero (lead E M q) (subst (λ (x : Len). longer x (lead E M q) ≡ true) (lead-unreached E M p f) l))
      | inr e ↦ ap (λ (x : Len). not (is_zero x)) e.0 ∙ u
    ]
  ]

  -- ---- the order

  -- Rows of equal depth have equal leads.
  level-lead : (d : Len) (q p : ℕ) → Mem q (level E M d) → Mem p (level E M d) → lead E M q ≡ lead E M p
  level-lead (len d) q p hq hp =
      let r = level_mem E M (len d) q hq in
      let t = level_mem E M (len d) p hp in
      lead-reached E M q d r.1 r.2 ∙ sym (lead-reached E M p d t.1 t.2)
  level-lead endless q p hq hp = lead-endless E M q (level_mem E M endless q hq).2 ∙ sym (lead-endless E M p (level_mem E M endless p hp).2)

  -- x comes before y.
  abbrev pub Earlier : ℕ → ℕ → Type 0
  Earlier x y = ahead E M y x ≡ true

  level-ahead : (d : Len) → Pairwise Earlier (level E M d)
  unfolding level
  level-ahead d = pairwise_map ◌<◌ Earlier (level E M d) (λ x y hx hy h. is_ahead y x (inr (level-lead d x y hx hy, h)))
      (pairwise_filter ◌<◌ _ (tabulate M.rows (λ x. x)) (tabulate_rises M.rows (λ x. x) (λ i j h. h)))

  levels-ahead : (n : ℕ) → Pairwise Earlier (levels E M n)
  unfolding levels
  levels-ahead zero = tt
  levels-ahead (suc n) = pairwise_append Earlier (level E M (len n)) (levels E M n) (level-ahead (len n)) (levels-ahead n) (λ x y hx hy.
      let l = levels_mem E M n y hy in
      let r = level_mem E M (len n) x hx in
      let t = level_mem E M (len l.0) y l.2 in
      is_ahead y x (inl (rw (lead-reached E M x n r.1 r.2, lead-reached E M y l.0 t.1 t.2) (lt-ltb (suc l.0) (suc n) (omega (arith, l.1))))))

  -- Every row of the order comes before the later ones.
  pub order-ahead : Pairwise Earlier (order E M)
  unfolding order
  order-ahead = pairwise_append Earlier (level E M endless) (levels E M M.rows) (level-ahead endless) (levels-ahead M.rows) (λ x y hx hy.
      let l = levels_mem E M M.rows y hy in
      let t = level_mem E M (len l.0) y l.2 in
      is_ahead y x (inl (rw (lead-endless E M x (level_mem E M endless x hx).2, lead-reached E M y l.0 t.1 t.2))))

  -- So the order has no repeats.
  pub earlier_distinct : (l : List ℕ) → Pairwise Earlier l → Distinct l
  earlier_distinct l = pairwise_map Earlier ◌≢◌ l (λ x y hx hy t e.
      let u = subst (λ (z : ℕ). ahead E M z x ≡ true) (sym e) t in
      ahead-one_way x x u u)

  pub order_distinct : Distinct (order E M)
  order_distinct = earlier_distinct (order E M) order-ahead

  -- ---- places

  -- The row at a place is a reached row,
  pub at_row : (i : ℕ) → i < length (order E M) → row_at E M i < M.rows
  at_row i h = (order_mem E M (row_at E M i) (at_mem (order E M) i 0 h)).0

  pub at-reached : (i : ℕ) → i < length (order E M) → reached E M (row_at E M i) ≡ true
  at-reached i h = (order_mem E M (row_at E M i) (at_mem (order E M) i 0 h)).1

  -- every reached row has a place,
  pub place_of : (q : ℕ) → q < M.rows → reached E M q ≡ true → (i : ℕ) × (i < length (order E M)) × (row_at E M i ≡ q)
  place_of q h u = mem_at (order E M) q 0 (mem_order E M q h u)

  -- and just one.
  pub one_place : (i j : ℕ) → i < length (order E M) → j < length (order E M) → row_at E M i ≡ row_at E M j → i ≡ j
  one_place = place-one (order E M) order_distinct

  -- A row comes before those at later places,
  pub earlier_ahead : (i j : ℕ) → i < j → j < length (order E M) → ahead E M (row_at E M j) (row_at E M i) ≡ true
  earlier_ahead i j h g = pairwise_at Earlier (order E M) order-ahead i j 0 h g

  -- and before no others.
  pub ahead_earlier : (i j : ℕ) → i < length (order E M) → j < length (order E M) → ahead E M (row_at E M j) (row_at E M i) ≡ true → i < j
  ahead_earlier i j hi hj t = elim (dec_lt i j) [
    | yes h ↦ h
    | no h ↦ elim (ℕ_discrete i j) [
      | yes e ↦ (let u = subst (λ (x : ℕ). ahead E M (row_at E M j) (row_at E M x) ≡ true) e t in absurd (ahead-one_way (row_at E M j) (row_at E M j) u u))
      | no ne ↦ absurd (ahead-one_way (row_at E M j) (row_at E M i) t (earlier_ahead j i (omega arith) hi))
    ]
  ]

  -- A row is no shallower than one behind it,
  pub at_deeper : (i j : ℕ) → i ≤ j → j < length (order E M) → depth E M (row_at E M j) ⊑ depth E M (row_at E M i)
  at_deeper i j h g = elim (dec_lt i j) [
    | yes l ↦ pairwise_at (Deeper E M) (order E M) (order_falls E M) i j 0 l g
    | no l ↦ (let e : i ≡ j = omega arith in subst (λ (x : ℕ). depth E M (row_at E M j) ⊑ depth E M (row_at E M x)) (sym e) (λ c a. a))
  ]

  -- and so needs no more.
  pub need_rises : (k i j : ℕ) → i ≤ j → j < length (order E M) → need_at E M k (row_at E M i) ≤ need_at E M k (row_at E M j)
  need_rises k i j h g = need_deep k (depth E M (row_at E M j)) (depth E M (row_at E M i)) (at_deeper i j h g)
