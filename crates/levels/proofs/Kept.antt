-- The kept rows among the first of the order, and the places at which these and the next rows are listed.
use mathlib.Core.Path.{◌≡◌, refl, sym, ap, subst, ◌∙◌}
use mathlib.Core.Bool.{true}
use mathlib.Core.List.{List, [], ◌++◌}
use Prim.Native.Nat.{ℕ, ◌+◌, ◌-◌, ◌≤◌, ◌<◌}
use native.Mathlib.Omega.{arith}
use native.Mathlib.Decide.{dec_lt}
use lib.ListN.{length, get_or, take, drop, length-append, length-take, length-drop, get_or-append, take-append-drop}
use lib.Seq.{take-add, get_or-take, get_or-drop, get_or-append-add}
use Rattle.automata.specs.Runs.{Events, Machine}
use Rattle.automata.proofs.Lists.{Pairwise}
use Rattle.tables.specs.Table.{offset}
use Rattle.tables.specs.Lists.{sift}
use Rattle.tables.specs.Reduction.{order, similar}
use Rattle.tables.proofs.Lists.{at_mem, mem_take, pairwise_at, subset_length, sift-more, ordered-nil, sift-ordered}
use Rattle.levels.specs.Levels.{row_at, ahead}
use Rattle.levels.specs.Sweep.{kept_to, listed, Placed}
use Rattle.levels.proofs.Lists.{pairwise_left, sift-append, sifted_mem}
use Rattle.levels.proofs.Order.{Earlier, order-ahead, earlier_distinct, ahead_earlier}

module _ (E : Events) (M : Machine) (k : ℕ) where
  -- ---- the kept rows so far

  pub kept_start : kept_to E M k 0 ≡ []
  unfolding kept_to sift
  kept_start = refl

  -- They are among the first i of the order,
  pub kept_placed : (i h : ℕ) → h < length (kept_to E M k i) → (x : ℕ) × (x < i) × (x < length (order E M)) × (row_at E M x ≡ get_or (kept_to E M k i) h 0)
  unfolding kept_to
  kept_placed i h g = mem_take (order E M) i (get_or (kept_to E M k i) h 0) 0 (sifted_mem (similar E M (offset k)) (order E M) i (get_or (kept_to E M k i) h 0) (at_mem (kept_to E M k i) h 0 g))

  -- in its order,
  kept_earlier : (i : ℕ) → Pairwise (Earlier E M) (kept_to E M k i)
  unfolding kept_to
  kept_earlier i = sift-ordered (similar E M (offset k)) (Earlier E M) (take i (order E M)) [] (ordered-nil (similar E M (offset k)) (Earlier E M) (take i (order E M))
      (pairwise_left (Earlier E M) (take i (order E M)) (drop i (order E M)) (subst (Pairwise (Earlier E M)) (sym (take-append-drop i (order E M))) (order-ahead E M))))

  pub kept_ahead : (i g h x y : ℕ) → g < h → h < length (kept_to E M k i) → x < length (order E M) → y < length (order E M)
      → row_at E M x ≡ get_or (kept_to E M k i) g 0 → row_at E M y ≡ get_or (kept_to E M k i) h 0 → x < y
  kept_ahead i g h x y gh hh hx hy ex ey = ahead_earlier E M x y hx hy (subst (λ (q : ℕ). ahead E M q (row_at E M x) ≡ true) (sym ey)
      (subst (λ (p : ℕ). ahead E M (get_or (kept_to E M k i) h 0) p ≡ true) (sym ex) (pairwise_at (Earlier E M) (kept_to E M k i) (kept_earlier i) g h 0 gh hh)))

  -- no more than i,
  pub kept_few : (i : ℕ) → length (kept_to E M k i) ≤ i
  unfolding kept_to
  kept_few i = omega (arith, subset_length (kept_to E M k i) (take i (order E M)) (earlier_distinct E M (kept_to E M k i) (kept_earlier i)) (sifted_mem (similar E M (offset k)) (order E M) i), length-take i (order E M))

  -- and stay where they are.
  kept_more : (i j : ℕ) → i ≤ j → (m : List ℕ) × (kept_to E M k j ≡ kept_to E M k i ++ m)
  unfolding kept_to
  kept_more i j h =
      let e : j ≡ i + (j - i) = omega arith in
      let r : List ℕ = take (j - i) (drop i (order E M)) in
      let m = sift-more (similar E M (offset k)) r (kept_to E M k i) in
      (m.0, ap (kept_to E M k) e ∙ ap (sift (similar E M (offset k)) []) (take-add i (j - i) (order E M)) ∙ sift-append (similar E M (offset k)) [] (take i (order E M)) r ∙ m.1)

  pub kept_stays : (i j h : ℕ) → i ≤ j → h < length (kept_to E M k i) → (h < length (kept_to E M k j)) × (get_or (kept_to E M k j) h 0 ≡ get_or (kept_to E M k i) h 0)
  kept_stays i j h ij hh =
      let m = kept_more i j ij in
      (omega (arith, ap length m.1, length-append (kept_to E M k i) m.0), ap (λ (l : List ℕ). get_or l h 0) m.1 ∙ get_or-append (kept_to E M k i) m.0 0 h hh)

  -- ---- the places of `listed`

  pub listed_old : (u e c : ℕ) → c < length (kept_to E M k u) → get_or (listed E M k u e) c 0 ≡ get_or (kept_to E M k u) c 0
  unfolding listed
  listed_old u e c h = get_or-append (kept_to E M k u) (take (e - u) (drop u (order E M))) 0 c h

  pub listed_new : (u e j : ℕ) → u ≤ j → j < e → get_or (listed E M k u e) (length (kept_to E M k u) + (j - u)) 0 ≡ row_at E M j
  unfolding listed
  listed_new u e j h g =
      let b : u + (j - u) ≡ j = omega arith in
      get_or-append-add (kept_to E M k u) (take (e - u) (drop u (order E M))) (j - u) 0
      ∙ get_or-take (e - u) (drop u (order E M)) (j - u) 0 (omega arith) ∙ get_or-drop u (order E M) (j - u) 0 ∙ ap (row_at E M) b

  pub listed-length : (u e : ℕ) → u ≤ e → e ≤ length (order E M) → length (listed E M k u e) ≡ length (kept_to E M k u) + (e - u)
  unfolding listed
  listed-length u e h g =
      omega (arith, length-append (kept_to E M k u) (take (e - u) (drop u (order E M))), length-take (e - u) (drop u (order E M)), length-drop u (order E M))

  -- What stands before the place of the row at place j is one of the first j rows.
  pub listed-before : (u e j c : ℕ) → u ≤ j → j ≤ e → c < length (kept_to E M k u) + (j - u) → Placed E M j (get_or (listed E M k u e) c 0)
  listed-before u e j c uj je h = elim (dec_lt c (length (kept_to E M k u))) [
    | yes g ↦ (let p = kept_placed u c g in (p.0, omega (arith, p.1), p.3 ∙ sym (listed_old u e c g)))
    | no g ↦
        (let x : ℕ = u + (c - length (kept_to E M k u)) in
        let b : length (kept_to E M k u) + (x - u) ≡ c = omega arith in
        (x, omega arith, sym (listed_new u e x (omega arith) (omega arith)) ∙ ap (λ (i : ℕ). get_or (listed E M k u e) i 0) b))
  ]

  -- Each place has one of the first e.
  pub listed_placed : (u e c : ℕ) → u ≤ e → e ≤ length (order E M) → c < length (listed E M k u e) → Placed E M e (get_or (listed E M k u e) c 0)
  listed_placed u e c ue fit h = listed-before u e e c ue (omega arith) (omega (arith, listed-length u e ue fit))
