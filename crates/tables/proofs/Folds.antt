-- The order of the reached rows, and the folding that follows from it.
use mathlib.Core.Path.{◌≡◌, refl, sym, ap, subst, ◌∙◌}
use mathlib.Core.Bool.{Bool, true}
use mathlib.Core.List.{[], ◌++◌}
use mathlib.Core.Logic.{◌⊎◌, inl, inr, ◌≢◌}
use Prim.Native.Nat.{ℕ, zero, suc, ◌<◌}
use native.Mathlib.Omega.{arith}
use borrow.Author.Tests.{eqb-true, eq-eqb}
use lib.Dec.{eqb}
use Rattle.automata.specs.Runs.{Events, Machine, Sound, Light, Len, len, endless}
use Rattle.tables.specs.Lengths.{reached, depth}
use Rattle.automata.proofs.Tests.{either, clash, and_left, and_right, and_make, last_or_less}
use Rattle.automata.proofs.Lists.{Mem, Pairwise}
use Rattle.automata.proofs.Runs.{Reach, way_in}
use Rattle.tables.proofs.Lengths.{Below, reached_is, reached-found, depth_is, depth_below}
use Rattle.automata.proofs.Folding.{◌⊑◌, Folding}
use Rattle.tables.specs.Lists.{tabulate, some}
use Rattle.tables.specs.Table.{offset}
use Rattle.tables.specs.Reduction.{same_len, level, levels, order, similar, kept, fold}
use Rattle.tables.proofs.Lists.{mem_left, mem_right, mem_cases, mem_tabulate, tabulate_mem, filter_mem, mem_filter, pairwise_append, pairwise_all, pairwise_cases, pairwise_map}
use Rattle.tables.proofs.Lists.{some_mem, mem_some, first_is, Apart, sift-all, sift-apart, Cover, ordered-nil, sift-ordered, sift-covers}
use Rattle.tables.proofs.Similar.{similar_holds, similar_found, similar_refl, similar_sym}

-- Lengths that `same_len` takes as equal are.
pub same_len_lem : (d e : Len) → same_len d e ≡ true → d ≡ e
same_len_lem (len d) (len e) t = ap len (eqb-true d e t)
same_len_lem (len d) endless t = clash t refl
same_len_lem endless (len e) t = clash t refl
same_len_lem endless endless t = refl

pub len_same : (d : Len) → same_len d d ≡ true
len_same (len d) = eq-eqb d d refl
len_same endless = refl

top : (d : Len) → d ⊑ endless
top d c h = tt

-- ---- the order
module _ (E : Events) (M : Machine) where
  -- x is no shallower than y
  abbrev pub Deeper : ℕ → ℕ → Type 0
  Deeper x y = depth E M y ⊑ depth E M x

  pub level_mem : (d : Len) (q : ℕ) → Mem q (level E M d) → (q < M.rows) × (reached E M q ≡ true) × (depth E M q ≡ d)
  unfolding level
  level_mem d q h =
      let m = filter_mem _ (tabulate M.rows (λ x. x)) q h in
      let r = tabulate_mem M.rows (λ x. x) q m.0 in (
        omega (arith, r.1, r.2),
        and_left (reached E M q) _ m.1,
        same_len_lem (depth E M q) d (and_right (reached E M q) (same_len (depth E M q) d) m.1),
      )

  mem_level : (q : ℕ) → q < M.rows → reached E M q ≡ true → Mem q (level E M (depth E M q))
  unfolding level
  mem_level q h u = mem_filter _ (tabulate M.rows (λ x. x)) q (mem_tabulate M.rows (λ x. x) q h)
      (and_make (reached E M q) (same_len (depth E M q) (depth E M q)) u (len_same (depth E M q)))

  pub levels_mem : (n q : ℕ) → Mem q (levels E M n) → (d : ℕ) × (d < n) × Mem q (level E M (len d))
  unfolding levels
  levels_mem zero q h = absurd h
  levels_mem (suc n) q h = pick (mem_cases (level E M (len n)) (levels E M n) q h) (levels_mem n q)
    where
      pick : Mem q (level E M (len n)) ⊎ Mem q (levels E M n) → (Mem q (levels E M n) → (d : ℕ) × (d < n) × Mem q (level E M (len d)))
          → (d : ℕ) × (d < suc n) × Mem q (level E M (len d))
      pick (inl g) ih = (n, omega arith, g)
      pick (inr g) ih = let r = ih g in (r.0, omega (arith, r.1), r.2)

  mem_levels : (n d q : ℕ) → d < n → Mem q (level E M (len d)) → Mem q (levels E M n)
  unfolding levels
  mem_levels zero d q h m = absurd (omega arith)
  mem_levels (suc n) d q h m = elim (last_or_less d n h) [
    | inl e ↦ mem_left (level E M (len n)) (levels E M n) q (subst (λ (x : ℕ). Mem q (level E M (len x))) e m)
    | inr g ↦ mem_right (level E M (len n)) (levels E M n) q (mem_levels n d q g m)
  ]

  -- The order has just the reached rows,
  pub order_mem : (q : ℕ) → Mem q (order E M) → (q < M.rows) × (reached E M q ≡ true)
  unfolding order
  order_mem q h = elim (mem_cases (level E M endless) (levels E M M.rows) q h) [
    | inl g ↦ (let r = level_mem endless q g in (r.0, r.1))
    | inr g ↦ (let l = levels_mem M.rows q g in let r = level_mem (len l.0) q l.2 in (r.0, r.1))
  ]

  pub mem_order : (q : ℕ) → q < M.rows → reached E M q ≡ true → Mem q (order E M)
  unfolding order
  mem_order q h u = pick (depth E M q) (depth_below E M q (omega arith)) (mem_level q h u)
    where
      pick : (d : Len) → Below M.rows d → Mem q (level E M d) → Mem q (level E M endless ++ levels E M M.rows)
      pick (len d) b m = mem_right (level E M endless) (levels E M M.rows) q (mem_levels M.rows d q b m)
      pick endless b m = mem_left (level E M endless) (levels E M M.rows) q m

  level_falls : (d : Len) → Pairwise Deeper (level E M d)
  level_falls d = pairwise_all Deeper (level E M d) (λ x y hx hy. subst (λ (e : Len). depth E M y ⊑ e) (sym (level_mem d x hx).2)
      (subst (λ (e : Len). e ⊑ d) (sym (level_mem d y hy).2) (λ c h. h)))

  levels_fall : (n : ℕ) → Pairwise Deeper (levels E M n)
  unfolding levels
  levels_fall zero = tt
  levels_fall (suc n) = pairwise_append Deeper (level E M (len n)) (levels E M n) (level_falls (len n)) (levels_fall n) (λ x y hx hy.
      let l = levels_mem n y hy in
      subst (λ (e : Len). depth E M y ⊑ e) (sym (level_mem (len n) x hx).2)
      (subst (λ (e : Len). e ⊑ len n) (sym (level_mem (len l.0) y l.2).2) (λ c h. omega (arith, l.1, h))))

  -- the deepest first.
  pub order_falls : Pairwise Deeper (order E M)
  unfolding order
  order_falls = pairwise_append Deeper (level E M endless) (levels E M M.rows) (level_falls endless) (levels_fall M.rows)
      (λ x y hx hy. subst (λ (e : Len). depth E M y ⊑ e) (sym (level_mem endless x hx).2) (top (depth E M y)))

-- ---- the folding
module _ {E : Events} {M : Machine} (s : Sound E M) (z : Light E) (k : ℕ) where
  abbrev like : ℕ → ℕ → Bool
  like = similar E M (offset k)

  pub kept_order : (q : ℕ) → Mem q (kept E M (offset k)) → (q < M.rows) × (reached E M q ≡ true)
  unfolding kept
  kept_order = sift-all like (λ q. (q < M.rows) × (reached E M q ≡ true)) (order E M) [] (λ x h. absurd h) (order_mem E M)

  kept_apart : Pairwise (Apart like) (kept E M (offset k))
  unfolding kept
  kept_apart = sift-apart like (order E M) [] tt

  kept_falls : Pairwise (Deeper E M) (kept E M (offset k))
  unfolding kept
  kept_falls = sift-ordered like (Deeper E M) (order E M) [] (ordered-nil like (Deeper E M) (order E M) (order_falls E M))

  apart-one : (q p : ℕ) → Mem q (kept E M (offset k)) → Mem p (kept E M (offset k)) → like q p ≡ true → q ≡ p
  apart-one q p hq hp t = elim (pairwise_cases (Apart like) (kept E M (offset k)) kept_apart q p hq hp) [
    | inl e ↦ e
    | inr r ↦ elim r [
      | inl f ↦ clash (similar_sym s z k q p (kept_order q hq).0 (kept_order p hp).0 t) f
      | inr f ↦ clash t f
    ]
  ]

  cover : (q : ℕ) → q < M.rows → reached E M q ≡ true → Cover like (Deeper E M) q (kept E M (offset k))
  unfolding kept
  cover q h u = sift-covers like (Deeper E M) (order E M) [] (ordered-nil like (Deeper E M) (order E M) (order_falls E M)) q
      (similar_refl s z k q h) (λ c g. g) (mem_order E M q h u)

  -- where q folds
  record Into (q p : ℕ) : Type 0 where
    is-kept : Mem p (kept E M (offset k))
    alike : like q p ≡ true
    deeper : Deeper E M p q

  into : (q : ℕ) → q < M.rows → reached E M q ≡ true → Into q (fold E M (offset k) q)
  unfolding fold
  into q h u =
      let c = cover q h u in
      let f = first_is (like q) (Deeper E M) q (kept E M (offset k)) kept_falls c.by c.is_in c.alike in
      record {
        is-kept = f.is_in;
        alike = f.passes;
        deeper = elim f.before [
          | inl e ↦ subst (λ (x : ℕ). Deeper E M x q) (sym e) c.early
          | inr d ↦ λ n g. d n (c.early n g)
        ];
      }

  row_of : (q : ℕ) → Reach E M q 0 → (q < M.rows) × (reached E M q ≡ true)
  row_of q r = let h = way_in s s.start_inside r in (h, reached-found s z q h r)

  pub folding : Folding E M (depth E M) k (kept E M (offset k)) (fold E M (offset k))
  folding = record {
    distinct = pairwise_map (Apart like) ◌≢◌ (kept E M (offset k)) (λ x y hx hy a e.
        clash (subst (λ (u : ℕ). like u x ≡ true) e (similar_refl s z k x (kept_order x hx).0)) a) kept_apart;
    depth_is = λ q r. depth_is s z q (row_of q r).0 r;
    kept_reach = λ q m. let h = kept_order q m in reached_is s z q h.0 h.1;
    kept_apart = λ q p hq hp n. apart-one q p hq hp (similar_found s z k q p (kept_order q hq).0 (kept_order p hp).0 n);
    fold_kept = λ q r. let h = row_of q r in (into q h.0 h.1).is-kept;
    fold_alike = λ q r. let h = row_of q r in let i = into q h.0 h.1 in
        similar_holds s z k q (fold E M (offset k) q) h.0 (kept_order (fold E M (offset k) q) i.is-kept).0 i.alike;
    fold_deep = λ q r. let h = row_of q r in (into q h.0 h.1).deeper;
  }

  -- A reached row is kept just if it folds into itself.
  pub kept_own : (q : ℕ) → q < M.rows → reached E M q ≡ true → some (eqb q) (kept E M (offset k)) ≡ eqb (fold E M (offset k) q) q
  kept_own q h u =
      let i = into q h u in
      let p : ℕ = fold E M (offset k) q in
      elim (either (some (eqb q) (kept E M (offset k)))) [
        | inl t ↦
            t ∙ sym (eq-eqb p q (sym (apart-one q p (some_mem q (kept E M (offset k)) t) i.is-kept i.alike)))
        | inr f ↦ elim (either (eqb p q)) [
          | inl t ↦ clash (mem_some q (kept E M (offset k)) (subst (λ (x : ℕ). Mem x (kept E M (offset k))) (eqb-true p q t) i.is-kept)) f
          | inr g ↦ f ∙ sym g
        ]
      ]
