-- Into which row a row folds, and which rows are kept, by places of the order and levels of nearness.
use mathlib.Core.Path.{◌≡◌, refl, sym, ap, subst, ◌∙◌}
use mathlib.Core.Bool.{Bool, true}
use mathlib.Core.List.{List, [], ◌∷◌, ◌++◌}
use mathlib.Core.Logic.{inl, inr}
use Prim.Native.Nat.{ℕ, suc, ◌+◌, ◌*◌, ◌-◌, ◌≤◌, ◌<◌}
use native.Mathlib.Omega.{arith}
use native.Mathlib.Decide.{dec_lt}
use borrow.Author.Tests.{eqb-true, eq-eqb}
use lib.ListN.{length, take, drop, length-take, take-append-drop}
use lib.Seq.{take-suc, take-add, get_or-take}
use Rattle.automata.specs.Runs.{Events, Machine, Sound, Light, Near}
use Rattle.automata.proofs.Tests.{either, clash, not_true}
use Rattle.automata.proofs.Lists.{Mem}
use Rattle.automata.proofs.Runs.{near_refl, near_trans, near_up}
use Rattle.tables.specs.Table.{Offset, offset, none}
use Rattle.tables.specs.Lists.{some, first, sift}
use Rattle.tables.specs.Reduction.{order, similar, kept, fold}
use Rattle.tables.proofs.Lists.{mem_take, take_mem, has_some, some_mem, mem_some}
use Rattle.tables.proofs.Similar.{similar_holds, similar_found}
use Rattle.tables.proofs.Folds.{kept_own}
use Rattle.tables.proofs.NoOffset.{kept_none, fold_none}
use Rattle.levels.specs.Levels.{far, row_at, need_at}
use Rattle.levels.specs.Sweep.{kept_to, listed}
use Rattle.levels.proofs.Lists.{least-place, first-append, first-at, first-none, first_in, first_any, first_self, sifted_skip, sifted-add, sifted_mem, Handed, sifted-first, sift-first}
use Rattle.levels.proofs.Need.{alike-near, near-alike}
use Rattle.levels.proofs.Order.{at_row, at-reached, one_place, at_deeper, need_rises}

-- No offset is that of twice the rows.
module _ (E : Events) (M : Machine) where
  pub kept_far : (k : Offset) → 0 < M.rows → kept E M k ≡ kept E M (offset (far M.rows k))
  kept_far (offset k) pos = refl
  kept_far none pos = kept_none E M (2 * M.rows) pos (omega arith)

  pub fold_far : (k : Offset) → 0 < M.rows → fold E M k ≡ fold E M (offset (far M.rows k))
  fold_far (offset k) pos = refl
  fold_far none pos = fold_none E M (2 * M.rows) pos (omega arith)

module _ {E : Events} {M : Machine} (s : Sound E M) (z : Light E) (k : ℕ) where
  abbrev like : ℕ → ℕ → Bool
  like = similar E M (offset k)

  -- Of rows no later, the row at place j is similar to those that are near it at the level that it needs.
  pub at-near : (i j : ℕ) → i ≤ j → j < length (order E M) → like (row_at E M j) (row_at E M i) ≡ true → Near E M M (need_at E M k (row_at E M j)) (row_at E M j) (row_at E M i)
  at-near i j h g t = alike-near k (row_at E M j) (row_at E M i) (at_deeper E M i j h g) (similar_holds s z k (row_at E M j) (row_at E M i) (at_row E M j g) (at_row E M i (omega arith)) t)

  pub at_similar : (i j : ℕ) → i ≤ j → j < length (order E M) → Near E M M (need_at E M k (row_at E M j)) (row_at E M j) (row_at E M i) → like (row_at E M j) (row_at E M i) ≡ true
  at_similar i j h g n = similar_found s z k (row_at E M j) (row_at E M i) (at_row E M j g) (at_row E M i (omega arith)) (near-alike k (row_at E M j) (row_at E M i) (at_deeper E M i j h g) n)

  -- Similarity is handed on, since the need rises.
  handed : Handed like (order E M)
  handed = record {
    self = λ i h. at_similar i i (omega arith) h near_refl;
    on = λ h i j hi ij hj a b. at_similar h j (omega arith) hj
        (near_trans (at-near i j ij hj a) (near_up (need_rises E M k i j ij hj) (at-near h i (omega arith) (omega arith) b)));
  }

  -- ---- folds

  -- A row folds into the first row of the order, up to itself, to which it is similar.
  fold_order : (j : ℕ) → j < length (order E M) → fold E M (offset k) (row_at E M j) ≡ first (like (row_at E M j)) (row_at E M j) (take (suc j) (order E M))
  unfolding fold kept
  fold_order j h =
      ap (λ (l : List ℕ). first (like (row_at E M j)) (row_at E M j) (sift like [] l)) (sym (take-append-drop (suc j) (order E M)))
      ∙ sift-first like (order E M) handed j (row_at E M j) (drop (suc j) (order E M)) h

  -- Or into the first row kept before it to which it is similar, and into itself if there is none.
  fold_before : (j : ℕ) → j < length (order E M) → fold E M (offset k) (row_at E M j) ≡ first (like (row_at E M j)) (row_at E M j) (kept_to E M k j)
  unfolding kept_to
  fold_before j h =
      fold_order j h ∙ ap (first (like (row_at E M j)) (row_at E M j)) (take-suc (order E M) j 0 h)
      ∙ first-append (like (row_at E M j)) (row_at E M j) (take j (order E M)) (row_at E M j ∷ [])
      ∙ ap (λ (d : ℕ). first (like (row_at E M j)) d (take j (order E M))) (first_self (like (row_at E M j)) (row_at E M j))
      ∙ sym (sifted-first like (order E M) handed j j (row_at E M j) (omega arith) h)

  -- Or into the first such of the rows kept among the first u, and all rows behind those, up to any place behind its own.
  pub fold_listed : (u j e d : ℕ) → u ≤ suc j → j < e → j < length (order E M) → fold E M (offset k) (row_at E M j) ≡ first (like (row_at E M j)) d (listed E M k u e)
  unfolding listed kept_to
  fold_listed u j e d h b g =
      let f : ℕ → Bool = like (row_at E M j) in
      let up : suc j + (e - suc j) ≡ u + (e - u) = omega arith in
      let more : List ℕ = take (e - suc j) (drop (suc j) (order E M)) in
      let rest : List ℕ = take (e - u) (drop u (order E M)) in
      fold_order j g
      ∙ first_any f (take (suc j) (order E M)) (row_at E M j) (first f d more)
      (has_some f (take (suc j) (order E M)) (row_at E M j) (take_mem (order E M) (suc j) j 0 (omega arith) g) (handed.self j g))
      ∙ sym (first-append f d (take (suc j) (order E M)) more) ∙ ap (first f d) (sym (take-add (suc j) (e - suc j) (order E M)))
      ∙ ap (λ (i : ℕ). first f d (take i (order E M))) up ∙ ap (first f d) (take-add u (e - u) (order E M)) ∙ first-append f d (take u (order E M)) rest
      ∙ sym (sifted-first like (order E M) handed u j (first f d rest) h g) ∙ sym (first-append f d (sift like [] (take u (order E M))) rest)

  -- ---- the kept rows, gathered row by row

  pub kept_adds : (i : ℕ) → i < length (order E M) → fold E M (offset k) (row_at E M i) ≡ row_at E M i → kept_to E M k (suc i) ≡ kept_to E M k i ++ (row_at E M i ∷ [])
  unfolding kept_to
  kept_adds i h e = elim (either (some (like (row_at E M i)) (kept_to E M k i))) [
    | inl t ↦
        (let m = mem_take (order E M) i (row_at E M i) 0 (sifted_mem like (order E M) i (row_at E M i)
        (subst (λ (x : ℕ). Mem x (kept_to E M k i)) (sym (fold_before i h) ∙ e) (first_in (like (row_at E M i)) (row_at E M i) (kept_to E M k i) t))) in
        absurd (omega (arith, m.1, one_place E M m.0 i m.2 h m.3)))
    | inr f ↦ sifted-add like (order E M) i h f
  ]

  pub kept_skips : (i : ℕ) → i < length (order E M) → (fold E M (offset k) (row_at E M i) ≡ row_at E M i → ⊥) → kept_to E M k (suc i) ≡ kept_to E M k i
  unfolding kept_to
  kept_skips i h ne = elim (either (some (like (row_at E M i)) (kept_to E M k i))) [
    | inl t ↦ sifted_skip like (order E M) i h t
    | inr f ↦ absurd (ne (fold_before i h ∙ first-none (like (row_at E M i)) (row_at E M i) (kept_to E M k i) f))
  ]

  -- ---- by places

  -- Place i leads place j: it is the first whose row is near the row at place j at the level that this row needs.
  pub record Leader (i j : ℕ) : Type 0 where
    pub no_later : i ≤ j
    pub close : Near E M M (need_at E M k (row_at E M j)) (row_at E M j) (row_at E M i)
    pub none_before : (h : ℕ) → h < i → Near E M M (need_at E M k (row_at E M j)) (row_at E M j) (row_at E M h) → ⊥

  pub leader : (j : ℕ) → j < length (order E M) → (i : ℕ) × Leader i j
  leader j h =
      let r = least-place (λ i. like (row_at E M j) (row_at E M i)) j (handed.self j h) in (
        r.0,
        record {
          no_later = r.1;
          close = at-near r.0 j r.1 h r.2;
          none_before = λ i g n. clash (at_similar i j (omega (arith, r.1)) h n) (r.3 i g);
        },
      )

  -- Its row is that into which the row at place j folds.
  pub leader_fold : (i j : ℕ) → j < length (order E M) → Leader i j → fold E M (offset k) (row_at E M j) ≡ row_at E M i
  leader_fold i j h l =
      let b : i < suc j = omega (arith, l.no_later) in
      fold_order j h
      ∙ first-at (like (row_at E M j)) (take (suc j) (order E M)) i (row_at E M j) 0 (omega (arith, length-take (suc j) (order E M)))
      (ap (like (row_at E M j)) (get_or-take (suc j) (order E M) i 0 b) ∙ at_similar i j l.no_later h l.close)
      (λ x g. ap (like (row_at E M j)) (get_or-take (suc j) (order E M) x 0 (omega arith))
      ∙ not_true (like (row_at E M j) (row_at E M x)) (λ t. l.none_before x g (at-near x j (omega arith) h t)))
      ∙ get_or-take (suc j) (order E M) i 0 b

  -- No row before a kept one is near it at the level that it needs,
  pub kept_lone : (i j : ℕ) → i < j → j < length (order E M) → Mem (row_at E M j) (kept E M (offset k)) → Near E M M (need_at E M k (row_at E M j)) (row_at E M j) (row_at E M i) → ⊥
  kept_lone i j l h m n =
      let r = leader j h in
      let own = eqb-true (fold E M (offset k) (row_at E M j)) (row_at E M j) (sym (kept_own s z k (row_at E M j) (at_row E M j h) (at-reached E M j h)) ∙ mem_some (row_at E M j) (kept E M (offset k)) m) in
      let e = one_place E M r.0 j (omega (arith, r.1.no_later)) h (sym (leader_fold r.0 j h r.1) ∙ own) in
      r.1.none_before i (omega arith) n

  -- and before one that is not kept some row is.
  pub gone-near : (j : ℕ) → j < length (order E M) → (Mem (row_at E M j) (kept E M (offset k)) → ⊥) → (i : ℕ) × (i < j) × Near E M M (need_at E M k (row_at E M j)) (row_at E M j) (row_at E M i)
  gone-near j h gone =
      let r = leader j h in
      elim (dec_lt r.0 j) [
        | yes l ↦ (r.0, l, r.1.close)
        | no l ↦
            (let e : r.0 ≡ j = omega (arith, r.1.no_later) in
            let own = leader_fold r.0 j h r.1 ∙ ap (row_at E M) e in
            absurd (gone (some_mem (row_at E M j) (kept E M (offset k))
            (kept_own s z k (row_at E M j) (at_row E M j h) (at-reached E M j h) ∙ eq-eqb (fold E M (offset k) (row_at E M j)) (row_at E M j) own))))
      ]
