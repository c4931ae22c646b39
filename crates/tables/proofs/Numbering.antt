-- The breadth-first numbering: it begins with the start, has no repeats, and is closed under every event.
use mathlib.Core.Path.{◌≡◌, refl, sym, ap, subst, ◌∙◌}
use mathlib.Core.List.{List, [], ◌∷◌, ◌++◌, map}
use mathlib.Core.Logic.{◌⊎◌, inl, inr, ◌≢◌}
use Prim.Native.Nat.{ℕ, zero, suc, ◌*◌, ◌/◌, ◌%◌, ◌≤◌, ◌<◌}
use native.Mathlib.Omega.{arith}
use native.Mathlib.Nat.{mod-lt, div-lt_iff_lt-mul}
use native.Mathlib.Decide.{dec_le, le_ind}
use lib.Dec.{eqb}
use borrow.Author.Tests.{eqb-true, eqb-false, eq-eqb}
use lib.ListN.{length, get_or, length-append, get_or-append}
use Rattle.automata.specs.Runs.{Machine, Run, after, Leads}
use Rattle.automata.proofs.Tests.{last_or_less}
use Rattle.automata.proofs.Lists.{Mem, Pairwise, Distinct}
use Rattle.automata.proofs.Folding.{folded}
use Rattle.tables.specs.Lists.{tabulate, place, sift}
use Rattle.tables.specs.Table.{Table, pack}
use Rattle.tables.specs.Reduction.{met, numbering, number, renumbered}
use Rattle.tables.proofs.Lists.{tabulate-same, mem_left, mem_at, at_mem, read_mem, mem_tabulate, tabulate_mem, has_some, pairwise_all, pairwise_map, subset_length}
use Rattle.tables.proofs.Lists.{Apart, sift-more, sift-all, sift-apart, sift-none, sift-covers}

module _ (events : ℕ) (M : Machine) (f : ℕ → ℕ) where
  -- the rows that the events lead to from row i of l
  abbrev targets : List ℕ → ℕ → List ℕ
  targets l i = tabulate events (λ a. f (M.target (get_or l i (f M.start)) a))

  -- Every target of a member folds into a member.
  abbrev pub Closed : List ℕ → Type 0
  Closed l = (x a : ℕ) → Mem x l → a < events → Mem (f (M.target x a)) l

  met-more : (i : ℕ) → (m : List ℕ) × (met events M f (suc i) ≡ met events M f i ++ m)
  unfolding met
  met-more i = sift-more eqb (targets (met events M f i) i) (met events M f i)

  pub met_starts : (i : ℕ) → (m : List ℕ) × (met events M f i ≡ f M.start ∷ m)
  unfolding met
  met_starts zero = ([], refl)
  met_starts (suc i) = let l = met_starts i in let m = met-more i in (l.0 ++ m.0, m.1 ∙ ap (λ (x : List ℕ). x ++ m.0) l.1)

  met_start : (i : ℕ) → Mem (f M.start) (met events M f i)
  met_start i = subst (Mem (f M.start)) (sym (met_starts i).1) (inl refl)

  met_distinct : (i : ℕ) → Pairwise (Apart eqb) (met events M f i)
  unfolding met
  met_distinct zero = (λ y h. absurd h, tt)
  met_distinct (suc i) = sift-apart eqb (targets (met events M f i) i) (met events M f i) (met_distinct i)

  -- Going through a row brings in its targets.
  met_next : (i a : ℕ) → a < events → Mem (f (M.target (get_or (met events M f i) i (f M.start)) a)) (met events M f (suc i))
  unfolding met
  met_next i a h =
      let l = met events M f i in
      let x : ℕ = f (M.target (get_or l i (f M.start)) a) in
      let c = sift-covers eqb (λ y z. Unit {0}) (targets l i) l
      (record { done = pairwise_all _ l (λ y z g k. tt); ahead = pairwise_all _ (targets l i) (λ y z g k. tt); between = λ y z g k. tt })
      x (eq-eqb x x refl) tt (mem_tabulate events (λ b. f (M.target (get_or l i (f M.start)) b)) a h) in
      subst (λ (y : ℕ). Mem y (sift eqb l (targets l i))) (sym (eqb-true x c.by c.alike)) c.is_in

  -- A closed list stays as it is.
  closed_stays : (i : ℕ) → Closed (met events M f i) → met events M f (suc i) ≡ met events M f i
  unfolding met
  closed_stays i c = sift-none eqb (targets (met events M f i) i) (met events M f i) (λ x h.
      let l = met events M f i in
      let t = tabulate_mem events (λ a. f (M.target (get_or l i (f M.start)) a)) x h in
      let m = c (get_or l i (f M.start)) t.0 (read_mem l i (f M.start) (met_start i)) t.1 in
      has_some (eqb x) l (f (M.target (get_or l i (f M.start)) t.0)) m (eq-eqb x _ t.2))

  -- Closed, or the first i rows have been gone through.
  Gone : ℕ → Type 0
  Gone i = Closed (met events M f i)
      ⊎ ((i ≤ length (met events M f i)) × ((j a : ℕ) → j < i → a < events → Mem (f (M.target (get_or (met events M f i) j (f M.start)) a)) (met events M f i)))

  all-gone : (i : ℕ) → length (met events M f i) ≤ i → Gone i → Closed (met events M f i)
  unfolding Gone
  all-gone i h (inl c) = c
  all-gone i h (inr g) = λ x a hx ha.
      let r = mem_at (met events M f i) x (f M.start) hx in
      subst (λ (y : ℕ). Mem (f (M.target y a)) (met events M f i)) r.2 (g.1 r.0 a (omega (arith, r.1)) ha)

  gone_closed : (i : ℕ) → Closed (met events M f i) → Gone (suc i)
  unfolding Gone
  gone_closed i c = inl (subst Closed (sym (closed_stays i c)) c)

  gone : (i : ℕ) → Gone i
  unfolding Gone
  gone zero = inr (omega arith, λ j a h ha. absurd (omega arith))
  gone (suc i) = pick (gone i) (dec_le (length (met events M f i)) i)
    where
      pick : Gone i → Dec (length (met events M f i) ≤ i) → Gone (suc i)
      pick g (yes h) = gone_closed i (all-gone i h g)
      pick (inl c) (no h) = gone_closed i c
      pick (inr g) (no h) =
          let m = met-more i in
          let n = length-append (met events M f i) m.0 in
          let e = ap length m.1 in
          inr (
            omega arith,
            λ j a hj ha.
                let same : get_or (met events M f (suc i)) j (f M.start) ≡ get_or (met events M f i) j (f M.start)
                = ap (λ (l : List ℕ). get_or l j (f M.start)) m.1 ∙ get_or-append (met events M f i) m.0 (f M.start) j (omega arith) in
                subst (λ (y : ℕ). Mem (f (M.target y a)) (met events M f (suc i))) (sym same) (elim (last_or_less j i hj) [
                  | inl q ↦ subst (λ (y : ℕ). Mem (f (M.target (get_or (met events M f i) y (f M.start)) a)) (met events M f (suc i))) (sym q) (met_next i a ha)
                  | inr q ↦ subst (Mem _) (sym m.1) (mem_left (met events M f i) m.0 _ (g.1 j a q ha))
                ]),
          )

  pub numbering_starts : (m : List ℕ) × (numbering events M f ≡ f M.start ∷ m)
  unfolding numbering
  numbering_starts = met_starts M.rows

  pub numbering_distinct : Distinct (numbering events M f)
  unfolding numbering
  numbering_distinct = pairwise_map (Apart eqb) ◌≢◌ (met events M f M.rows) (λ x y hx hy a e. eqb-false y x a (sym e)) (met_distinct M.rows)

  -- Where the rows that are met all belong to a closed list of at most `rows` members:
  module _ (kept : List ℕ) (start_kept : Mem (f M.start) kept) (next_kept : Closed kept) (fits : length kept ≤ M.rows) where
    met_kept : (i x : ℕ) → Mem x (met events M f i) → Mem x kept
    unfolding met
    met_kept zero x h = elim h [ inl e ↦ subst (λ (y : ℕ). Mem y kept) (sym e) start_kept | inr g ↦ absurd g ]
    met_kept (suc i) x h = step (met_kept i) x h
      where
        step : ((x : ℕ) → Mem x (met events M f i) → Mem x kept) → (x : ℕ) → Mem x (sift eqb (met events M f i) (targets (met events M f i) i)) → Mem x kept
        step ih = sift-all eqb (λ y. Mem y kept) (targets (met events M f i) i) (met events M f i) ih (λ y g.
            let t = tabulate_mem events (λ a. f (M.target (get_or (met events M f i) i (f M.start)) a)) y g in
            subst (λ (u : ℕ). Mem u kept) (sym t.2) (next_kept _ t.0 (ih _ (read_mem (met events M f i) i (f M.start) (met_start i))) t.1))

    pub numbering-kept : (x : ℕ) → Mem x (numbering events M f) → Mem x kept
    unfolding numbering
    numbering-kept = met_kept M.rows

    pub numbering-closed : Closed (numbering events M f)
    unfolding numbering
    numbering-closed = all-gone M.rows (omega (arith, subset_length (met events M f M.rows) kept numbering_distinct numbering-kept)) (gone M.rows)

    -- More turns change nothing.
    pub met-rests : (i : ℕ) → M.rows ≤ i → met events M f i ≡ numbering events M f
    unfolding numbering
    met-rests i h = le_ind (λ j. met events M f j ≡ met events M f M.rows) refl (λ j l e. closed_stays j (subst Closed (sym e) numbering-closed) ∙ e) i h

    -- Where all that are met have been gone through, nothing more is met.
    pub met-stops : (i : ℕ) → i ≤ M.rows → length (met events M f i) ≤ i → numbering events M f ≡ met events M f i
    unfolding numbering
    met-stops i h g =
        let c = all-gone i g (gone i) in
        le_ind (λ j. met events M f j ≡ met events M f i) refl (λ j l e. closed_stays j (subst Closed (sym e) c) ∙ e) M.rows h

    -- Every row that the folded machine comes to is numbered, whatever its events weigh.
    pub after-numbered : (weight : ℕ → ℕ) (w : List ℕ) (x : ℕ) → Run (record { count = events; weight = weight }) w → Mem x (numbering events M f) → Mem (after (folded M f) x w) (numbering events M f)
    after-numbered weight [] x hw h = h
    after-numbered weight (a ∷ w) x hw h = after-numbered weight w (f (M.target x a)) hw.1 (numbering-closed x a h hw.0)

    -- Where all kept rows are met, they are all numbered, and so as many as the numbers.
    module _ (weight : ℕ → ℕ) (reach : (q : ℕ) → Mem q kept → (w : List ℕ) × Leads (record { count = events; weight = weight }) (folded M f) (f M.start) q w) where
      pub kept-numbered : (q : ℕ) → Mem q kept → Mem q (numbering events M f)
      kept-numbered q h =
          let r = reach q h in
          subst (λ (y : ℕ). Mem y (numbering events M f)) r.1.ends
          (after-numbered weight r.0 (f M.start) r.1.run (subst (Mem (f M.start)) (sym numbering_starts.1) (inl refl)))

      pub numbering-length : Distinct kept → length (numbering events M f) ≡ length kept
      numbering-length dk =
          let up = subset_length kept (numbering events M f) dk kept-numbered in
          let down = subset_length (numbering events M f) kept numbering_distinct numbering-kept in
          omega arith

-- The numbering and the new table depend on the folding of the start and of the targets of rows that are met only, which are among those of P.
module _ (events : ℕ) (M : Machine) (f g : ℕ → ℕ) (P : ℕ → Type 0) (at_start : f M.start ≡ g M.start) (start_inside : P (g M.start))
    (at_Target : (x a : ℕ) → P x → a < events → f (M.target x a) ≡ g (M.target x a)) (next-in : (x a : ℕ) → P x → a < events → P (g (M.target x a))) where
  met_in : (i x : ℕ) → Mem x (met events M g i) → P x
  unfolding met
  met_in zero x h = elim h [ inl e ↦ subst P (sym e) start_inside | inr u ↦ absurd u ]
  met_in (suc i) x h = step (met_in i) x h
    where
      step : ((x : ℕ) → Mem x (met events M g i) → P x) → (x : ℕ) → Mem x (sift eqb (met events M g i) (targets events M g (met events M g i) i)) → P x
      step ih = sift-all eqb P (targets events M g (met events M g i) i) (met events M g i) ih (λ y u.
          let t = tabulate_mem events (λ a. g (M.target (get_or (met events M g i) i (g M.start)) a)) y u in
          subst P (sym t.2) (next-in _ t.0 (ih _ (read_mem (met events M g i) i (g M.start) (met_start events M g i))) t.1))

  met_same : (i : ℕ) → met events M f i ≡ met events M g i
  unfolding met
  met_same zero = ap (λ (x : ℕ). x ∷ []) at_start
  met_same (suc i) =
      let l = met events M g i in
      ap (λ (m : List ℕ). sift eqb m (targets events M f m i)) (met_same i)
      ∙ ap (λ (x : ℕ). sift eqb l (tabulate events (λ a. f (M.target (get_or l i x) a)))) at_start
      ∙ ap (sift eqb l) (tabulate-same events _ _ (λ a h. at_Target _ a (met_in i _ (read_mem l i (g M.start) (met_start events M g i))) h))

  pub numbering_same : numbering events M f ≡ numbering events M g
  unfolding numbering
  numbering_same = met_same M.rows

  number_same : (q : ℕ) → f q ≡ g q → number events M f q ≡ number events M g q
  unfolding number
  number_same q e = ap (λ (x : ℕ). place x (numbering events M f)) e ∙ ap (place (g q)) numbering_same

  pub renumbered_same : renumbered events M f ≡ renumbered events M g
  unfolding renumbered numbering
  renumbered_same =
      let l = met events M f M.rows in
      ap (λ (c : List ℕ). table l c) (tabulate-same (length l * events) _ _ (λ c h.
      let here : c < length (met events M g M.rows) * events = subst (λ (k : List ℕ). c < length k * events) (met_same M.rows) h in
      let some : 0 < events = elim (dec_le events 0) [ yes u ↦ absurd (omega (arith, none (length l) events c u h)) | no u ↦ omega arith ] in
      let m = subst (λ (k : List ℕ). Mem (get_or k (c / events) 0) (met events M g M.rows)) (sym (met_same M.rows))
      (at_mem (met events M g M.rows) (c / events) 0 ((div-lt_iff_lt-mul {k = events} some).1 here)) in
      number_same _ (at_Target _ _ (met_in M.rows _ m) (mod-lt c some))))
      ∙ ap (λ (k : List ℕ). table k (tabulate (length k * events) (λ c. number events M g (M.target (get_or k (c / events) 0) (c % events))))) (met_same M.rows)
    where
      table : List ℕ → List ℕ → Table
      table l c = record { rows = length l; events = events; start = 0; cells = c; marks = pack (map M.mark l) }

      none : (n m c : ℕ) → m ≤ 0 → c < n * m → ⊥
      none n zero c u h = absurd (omega arith)
      none n (suc m) c u h = absurd (omega arith)
