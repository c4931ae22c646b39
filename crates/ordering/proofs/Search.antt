-- There is one first run that tells two rows apart, and it is found by a search among the runs shorter than the two machines have rows together.
use mathlib.Core.Path.{◌≡◌, refl, sym, ap, subst, ◌∙◌}
use mathlib.Core.Bool.{true}
use mathlib.Core.List.{List, [], ◌∷◌}
use mathlib.Core.Logic.{◌⊎◌, inl, inr}
use Prim.Native.Nat.{ℕ, zero, suc, ◌+◌, ◌-◌, ◌≤◌, ◌<◌}
use native.Mathlib.Omega.{arith}
use native.Mathlib.Decide.{ℕ_discrete}
use lib.Dec.{eqb}
use lib.ListN.{length}
use borrow.Author.Tests.{eq-eqb}
use Rattle.automata.specs.Runs.{Events, Machine, Sound, Light, Run, after, Near}
use Rattle.automata.specs.Nearness.{rounds, near}
use Rattle.automata.proofs.Tests.{and_make, every_make, last_or_less}
use Rattle.automata.proofs.Nearness.{near_holds}
use Rattle.tables.specs.Lengths.{beside}
use Rattle.tables.proofs.Lengths.{sound_beside, left_mark, right_mark}
use Rattle.chosen.specs.Choice.{Lower}
use Rattle.ordering.specs.Order.{Sooner, SameMarks, FirstDifference}
use Rattle.ordering.proofs.Runs.{sooner_cases}

module _ {E : Events} {M N : Machine} {q p : ℕ} where
  -- There is one first difference.
  pub first_one : (v w : List ℕ) → FirstDifference E M N q p v → FirstDifference E M N q p w → v ≡ w
  first_one v w f g = elim (sooner_cases v w) [
    | inl h ↦ absurd (f.differ (g.before v f.run h))
    | inr r ↦ elim r [ inl e ↦ e | inr h ↦ absurd (g.differ (f.before w g.run h)) ]
  ]

  pub first_flip : {w : List ℕ} → FirstDifference E M N q p w → FirstDifference E N M p q w
  first_flip f = record { run = f.run; differ = λ e. f.differ (sym e); before = λ v hv h. sym (f.before v hv h) }

-- Of the numbers below c, the lowest that is of the second kind, or all are of the first.
lowest : (P Q : ℕ → Type 0) → ((a : ℕ) → P a ⊎ Q a) → (c : ℕ) → ((a : ℕ) → a < c → P a) ⊎ ((a : ℕ) × (a < c) × Q a × ((b : ℕ) → b < a → P b))
lowest P Q f zero = inl (λ a h. absurd (omega arith))
lowest P Q f (suc c) = pick (lowest P Q f c) (f c)
  where
    pick : ((a : ℕ) → a < c → P a) ⊎ ((a : ℕ) × (a < c) × Q a × ((b : ℕ) → b < a → P b)) → P c ⊎ Q c
        → ((a : ℕ) → a < suc c → P a) ⊎ ((a : ℕ) × (a < suc c) × Q a × ((b : ℕ) → b < a → P b))
    pick (inr x) d = inr (x.0, omega (arith, x.1), x.2, x.3)
    pick (inl h) (inl y) = inl (λ a l. elim (last_or_less a c l) [ inl e ↦ subst P (sym e) y | inr g ↦ h a g ])
    pick (inl h) (inr y) = inr (c, omega arith, y, h)

module _ (E : Events) (M N : Machine) where
  -- No run of n events tells q from p.
  abbrev SameAt : ℕ → ℕ → ℕ → Type 0
  SameAt n q p = (w : List ℕ) → Run E w → length w ≡ n → SameMarks M N q p w

  -- Of the runs of n events that tell q from p, the one with the lowest events.
  record FirstAt (n q p : ℕ) : Type 0 where
    by : List ℕ
    run : Run E by
    long : length by ≡ n
    differ : ¬ SameMarks M N q p by
    before : (v : List ℕ) → Run E v → length v ≡ n → Lower v by → SameMarks M N q p v

  look : (n q p : ℕ) → SameAt n q p ⊎ FirstAt n q p
  look zero q p = pick (ℕ_discrete (M.mark q) (N.mark p))
    where
      empty : (v : List ℕ) → Run E v → length v ≡ 0 → Lower v [] → SameMarks M N q p v
      empty [] hv e l = absurd l
      empty (a ∷ v) hv e l = absurd l

      same : M.mark q ≡ N.mark p → SameAt 0 q p
      same e [] hw l = e
      same e (a ∷ w) hw l = absurd (omega arith)

      pick : Dec (M.mark q ≡ N.mark p) → SameAt 0 q p ⊎ FirstAt 0 q p
      pick (yes e) = inl (same e)
      pick (no h) = inr (record { by = []; run = tt; long = refl; differ = h; before = empty })
  look (suc n) q p = pick (lowest (λ a. SameAt n (M.target q a) (N.target p a)) (λ a. FirstAt n (M.target q a) (N.target p a))
      (λ a. look n (M.target q a) (N.target p a)) E.count)
    where
      same : ((a : ℕ) → a < E.count → SameAt n (M.target q a) (N.target p a)) → SameAt (suc n) q p
      same h [] hw l = absurd (omega arith)
      same h (a ∷ w) hw l = h a hw.0 w hw.1 (omega arith)

      lower : (a : ℕ) (f : FirstAt n (M.target q a) (N.target p a)) → ((b : ℕ) → b < a → SameAt n (M.target q b) (N.target p b))
          → (v : List ℕ) → Run E v → length v ≡ suc n → Lower v (a ∷ f.by) → SameMarks M N q p v
      lower a f h [] hv e l = absurd l
      lower a f h (b ∷ v) hv e (inl l) = h b l v hv.1 (omega arith)
      lower a f h (b ∷ v) hv e (inr l) = subst (λ (x : ℕ). SameMarks M N (M.target q x) (N.target p x) v) (sym l.0) (f.before v hv.1 (omega arith) l.1)

      pick : ((a : ℕ) → a < E.count → SameAt n (M.target q a) (N.target p a))
          ⊎ ((a : ℕ) × (a < E.count) × FirstAt n (M.target q a) (N.target p a) × ((b : ℕ) → b < a → SameAt n (M.target q b) (N.target p b)))
          → SameAt (suc n) q p ⊎ FirstAt (suc n) q p
      pick (inl h) = inl (same h)
      pick (inr x) = inr (record { by = x.0 ∷ x.2.by; run = (x.1, x.2.run); long = ap suc x.2.long; differ = x.2.differ; before = lower x.0 x.2 x.3 })

  -- Among the runs of fewer than c events: none tells q from p, or here is the first that does.
  pub seek : (c q p : ℕ) → ((w : List ℕ) → Run E w → length w < c → SameMarks M N q p w) ⊎ ((w : List ℕ) × (length w < c) × FirstDifference E M N q p w)
  seek c q p = elim (lowest (λ n. SameAt n q p) (λ n. FirstAt n q p) (λ n. look n q p) c) [
    | inl h ↦ inl (λ w hw l. h (length w) l w hw refl)
    | inr x ↦ (let f = x.2 in inr (f.by, omega (arith, x.1, f.long), record { run = f.run; differ = f.differ; before = first x.0 f x.3 }))
  ]
    where
      first : (n : ℕ) (f : FirstAt n q p) → ((b : ℕ) → b < n → SameAt b q p) → (v : List ℕ) → Run E v → Sooner v f.by → SameMarks M N q p v
      first n f h v hv (inl l) = h (length v) (omega (arith, f.long)) v hv refl
      first n f h v hv (inr l) = f.before v hv (l.0 ∙ f.long) l.1

-- ---- runs shorter than there are rows are enough

rounds-all : (E : Events) (K : Machine) (j q p : ℕ) → ((w : List ℕ) → Run E w → length w ≤ j → K.mark (after K q w) ≡ K.mark (after K p w))
    → rounds E K (λ x y. eqb (K.mark x) (K.mark y)) (λ a. true) j q p ≡ true
unfolding rounds
rounds-all E K zero q p h = eq-eqb (K.mark q) (K.mark p) (h [] tt (omega arith))
rounds-all E K (suc j) q p h = and_make (eqb (K.mark q) (K.mark p)) _ (eq-eqb (K.mark q) (K.mark p) (h [] tt (omega arith)))
    (every_make E.count _ (λ a ha. rounds-all E K j (K.target q a) (K.target p a) (λ w hw l. h (a ∷ w) (ha, hw) (omega arith))))

module _ {E : Events} {M N : Machine} (s : Sound E M) (t : Sound E N) (z : Light E) {q p : ℕ} (hq : q < M.rows) (hp : p < N.rows) where
  -- If no run of fewer events than the machines have rows tells q from p, none does.
  pub enough : ((w : List ℕ) → Run E w → length w < M.rows + N.rows → SameMarks M N q p w) → Near E M N 0 q p
  unfolding near
  enough h =
      let K : Machine = beside M N in
      let r : ℕ = M.rows + p in
      let c : ℕ = M.rows + N.rows - 1 in
      let e : near E (beside M N) c 0 q r ≡ true = rounds-all E (beside M N) c q r (λ w hw l.
      left_mark s t w q hw hq ∙ h w hw (omega arith) ∙ sym (right_mark s t w r p hw refl)) in
      let n = near_holds E (beside M N) (sound_beside s t) z c (omega arith) 0 q r (omega arith) (omega arith) e in
      record { same = λ w hw hl. sym (left_mark s t w q hw hq) ∙ n.same w hw hl ∙ right_mark s t w r p hw refl }

  -- Either no run tells q from p, or here is the first that does, and it has fewer events than the machines have rows.
  pub first_or_none : Near E M N 0 q p ⊎ ((w : List ℕ) × (length w < M.rows + N.rows) × FirstDifference E M N q p w)
  first_or_none = elim (seek E M N (M.rows + N.rows) q p) [ inl h ↦ inl (enough h) | inr x ↦ inr x ]
