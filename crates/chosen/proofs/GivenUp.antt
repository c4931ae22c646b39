-- A folded row has a finite distance to the row that it folds into, so what it gives up is that distance and the chosen run.
use mathlib.Core.Path.{◌≡◌, refl, sym, ap, ap₂, subst, ◌∙◌}
use mathlib.Core.Bool.{Bool, true, false, cond}
use mathlib.Core.Logic.{inl}
use Prim.Native.Nat.{ℕ, ◌*◌, ◌≤◌, ◌<◌}
use native.Mathlib.Omega.{arith}
use lib.Dec.{eqb}
use borrow.Author.Tests.{eqb-true}
use Rattle.automata.specs.Runs.{Events, Machine, Sound, Light, Near, Len, len, endless, IsDistance}
use Rattle.tables.specs.Lengths.{distance, reached}
use Rattle.tables.specs.Table.{Table, Offset, offset, none, Valid, machine, events_of}
use Rattle.tables.specs.Lists.{some as holds}
use Rattle.tables.specs.Reduction.{Fate, kept_as, folded_into, unreached, fate_by, fate_of, kept, fold, number}
use Rattle.tables.proofs.Lengths.{distance_is, reached_is}
use Rattle.tables.proofs.Folds.{folding, kept_order}
use Rattle.tables.proofs.NoOffset.{fold_none}
use Rattle.tables.proofs.Reduced.{sound_of}
use Rattle.tables.proofs.Symmetry.{distance_self}
use Rattle.tables.proofs.Theorems.{kept_itself}
use Rattle.chosen.specs.Choice.{IsChosen, chosen, run_or}
use Rattle.chosen.specs.GivenUp.{Loss, far_of, loss_of, nothing, given_as, given_up, GivesUp, IsLoss, into_by, into_of}
use Rattle.chosen.proofs.Steps.{given_up_lem, chosen_exists}
use Rattle.chosen.proofs.Theorems.{is_chosen_at, none-chosen}

module _ {E : Events} {M : Machine} (s : Sound E M) (z : Light E) where
  finite-near : {L q p : ℕ} → q < M.rows → p < M.rows → Near E M M L q p → (D : ℕ) × (distance E M q p ≡ len D)
  finite-near {L} {q} {p} hq hp n = pick (distance E M q p) refl (distance_is s z hq hp)
    where
      pick : (x : Len) → distance E M q p ≡ x → IsDistance E M q p x → (D : ℕ) × (distance E M q p ≡ len D)
      pick (len D) e h = (D, e)
      pick endless e h = absurd (h L n)

  fold_near : (k q : ℕ) → q < M.rows → reached E M q ≡ true
      → (fold E M (offset k) q < M.rows) × ((D : ℕ) × (distance E M q (fold E M (offset k) q) ≡ len D))
  fold_near k q hq u =
      let f = folding s z k in
      let r = reached_is s z q hq u in
      let hp = (kept_order s z k (fold E M (offset k) q) (f.fold_kept q r)).0 in
      (hp, finite-near hq hp (f.fold_alike q r))

  fold_finite : (k : Offset) (q : ℕ) → q < M.rows → reached E M q ≡ true
      → (fold E M k q < M.rows) × ((D : ℕ) × (distance E M q (fold E M k q) ≡ len D))
  fold_finite (offset k) q hq u = fold_near k q hq u
  fold_finite none q hq u = subst (λ (f : ℕ → ℕ). (f q < M.rows) × ((D : ℕ) × (distance E M q (f q) ≡ len D)))
      (sym (fold_none E M (2 * M.rows) (omega arith) (omega arith))) (fold_near (2 * M.rows) q hq u)

  gives_up : (q p D : ℕ) → q < M.rows → p < M.rows → distance E M q p ≡ len D → IsLoss E M q p (record { far = far_of (distance E M q p); run = run_or (chosen E M q p) })
  gives_up q p D hq hp e =
      let d : IsDistance E M q p (len D) = subst (IsDistance E M q p) e (distance_is s z hq hp) in
      let g : far_of (distance E M q p) ≡ D = ap far_of e in
      record {
        row = hp;
        distant = subst (λ (c : ℕ). IsDistance E M q p (len c)) (sym g) d;
        is_chosen = λ h.
            let x = chosen_exists s z hq hp d (omega arith) in
            let r : run_or (chosen E M q p) ≡ x.0 = ap run_or (is_chosen_at s z hq hp e x.1) in
            subst (λ (c : ℕ). IsChosen E M q p c (run_or (chosen E M q p))) (sym g) (subst (IsChosen E M q p D) (sym r) x.1);
        is_empty = λ h. let c : D ≡ 0 = omega arith in ap run_or (none-chosen s z hq hp (inl (e ∙ ap len c)));
      }

-- A loss is what is given up.
pub loss_is : {E : Events} {M : Machine} {q p : ℕ} {g : Loss} → IsLoss E M q p g → GivesUp E M q p g.far g.run
loss_is {E} {M} {q} {p} {g} x = record {
  differ = λ h. (x.is_chosen h).tells.differ;
  agree = λ h. (given_up_lem x.distant (x.is_chosen h)).1;
  counted = λ h. omega (arith, (x.is_chosen h).tells.counted);
  always = λ e v hv. x.distant.0.same v hv (omega arith);
}

-- What is known of a row with a given fate.
fate_folded : (b c : Bool) (i p r : ℕ) → fate_by b c i p ≡ folded_into r → (b ≡ true) × (p ≡ r) × (c ≡ false)
fate_folded false c i p r e = let g : ◌≡◌ {A = ℕ} 0 1 = cc in absurd (omega arith)
fate_folded true true i p r e = let g : ◌≡◌ {A = ℕ} 0 1 = cc in absurd (omega arith)
fate_folded true false i p r e = (refl, cc, refl)

-- A row gives up nothing to itself.
module _ {E : Events} {M : Machine} (s : Sound E M) (z : Light E) where
  own_loss : (q : ℕ) → q < M.rows → given_as E M q (folded_into q) ≡ nothing
  own_loss q hq =
      let e = distance_self s z q hq in
      ap₂ loss_of e (none-chosen s z hq hq (inl e))

module _ (weight : ℕ → ℕ) (light : (a : ℕ) → weight a ≤ 1) (T : Table) (v : Valid T) where
  abbrev E : Events
  E = events_of weight T

  abbrev M : Machine
  M = machine T

  -- A folded row gives up its distance to the row that it folds into, and their chosen run.
  pub given_folded : (k : Offset) (q p : ℕ) → q < T.rows → fate_of E M k q ≡ folded_into p → IsLoss E M q p (given_up weight k T q)
  unfolding fate_of given_up
  given_folded k q p hq e =
      let s = sound_of weight T T refl v in
      let z : Light (events_of weight T) = record { at_most = light } in
      let f = fate_folded (reached E M q) (holds (eqb q) (kept E M k)) (number E.count M (fold E M k) q) (fold E M k q) p e in
      let h = fold_finite s z k q hq f.0 in
      let x = subst (λ (r : ℕ). (r < T.rows) × ((D : ℕ) × (distance E M q r ≡ len D))) f.1 h in
      subst (λ (y : Fate). IsLoss E M q p (given_as E M q y)) (sym e) (gives_up s z q p x.1.0 hq x.0 x.1.1)

  -- A kept or unreached one gives up nothing.
  pub given_kept : (k : Offset) (q i : ℕ) → fate_of E M k q ≡ kept_as i → given_up weight k T q ≡ nothing
  unfolding given_up
  given_kept k q i e = ap (given_as E M q) e

  pub given_unreached : (k : Offset) (q : ℕ) → fate_of E M k q ≡ unreached → given_up weight k T q ≡ nothing
  unfolding given_up
  given_unreached k q e = ap (given_as E M q) e

  -- ---- the row into which it folds

  into-cases : (b c : Bool) (i p q : ℕ) → (b ≡ true → c ≡ eqb p q) → into_by q (fate_by b c i p) ≡ cond b p q
  into-cases false c i p q e = refl
  into-cases true true i p q e = sym (eqb-true p q (sym (e refl)))
  into-cases true false i p q e = refl

  -- A reached row folds into a kept one, perhaps itself; an unreached one stays.
  pub into_is : (k : Offset) (q : ℕ) → q < T.rows → into_of weight k T q ≡ cond (reached E M q) (fold E M k q) q
  unfolding fate_of into_of
  into_is k q hq = into-cases (reached E M q) (holds (eqb q) (kept E M k)) (number E.count M (fold E M k) q) (fold E M k q) q (kept_itself weight light T v k q hq)

  -- A folded row folds into another.
  pub folded_other : (k : Offset) (q p : ℕ) → q < T.rows → fate_of E M k q ≡ folded_into p → eqb p q ≡ false
  unfolding fate_of
  folded_other k q p hq e =
      let f = fate_folded (reached E M q) (holds (eqb q) (kept E M k)) (number E.count M (fold E M k) q) (fold E M k q) p e in
      ap (λ (r : ℕ). eqb r q) (sym f.1) ∙ sym (kept_itself weight light T v k q hq f.0) ∙ f.2

  -- It is a row, at a finite distance.
  pub into-near : (k : Offset) (q : ℕ) → q < T.rows → (into_of weight k T q < T.rows) × ((D : ℕ) × (distance E M q (into_of weight k T q) ≡ len D))
  into-near k q hq =
      let s = sound_of weight T T refl v in
      let z : Light (events_of weight T) = record { at_most = light } in
      subst (λ (p : ℕ). (p < T.rows) × ((D : ℕ) × (distance E M q p ≡ len D))) (sym (into_is k q hq)) (pick s z (reached E M q) refl)
    where
      pick : Sound E M → Light E → (b : Bool) → reached E M q ≡ b → let p = cond b (fold E M k q) q in (p < T.rows) × ((D : ℕ) × (distance E M q p ≡ len D))
      pick s z true e = fold_finite s z k q hq e
      pick s z false e = (hq, (0, distance_self s z q hq))

  given_cases : Sound E M → Light E → (q : ℕ) → q < T.rows → (f : Fate) → given_as E M q f ≡ given_as E M q (folded_into (into_by q f))
  given_cases s z q hq (folded_into p) = refl
  given_cases s z q hq (kept_as i) = sym (own_loss s z q hq)
  given_cases s z q hq unreached = sym (own_loss s z q hq)

  -- What a row gives up is its distance to that row, and their chosen run.
  pub given_into : (k : Offset) (q : ℕ) → q < T.rows
      → let p = into_of weight k T q in (distance E M q p ≡ len (given_up weight k T q).far) × ((given_up weight k T q).run ≡ run_or (chosen E M q p))
  unfolding given_up into_of
  given_into k q hq =
      let s = sound_of weight T T refl v in
      let z : Light (events_of weight T) = record { at_most = light } in
      let g = given_cases s z q hq (fate_of E M k q) in
      let n = (into-near k q hq).1 in
      (n.1 ∙ ap len (sym (ap (λ (x : Loss). x.far) g ∙ ap far_of n.1)), ap (λ (x : Loss). x.run) g)
