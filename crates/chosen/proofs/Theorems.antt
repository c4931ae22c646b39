-- `chosen` computes the chosen run; it is walked by first events.
use mathlib.Core.Path.{◌≡◌, refl, ap, subst, ◌∙◌}
use mathlib.Core.List.{List, ◌∷◌}
use mathlib.Core.Option.{Option, some, none}
use mathlib.Core.Logic.{◌⊎◌, inl, inr}
use Prim.Native.Nat.{ℕ, zero, suc, ◌+◌, ◌≤◌, ◌<◌}
use native.Mathlib.Omega.{arith}
use lib.ListN.{length}
use Rattle.automata.specs.Runs.{Events, Machine, Sound, Light, Len, len, endless, IsDistance}
use Rattle.tables.specs.Lengths.{distance}
use Rattle.tables.proofs.Lengths.{distance_is, distance-one}
use Rattle.tables.proofs.Symmetry.{distance_turn}
use Rattle.chosen.specs.declared.First.{First}
use Rattle.chosen.specs.Choice.{IsChosen, head_of, first_some, look_at, chosen_at, chosen, head_or}
use Rattle.chosen.proofs.Search.{Sought, seek_is, chosen-one}
use Rattle.chosen.proofs.Steps.{chosen_flip, chosen_begins, chosen_exists}
use Rattle.chosen.proofs.Bound.{chosen_short}
use Rattle.chosen.specs.Rounds.{Stage}

-- w is the chosen run of rows q and p at their distance.
pub record Is (E : Events) (M : Machine) (q p : ℕ) (w : List ℕ) : Type 0 where
  pub far : ℕ
  pub distant : distance E M q p ≡ len far
  pub is_chosen : IsChosen E M q p far w
  pub short : length w + 2 ≤ M.rows

module _ {E : Events} {M : Machine} (s : Sound E M) (z : Light E) {q p : ℕ} (hq : q < M.rows) (hp : p < M.rows) where
  at-distance : {x : Len} → distance E M q p ≡ x → IsDistance E M q p x
  at-distance e = subst (IsDistance E M q p) e (distance_is s z hq hp)

  -- The answer at the distance x.
  Answer : Len → Option (List ℕ) → Type 0
  Answer x (some w) = Is E M q p w
  Answer x none = (x ≡ len 0) ⊎ (x ≡ endless)

  answers : (x : Len) → distance E M q p ≡ x → Answer x (chosen_at E M q p x)
  unfolding chosen_at Answer
  answers endless e = inr refl
  answers (len d) e = pick (first_some M.rows (λ i. look_at E M i d q p)) (seek_is E M d q p M.rows)
    where
      known : IsDistance E M q p (len d)
      known = at-distance e

      pick : (y : Option (List ℕ)) → Sought E M M.rows d q p y → Answer (len d) y
      pick (some w) h = record { far = d; distant = e; is_chosen = h.0; short = chosen_short s z hq hp known.0 h.0 }
      pick none h = inl (zero_of d refl)
        where
          zero_of : (c : ℕ) → d ≡ c → ◌≡◌ {A = Len} (len d) (len 0)
          zero_of zero g = ap len g
          zero_of (suc c) g =
              let x = chosen_exists s z hq hp known (omega arith) in
              absurd (omega (arith, h x.0 x.1.tells, chosen_short s z hq hp known.0 x.1))

  -- `chosen` is the chosen run,
  pub chosen_is : (w : List ℕ) → chosen E M q p ≡ some w → Is E M q p w
  unfolding chosen Answer
  chosen_is w e = subst (Answer (distance E M q p)) e (answers (distance E M q p) refl)

  -- and there is none just where the distance is 0 or endless.
  pub chosen_none : chosen E M q p ≡ none → (distance E M q p ≡ len 0) ⊎ (distance E M q p ≡ endless)
  unfolding chosen Answer
  chosen_none e = subst (Answer (distance E M q p)) e (answers (distance E M q p) refl)

  pub none-chosen : (distance E M q p ≡ len 0) ⊎ (distance E M q p ≡ endless) → chosen E M q p ≡ none
  none-chosen h = pick (chosen E M q p) refl
    where
      pick : (y : Option (List ℕ)) → chosen E M q p ≡ y → chosen E M q p ≡ none
      pick none e = e
      pick (some w) e = absurd (elim h [
        | inl g ↦ (let x = chosen_is w e in let k : x.far ≡ 0 = cc (x.distant, g) in omega (arith, x.is_chosen.tells.counted))
        | inr g ↦ (let x = chosen_is w e in let k : ◌≡◌ {A = ℕ} 0 1 = cc (x.distant, g) in omega arith)
      ])

  -- A chosen run at the distance is what `chosen` computes.
  pub is_chosen_at : {d : ℕ} {w : List ℕ} → distance E M q p ≡ len d → IsChosen E M q p d w → chosen E M q p ≡ some w
  is_chosen_at {d} {w} e x = pick (chosen E M q p) refl
    where
      pick : (y : Option (List ℕ)) → chosen E M q p ≡ y → chosen E M q p ≡ some w
      pick (some v) g =
          let i = chosen_is v g in
          let k : i.far ≡ d = cc (i.distant, e) in
          g ∙ ap some (chosen-one (subst (λ (c : ℕ). IsChosen E M q p c v) k i.is_chosen) x)
      pick none g = absurd (elim (chosen_none g) [
        | inl h ↦ (let k : d ≡ 0 = cc (e, h) in omega (arith, x.tells.counted))
        | inr h ↦ (let k : ◌≡◌ {A = ℕ} 0 1 = cc (e, h) in omega arith)
      ])

-- ---- two rows exchanged, and the rest of a run

module _ {E : Events} {M : Machine} (s : Sound E M) (z : Light E) where
  -- The two rows may be exchanged.
  pub chosen_flipped : {q p : ℕ} → q < M.rows → p < M.rows → chosen E M q p ≡ chosen E M p q
  chosen_flipped {q} {p} hq hp = pick (chosen E M p q) refl
    where
      pick : (y : Option (List ℕ)) → chosen E M p q ≡ y → chosen E M q p ≡ y
      pick (some w) e = let x = chosen_is s z hp hq w e in is_chosen_at s z hq hp (distance_turn s z q p hq hp ∙ x.distant) (chosen_flip x.is_chosen)
      pick none e = none-chosen s z hq hp (elim (chosen_none s z hp hq e) [ inl g ↦ inl (distance_turn s z q p hq hp ∙ g) | inr g ↦ inr (distance_turn s z q p hq hp ∙ g) ])

  -- Its first event begins it as `Begins` says, and the rest is the chosen run of the targets.
  pub chosen-next : {q p a : ℕ} {v : List ℕ} → q < M.rows → p < M.rows → chosen E M q p ≡ some (a ∷ v)
      → (a < E.count) × (chosen E M (M.target q a) (M.target p a) ≡ some v)
  chosen-next {q} {p} {a} {v} hq hp e =
      let x = chosen_is s z hq hp (a ∷ v) e in
      let b = chosen_begins (at-distance s z hq hp x.distant) x.is_chosen in
      let ha = b.is_event in
      let hq' = s.target_inside q a hq ha in
      let hp' = s.target_inside p a hp ha in
      (ha, is_chosen_at s z hq' hp' (distance-one E M _ _ _ _ (distance_is s z hq' hp') b.distant) b.rest)

  -- What the rounds end with is the head of `chosen`, at every pair.
  module _ (D : ℕ → ℕ → Len) (right : (q p : ℕ) → q < M.rows → p < M.rows → IsDistance E M q p (D q p)) (F : ℕ → ℕ → First) (l : ℕ) (g : Stage E M D F l)
      (all : (w : List ℕ) (q p d : ℕ) → q < M.rows → p < M.rows → D q p ≡ len d → IsChosen E M q p d w → F q p ≡ head_of w) where
    pub rounds-right : (q p : ℕ) → q < M.rows → p < M.rows → F q p ≡ head_or (chosen E M q p)
    rounds-right q p hq hp = pick (chosen E M q p) refl
      where
        known : D q p ≡ distance E M q p
        known = distance-one E M q p _ _ (right q p hq hp) (distance_is s z hq hp)

        zero-at : (d : ℕ) → (distance E M q p ≡ len 0) ⊎ (distance E M q p ≡ endless) → D q p ≡ len d → d ≡ 0
        zero-at d (inl h) e = cc known
        zero-at d (inr h) e = let k : ◌≡◌ {A = ℕ} 0 1 = cc known in absurd (omega arith)

        pick : (y : Option (List ℕ)) → chosen E M q p ≡ y → F q p ≡ head_or y
        pick (some w) e = let x = chosen_is s z hq hp w e in all w q p x.far hq hp (known ∙ x.distant) x.is_chosen
        pick none e = g.never q p hq hp (λ d h. zero-at d (chosen_none s z hq hp e) h)
