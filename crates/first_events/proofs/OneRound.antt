-- One round over the cells of scratch: a pass in which pairs take events, and one that settles them.
use mathlib.Core.Path.{◌≡◌, refl, sym, ap, ap₂, subst, ◌∙◌}
use mathlib.Core.List.{List}
use mathlib.Core.Logic.{inl, inr}
use Prim.Native.Nat.{ℕ, suc, ◌+◌, ◌≤◌, ◌<◌}
use native.Mathlib.Omega.{arith}
use native.Mathlib.Decide.{dec_le}
use Rattle.automata.specs.Runs.{Events, Machine, Light, len, IsDistance}
use Rattle.tables.specs.Lengths.{distance}
use Rattle.tables.proofs.Lengths.{distance_is}
use Rattle.tables.proofs.Symmetry.{distance_turn, distance_self}
use Rattle.chosen.specs.declared.First.{First}
use Rattle.chosen.specs.declared.First.TheVariants.{Unsettled, Event}
use Rattle.chosen.specs.Choice.{IsChosen, head_of}
use Rattle.chosen.specs.Rounds.{Turn, Ready as IsReady}
use Rattle.chosen.proofs.Rounds.{turn-triangle, never-ready, ready-few, stage-next, stage-still, stage-all}
use Rattle.chosen.proofs.Theorems.{rounds-right}
use Rattle.pairs.specs.Pairs.{triangle, pair_at}
use Rattle.pairs.proofs.Cells.{pair_same}
use Rattle.pairs.proofs.Pairs.{pair_sym}
use Rattle.pairs.proofs.Triangle.{triangle-next}
use Rattle.measures.specs.Measures.{settled_at, cell_of, measure_in}
use Rattle.first_events.specs.declared.Pass.TheVariants.{Takes, Settles}
use Rattle.first_events.specs.Passes.{led, Ready, Taken, Settled, Before, Sweeping}
use Rattle.first_events.specs.Rounds.{first_at, Given, Reached, Complete}
use Rattle.first_events.proofs.Sweeps.{sweeping-moved, low_first}
use Rattle.first_events.proofs.Cells.{first_sym, first_own, any_two, Kind, alone, never, whole, len-one, no_end, zero-cell, event-cell, kinds, ready-to, ready-from}

module _ {E : Events} {M : Machine} {s : List ℕ} (g : Given E M s) (z : Light E) {l : ℕ} (r : Reached E M l s) where
  right : (q p : ℕ) → q < M.rows → p < M.rows → IsDistance E M q p (distance E M q p)
  right q p hq hp = distance_is g.sound z hq hp

  -- Where each run that is chosen has its beginning in the cells, they hold all.
  all_told : ((w : List ℕ) (q p d : ℕ) → q < M.rows → p < M.rows → distance E M q p ≡ len d → IsChosen E M q p d w → first_at s q p ≡ head_of w) → Complete E M s
  all_told all q p hq hp = r.cells q p hq hp ∙ ap (cell_of (distance E M q p)) (rounds-right g.sound z (distance E M) right (first_at s) l r.stage all q p hq hp)

  -- So it is after round rows − 2.
  pub told-all : M.rows ≤ l + 2 → Complete E M s
  told-all h = all_told (stage-all E M (distance E M) g.sound z right (first_at s) l r.stage h)

  -- No event is ready at rows q and p.
  abbrev None : ℕ → ℕ → Type 0
  None q p = (d b : ℕ) → distance E M q p ≡ len d → IsReady E M (distance E M) (first_at s) q p d b → ⊥

  -- What the first pass makes of a pair: it stays, or takes the lowest event that is ready.
  data Took (t : List ℕ) (q p : ℕ) : Type 0 where
    stays : pair_at t q p ≡ pair_at s q p → (first_at s q p ≡ Unsettled → None q p) → Took t q p
    takes : (d a : ℕ) → distance E M q p ≡ len d → first_at s q p ≡ Unsettled → d < 1024 → pair_at s q p ≡ d → pair_at t q p ≡ 1024 + a
        → IsReady E M (distance E M) (first_at s) q p d a → ((b : ℕ) → b < a → IsReady E M (distance E M) (first_at s) q p d b → ⊥) → Took t q p

  module _ {most : ℕ} (low : most < 1024) (far : l + 2 ≤ most) {t : List ℕ} (w : Sweeping (Takes most) E M (triangle M.rows) s t) where
    took : (q p : ℕ) → q < M.rows → p < q → Took t q p
    took q p hq hp = pick (w.done q p hq hp (omega (arith, triangle-next q M.rows hq))) (kinds g z r q p hq hr)
      where
        hr : p < M.rows
        hr = omega arith

        pick : Taken E M (pair_at s) most q p (pair_at t q p) → Kind (distance E M q p) (first_at s q p) (pair_at s q p) → Took t q p
        pick (inl y) (alone d x f c h) = stays y.1 (λ o d' b e i. omega (arith, y.0, len-one e x, ready-few E M (distance E M) g.sound z right (first_at s) l r.stage q p d' b hq hr i))
        pick (inl y) (never x f c) = stays y.1 (λ o d b e. no_end x e)
        pick (inl y) (whole d x f lo up) = stays y.1 (λ o. absurd (f o))
        pick (inr y) (never x f c) = absurd (omega (arith, y.0))
        pick (inr y) (whole d x f lo up) = absurd (omega (arith, y.0))
        pick (inr y) (alone d x f c h) = elim y.1.2 [
          | inl v ↦ takes d y.1.0 x f h c v.1
              (ready-to g z r d q p y.1.0 hq hr v.0 (subst (λ (n : ℕ). Ready E M (pair_at s) n q p y.1.0) c (y.1.1.ready v.0)))
              (λ b k i. y.1.1.none_lower b k (subst (λ (n : ℕ). Ready E M (pair_at s) n q p b) (sym c) (ready-from g z r d q p b hq hr i)))
          | inr v ↦ stays v.1 (λ o d' b e i. y.1.1.none_lower b (omega (arith, i.0, v.0))
              (subst (λ (n : ℕ). Ready E M (pair_at s) n q p b) (len-one e x ∙ sym c) (ready-from g z r d' q p b hq hr i)))
        ]

    -- A pair that is settled stays so.
    known-stays : (q p : ℕ) → q < M.rows → p < M.rows → (first_at s q p ≡ Unsettled → ⊥) → pair_at t q p ≡ pair_at s q p
    known-stays q p hq hp h = elim (sweeping-moved E M g.few_events w q p hq hp) [ inl e ↦ e | inr y ↦ absurd (h (low_first (pair_at s q p) (omega (arith, y.0)))) ]

    -- No cell stood between 1,023 and 1,056.
    gap : (q p a : ℕ) → q < M.rows → p < M.rows → pair_at s q p ≡ 1024 + a → a < 32 → ⊥
    gap q p a hq hp e h = pick (kinds g z r q p hq hp)
      where
        pick : Kind (distance E M q p) (first_at s q p) (pair_at s q p) → ⊥
        pick (alone d x f c k) = omega arith
        pick (never x f c) = omega arith
        pick (whole d x f lo up) = omega arith

    led-stays : (d q p a : ℕ) → q < M.rows → p < M.rows → IsReady E M (distance E M) (first_at s) q p d a → led E M (pair_at t) q p a ≡ led E M (pair_at s) q p a
    led-stays d q p a hq hp i = known-stays _ _ (g.sound.target_inside q a hq i.0) (g.sound.target_inside p a hp i.0) i.1

    -- The second pass can go.
    pub before-settling : Before Settles E M (pair_at t)
    before-settling q p a hq hp e h = any_two M.rows P flip own below q p hq hp a e h
      where
        P : ℕ → ℕ → Type 0
        P q p = (a : ℕ) → pair_at t q p ≡ 1024 + a → a < 32 → (a < E.count) × ((measure_in (led E M (pair_at t) q p a)).first ≡ Unsettled → ⊥)

        flip : (q p : ℕ) → q < M.rows → p < M.rows → P q p → P p q
        flip q p hq hp h a e k =
            let y = h a (pair_sym t q p ∙ e) k in
            (y.0, λ o. y.1 (ap (λ (x : ℕ). (measure_in x).first) (pair_sym t (M.target q a) (M.target p a)) ∙ o))

        own : (q : ℕ) → q < M.rows → P q q
        own q hq a e k = absurd (omega (arith, pair_same t q q refl))

        below : (q p : ℕ) → q < M.rows → p < q → P q p
        below q p hq hp a e k = pick (took q p hq hp)
          where
            pick : Took t q p → (a < E.count) × ((measure_in (led E M (pair_at t) q p a)).first ≡ Unsettled → ⊥)
            pick (stays same nothing) = absurd (gap q p a hq (omega arith) (sym same ∙ e) k)
            pick (takes d a' x f h c y i low) =
                let n : a' ≡ a = omega arith in
                let j = subst (IsReady E M (distance E M) (first_at s) q p d) n i in
                (j.0, λ o. j.1 (ap (λ (v : ℕ). (measure_in v).first) (sym (led-stays d q p a hq (omega arith) j)) ∙ o))

    -- A pair that stayed: how its turn is told, where its beginning is f.
    stayed : (q p : ℕ) → q < M.rows → p < M.rows → (F : ℕ → ℕ → First) → F q p ≡ first_at s q p → (first_at s q p ≡ Unsettled → None q p) → Turn E M (distance E M) (first_at s) F q p
    stayed q p hq hp F same nothing = pick (kinds g z r q p hq hp)
      where
        pick : Kind (distance E M q p) (first_at s q p) (pair_at s q p) → Turn E M (distance E M) (first_at s) F q p
        pick (alone d x f c h) = inr (inr (f, same ∙ f, nothing f))
        pick (never x f c) = inr (inr (f, same ∙ f, nothing f))
        pick (whole d x f lo up) = inl (f, same)

    -- ---- no pair took an event
    module _ (still : t ≡ s) where
      no-turn : (q p : ℕ) → q < M.rows → p < q → Turn E M (distance E M) (first_at s) (first_at s) q p
      no-turn q p hq hp = pick (took q p hq hp)
        where
          pick : Took t q p → Turn E M (distance E M) (first_at s) (first_at s) q p
          pick (stays same nothing) = stayed q p hq (omega arith) (first_at s) refl nothing
          pick (takes d a x f h c y i low) = absurd (omega (arith, ap (λ (l : List ℕ). pair_at l q p) still))

      pub told-last : Complete E M s
      told-last = all_told (stage-still E M (distance E M) g.sound z right (first_at s) l r.stage (first_at s) turns (λ q p hq hp. refl))
        where
          turns : (q p : ℕ) → q < M.rows → p < M.rows → Turn E M (distance E M) (first_at s) (first_at s) q p
          turns = turn-triangle E M (distance E M) g.sound (first_at s) (first_at s) (λ q p hq hp. distance_turn g.sound z q p hq hp) (first_sym s) (first_sym s) (first_own s) (first_own s) no-turn

    -- ---- some did, and are settled
    module _ {u : List ℕ} (v : Sweeping Settles E M (triangle M.rows) t u) where
      -- A pair's turn, and its cell.
      abbrev Done : ℕ → ℕ → Type 0
      Done q p = Turn E M (distance E M) (first_at s) (first_at u) q p × (pair_at u q p ≡ cell_of (distance E M q p) (first_at u q p))

      settles-none : (q p : ℕ) → q < M.rows → p < M.rows → pair_at t q p ≡ pair_at s q p → Settled E M (pair_at t) q p (pair_at u q p) → pair_at u q p ≡ pair_at s q p
      settles-none q p hq hp same (inl y) = y.1 ∙ same
      settles-none q p hq hp same (inr y) = absurd (gap q p y.0 hq hp (sym same ∙ y.1) y.2)

      settles-one : (q p d a : ℕ) → q < M.rows → p < M.rows → d < 1024 → distance E M q p ≡ len d → pair_at t q p ≡ 1024 + a → IsReady E M (distance E M) (first_at s) q p d a
          → Settled E M (pair_at t) q p (pair_at u q p) → pair_at u q p ≡ settled_at d a
      settles-one q p d a hq hp h x c i (inl y) = absurd (elim y.0 [ inl k ↦ omega arith | inr k ↦ omega (arith, i.0, g.few_events) ])
      settles-one q p d a hq hp h x c i (inr y) =
          let n : y.0 ≡ a = omega (arith, y.1) in
          let e : (measure_in (led E M (pair_at t) q p a)).distance + E.weight a ≡ d = ap (λ (k : ℕ). (measure_in k).distance + E.weight a) (led-stays d q p a hq hp i) ∙ (ready-from g z r d q p a hq hp i).less in
          let k : (measure_in (led E M (pair_at t) q p y.0)).distance + E.weight y.0 ≡ d = subst (λ (b : ℕ). (measure_in (led E M (pair_at t) q p b)).distance + E.weight b ≡ d) (sym n) e in
          elim y.3 [ inl o ↦ o.1 ∙ ap₂ settled_at k n | inr o ↦ absurd (omega (arith, o.0, k)) ]

      done : (q p : ℕ) → q < M.rows → p < q → Done q p
      done q p hq hp = pick (took q p hq hp)
        where
          hr : p < M.rows
          hr = omega arith

          turned : Settled E M (pair_at t) q p (pair_at u q p)
          turned = v.done q p hq hp (omega (arith, triangle-next q M.rows hq))

          pick : Took t q p → Done q p
          pick (stays same nothing) =
              let e = settles-none q p hq hr same turned in
              let f : first_at u q p ≡ first_at s q p = ap (λ (x : ℕ). (measure_in x).first) e in
              (stayed q p hq hr (first_at u) f nothing, e ∙ r.cells q p hq hr ∙ ap (cell_of (distance E M q p)) (sym f))
          pick (takes d a x f h c y i low) =
              let e = settles-one q p d a hq hr h x y i turned in
              let k = event-cell d a (above d a i) h (omega (arith, i.0, g.few_events)) in
              let b : first_at u q p ≡ Event a = ap (λ (n : ℕ). (measure_in n).first) e ∙ k.0 in
              (inr (inl (d, a, f, x, i, low, b)), e ∙ k.1 ∙ ap₂ cell_of (sym x) (sym b))
            where
              above : (d a : ℕ) → IsReady E M (distance E M) (first_at s) q p d a → 0 < d
              above d a i = elim (dec_le d 0) [
                | yes k ↦ absurd (never-ready E M (distance E M) g.sound z right (first_at s) l r.stage q p d a hq hr (omega arith) i)
                | no k ↦ omega arith
              ]

      pub reached-next : Reached E M (suc l) u
      reached-next = record {
        stage = stage-next E M (distance E M) g.sound z right (first_at s) l r.stage (first_at u) turns;
        cells = any_two M.rows (λ q p. pair_at u q p ≡ cell_of (distance E M q p) (first_at u q p))
            (λ q p hq hp e. pair_sym u p q ∙ e ∙ ap₂ cell_of (distance_turn g.sound z q p hq hp) (first_sym u q p))
            (λ q hq. pair_same u q q refl ∙ zero-cell ∙ ap₂ cell_of (sym (distance_self g.sound z q hq)) (sym (first_own u q)))
            (λ q p hq hp. (done q p hq hp).1);
      }
        where
          turns : (q p : ℕ) → q < M.rows → p < M.rows → Turn E M (distance E M) (first_at s) (first_at u) q p
          turns = turn-triangle E M (distance E M) g.sound (first_at s) (first_at u) (λ q p hq hp. distance_turn g.sound z q p hq hp) (first_sym s) (first_sym u) (first_own s) (first_own u) (λ q p hq hp. (done q p hq hp).0)
