-- What the cells of scratch say after a round.
use mathlib.Core.Path.{◌≡◌, refl, sym, ap, subst, ◌∙◌}
use mathlib.Core.List.{List}
use mathlib.Core.Logic.{⊎_elim}
use Prim.Native.Nat.{ℕ, zero, suc, ◌+◌, ◌-◌, ◌≤◌, ◌<◌}
use native.Mathlib.Omega.{arith}
use native.Mathlib.Decide.{dec_le}
use lib.ListN.{length}
use Rattle.automata.specs.Runs.{Events, Machine, Light, Len, len, endless, IsDistance}
use Rattle.tables.specs.Lengths.{distance}
use Rattle.tables.proofs.Lengths.{distance_is}
use Rattle.chosen.specs.declared.First.{First}
use Rattle.chosen.specs.declared.First.TheVariants.{Unsettled, End, Event}
use Rattle.chosen.specs.Rounds.{Ready as IsReady}
use Rattle.chosen.proofs.Rounds.{ready-distance}
use Rattle.chosen.proofs.Steps.{chosen_exists}
use Rattle.pairs.specs.Pairs.{pair_at}
use Rattle.pairs.proofs.Cells.{pair_same}
use Rattle.pairs.proofs.Pairs.{pair_sym}
use Rattle.scratch.specs.Scratch.{len_cell}
use Rattle.measures.specs.declared.Measure.{Measure}
use Rattle.measures.specs.Measures.{settled_at, cell_of, measure_in}
use Rattle.measures.proofs.Codes.{begin_event, read_low, settled_range, settled_says, Fits, cell_says}
use Rattle.measures.proofs.Cells.{run_fits, far-below}
use Rattle.scratch.proofs.Numbers.{lt_or_ge}
use Rattle.first_events.specs.Passes.{Ready}
use Rattle.first_events.specs.Rounds.{first_at, Given, Reached}

pub first_sym : (s : List ℕ) (q p : ℕ) → first_at s q p ≡ first_at s p q
first_sym s q p = ap (λ (x : ℕ). (measure_in x).first) (pair_sym s q p)

pub first_own : (s : List ℕ) (q : ℕ) → first_at s q q ≡ Unsettled
first_own s q = ap (λ (x : ℕ). (measure_in x).first) (pair_same s q q refl) ∙ ap (λ (m : Measure). m.first) (read_low 0 (omega arith))

-- What holds of each row and each lower one, both ways round, and of a row and itself, holds of any two rows.
pub any_two : (n : ℕ) (P : ℕ → ℕ → Type 0) → ((q p : ℕ) → q < n → p < n → P q p → P p q) → ((q : ℕ) → q < n → P q q) → ((q p : ℕ) → q < n → p < q → P q p)
    → (q p : ℕ) → q < n → p < n → P q p
any_two n P flip own below q p hq hp =
    ⊎_elim
    (λ l. below q p hq l)
    (λ g. ⊎_elim (λ l. flip p q hp hq (below p q hp l)) (λ k. let e : p ≡ q = omega arith in subst (P q) (sym e) (own q hq)) (lt_or_ge q p))
    (lt_or_ge p q)

-- A cell below 1,024 is a distance alone; one from 1,056 on is endless or settled; there is none between.
pub data Kind (x : Len) (f : First) (c : ℕ) : Type 0 where
  alone : (d : ℕ) → x ≡ len d → f ≡ Unsettled → c ≡ d → d < 1024 → Kind x f c
  never : x ≡ endless → f ≡ Unsettled → c ≡ 65535 → Kind x f c
  whole : (d : ℕ) → x ≡ len d → (f ≡ Unsettled → ⊥) → 1056 ≤ c → c < 34815 → Kind x f c

kind : (x : Len) (f : First) → Fits x f → Kind x f (cell_of x f)
unfolding cell_of
kind endless Unsettled h = never refl refl refl
kind endless End h = absurd h
kind endless (Event a) h = absurd h
kind (len d) Unsettled h = alone d refl refl refl h
kind (len d) End h = let r = settled_range d 32 h.0 h.1 (omega arith) in whole d refl (λ e. cc) r.0 r.1
kind (len d) (Event a) h = let r = settled_range d a h.0 h.1 (omega (arith, h.2)) in whole d refl (λ e. cc) r.0 r.1

pub len-one : {x : Len} {c d : ℕ} → x ≡ len c → x ≡ len d → c ≡ d
len-one e f = cc

pub no_end : {A : Type 0} {x : Len} {d : ℕ} → x ≡ endless → x ≡ len d → A
no_end e f = let g : ◌≡◌ {A = ℕ} 0 1 = cc in absurd (omega arith)

-- The cell of a row and itself, and that of a pair that is settled by an event.
pub zero-cell : ◌≡◌ {A = ℕ} 0 (cell_of (len 0) Unsettled)
unfolding cell_of
zero-cell = refl

pub event-cell : (d a : ℕ) → 0 < d → d < 1024 → a < 32 → ((measure_in (settled_at d a)).first ≡ Event a) × (settled_at d a ≡ cell_of (len d) (Event a))
unfolding cell_of
event-cell d a p h k = (ap (λ (m : Measure). m.first) (settled_says d a p h (omega arith)) ∙ begin_event a (λ e. omega arith), refl)

module _ {E : Events} {M : Machine} {s : List ℕ} (g : Given E M s) (z : Light E) {l : ℕ} (r : Reached E M l s) where
  fits : (q p : ℕ) → q < M.rows → p < M.rows → Fits (distance E M q p) (first_at s q p)
  fits q p hq hp = pick (distance E M q p) refl
    where
      pick : (x : Len) → distance E M q p ≡ x → Fits x (first_at s q p)
      pick endless e = subst (Fits endless) (sym (r.stage.never q p hq hp (λ d h. no_end e h))) tt
      pick (len zero) e = subst (Fits (len 0)) (sym (r.stage.never q p hq hp (λ d h. len-one h e))) (omega arith)
      pick (len (suc d)) e =
          let so = g.sound in
          let few = far-below so z g.few_rows g.few_events q p (suc d) e in
          let x = chosen_exists so z hq hp (subst (IsDistance E M q p) e (distance_is so z hq hp)) (omega arith) in
          elim (dec_le (length x.0) l) [
            | yes k ↦ subst (Fits (len (suc d))) (sym (r.stage.settled q p (suc d) x.0 hq hp e x.1 k)) (run_fits so z g.few_rows g.few_events q p (suc d) x.0 few x.1)
            | no k ↦ subst (Fits (len (suc d))) (sym (r.stage.later q p (suc d) x.0 hq hp e x.1 (omega arith))) few
          ]

  pub kinds : (q p : ℕ) → q < M.rows → p < M.rows → Kind (distance E M q p) (first_at s q p) (pair_at s q p)
  kinds q p hq hp = subst (Kind (distance E M q p) (first_at s q p)) (sym (r.cells q p hq hp)) (kind (distance E M q p) (first_at s q p) (fits q p hq hp))

  pub says : (q p : ℕ) → q < M.rows → p < M.rows → (measure_in (pair_at s q p)).distance ≡ len_cell (distance E M q p)
  says q p hq hp = ap (λ (x : ℕ). (measure_in x).distance) (r.cells q p hq hp) ∙ ap (λ (m : Measure). m.distance) (cell_says (distance E M q p) (first_at s q p) (fits q p hq hp))

  -- An event is ready in the cells just if it is so.
  pub ready-to : (d q p a : ℕ) → q < M.rows → p < M.rows → a < E.count → Ready E M (pair_at s) d q p a → IsReady E M (distance E M) (first_at s) q p d a
  ready-to d q p a hq hp ha y = (ha, y.known, pick (kinds i j hi hj))
    where
      i : ℕ
      i = M.target q a

      j : ℕ
      j = M.target p a

      hi : i < M.rows
      hi = g.sound.target_inside q a hq ha

      hj : j < M.rows
      hj = g.sound.target_inside p a hp ha

      pick : Kind (distance E M i j) (first_at s i j) (pair_at s i j) → distance E M i j ≡ len (d - E.weight a)
      pick (alone e x f c h) = absurd (y.known f)
      pick (never x f c) = absurd (y.known f)
      pick (whole e x f lo up) =
          let k : e + E.weight a ≡ d = ap (λ (n : ℕ). n + E.weight a) (sym (says i j hi hj ∙ ap len_cell x)) ∙ y.less in
          let m : e ≡ d - E.weight a = omega (arith, k) in
          x ∙ ap len m

  pub ready-from : (d q p a : ℕ) → q < M.rows → p < M.rows → IsReady E M (distance E M) (first_at s) q p d a → Ready E M (pair_at s) d q p a
  ready-from d q p a hq hp y =
      let hi = g.sound.target_inside q a hq y.0 in
      let hj = g.sound.target_inside p a hp y.0 in
      record {
        known = y.1;
        less = ap (λ (n : ℕ). n + E.weight a) (says _ _ hi hj ∙ ap len_cell y.2)
            ∙ ready-distance E M (distance E M) g.sound z (λ q p hq hp. distance_is g.sound z hq hp) (first_at s) l r.stage q p d a (d - E.weight a) hq hp y y.2;
      }
