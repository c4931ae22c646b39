-- One pair's turn in each pass, as the code's tests tell it.
use mathlib.Core.Path.{◌≡◌, sym, ap, ap₂, ◌∙◌}
use mathlib.Core.Bool.{false, false≢true}
use mathlib.Core.List.{List}
use mathlib.Core.Logic.{inl, inr}
use Prim.Native.Nat.{ℕ, ◌+◌, ◌≤◌, ◌<◌}
use native.Mathlib.Omega.{arith}
use borrow.Author.Tests.{eqb-true, eqb-false}
use lib.Dec.{eqb}
use Rattle.automata.specs.Runs.{Events, Machine}
use Rattle.row_starts.specs.RowStarts.{starts_of_rows}
use Rattle.pairs.specs.Pairs.{start_in, pair_from, pair_at}
use Rattle.chosen.specs.declared.First.TheVariants.{Unsettled}
use Rattle.scratch.specs.Tests.{Tested}
use Rattle.measures.specs.declared.Measure.{Measure}
use Rattle.measures.specs.Measures.{settled_at, measure_in}
use Rattle.measures.proofs.Cells.{measure_read}
use Rattle.first_events.specs.Passes.{led, Ready, Settled}

-- What is read of the rows to which an event leads.
pub led_right : (E : Events) (M : Machine) (s starts : List ℕ) (q p a : ℕ) {i j : ℕ} {m : Measure} → starts ≡ starts_of_rows → i ≡ M.target q a → j ≡ M.target p a
    → m ≡ measure_in (pair_from (start_in starts) s i j) → m ≡ measure_in (led E M (pair_at s) q p a)
led_right E M s starts q p a {i} {j} e hi hj h = measure_read starts s i j e h ∙ ap measure_in (ap₂ (pair_at s) hi hj)

module _ (E : Events) (M : Machine) (c : ℕ → ℕ → ℕ) (q p : ℕ) where
  -- ---- a round
  module _ {d a : ℕ} {m : Measure} (hm : m ≡ measure_in (led E M c q p a)) where
    pub ready-not : m.first ≡ Unsettled → Tested false (Ready E M c d q p a)
    ready-not e = record { holds = λ x. absurd (false≢true x); fails = λ x r. r.known (ap (λ (z : Measure). z.first) (sym hm) ∙ e) }

    pub ready-test : (m.first ≡ Unsettled → ⊥) → {w : ℕ} → w ≡ E.weight a → Tested (eqb (m.distance + w) d) (Ready E M c d q p a)
    ready-test known {w} hw = record {
      holds = λ y. record { known = λ z. known (ap (λ (z : Measure). z.first) hm ∙ z); less = sym far ∙ eqb-true (m.distance + w) d y };
      fails = λ y z. eqb-false (m.distance + w) d y (far ∙ z.less);
    }
      where
        far : m.distance + w ≡ (measure_in (led E M c q p a)).distance + E.weight a
        far = ap₂ ◌+◌ (ap (λ (z : Measure). z.distance) hm) hw

  -- ---- after it
  module _ {x a w : ℕ} {m : Measure} (e : x ≡ c q p) (ha : x ≡ 1024 + a) (few : a < 32) (hm : m ≡ measure_in (led E M c q p a)) (hw : w ≡ E.weight a) where
    far : m.distance + w ≡ (measure_in (led E M c q p a)).distance + E.weight a
    far = ap₂ ◌+◌ (ap (λ (z : Measure). z.distance) hm) hw

    pub settled-not : 1024 ≤ m.distance + w → Settled E M c q p x
    settled-not h = inr (a, sym e ∙ ha, few, inr (omega (arith, far), e))

    pub settled-now : {r : ℕ} → m.distance + w < 1024 → r ≡ settled_at (m.distance + w) a → Settled E M c q p r
    settled-now h k = inr (a, sym e ∙ ha, few, inl (omega (arith, far), k ∙ ap (λ (y : ℕ). settled_at y a) far))
