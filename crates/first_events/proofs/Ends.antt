-- The first pass over the distances: it ends where round 0 does.
use mathlib.Core.Path.{◌≡◌, refl, sym, ap, ap₂, ◌∙◌}
use mathlib.Core.List.{List}
use mathlib.Core.Logic.{◌⊎◌, inl, inr}
use Prim.Native.Nat.{ℕ, ◌<◌}
use native.Mathlib.Omega.{arith}
use Rattle.automata.specs.Runs.{Events, Machine, Light, Len, len, endless}
use Rattle.tables.specs.Lengths.{distance}
use Rattle.tables.proofs.Lengths.{distance_is}
use Rattle.tables.proofs.Symmetry.{distance_turn, distance_self}
use Rattle.chosen.specs.declared.First.TheVariants.{Unsettled, End}
use Rattle.chosen.proofs.Rounds.{stage-first}
use Rattle.pairs.specs.Pairs.{triangle, pair_at}
use Rattle.pairs.proofs.Cells.{pair_same}
use Rattle.pairs.proofs.Pairs.{pair_sym}
use Rattle.pairs.proofs.Triangle.{triangle-next}
use Rattle.scratch.specs.Scratch.{len_cell}
use Rattle.measures.specs.declared.Measure.{Measure}
use Rattle.measures.specs.Measures.{settled_at, cell_of, measure_in}
use Rattle.measures.proofs.Codes.{begin_end, settled_says, Fits, cell_says}
use Rattle.measures.proofs.Cells.{far-below}
use Rattle.first_events.specs.declared.Pass.TheVariants.{Ends}
use Rattle.first_events.specs.Passes.{Ended, Sweeping}
use Rattle.first_events.specs.Rounds.{first_at, Given, Distances, Reached}
use Rattle.first_events.proofs.Cells.{first_sym, first_own, any_two, zero-cell}

-- A distance alone is its cell.
alone-cell : (x : Len) → len_cell x ≡ cell_of x Unsettled
unfolding cell_of
alone-cell (len d) = refl
alone-cell endless = refl

-- The cell of a pair at its end.
end-cell : settled_at 1 32 ≡ cell_of (len 1) End
unfolding cell_of
end-cell = refl

one-far : (x : Len) → len_cell x ≡ 1 → x ≡ len 1
one-far (len d) e = ap len e
one-far endless e = absurd (omega arith)

module _ {E : Events} {M : Machine} {s t : List ℕ} (g : Given E M s) (z : Light E) (far : Distances E M s) (w : Sweeping Ends E M (triangle M.rows) s t) where
  -- The run of rows q and p is at its end, with one event less than the distance 1.
  abbrev AtEnd : ℕ → ℕ → Type 0
  AtEnd q p = (distance E M q p ≡ len 1) × (M.mark q ≡ M.mark p → ⊥)

  -- What is known of them, and their cell.
  abbrev Known : ℕ → ℕ → Type 0
  Known q p = ((AtEnd q p × (first_at t q p ≡ End)) ⊎ ((AtEnd q p → ⊥) × (first_at t q p ≡ Unsettled))) × (pair_at t q p ≡ cell_of (distance E M q p) (first_at t q p))

  alone_fits : (q p : ℕ) (x : Len) → distance E M q p ≡ x → Fits x Unsettled
  alone_fits q p (len d) e = far-below g.sound z g.few_rows g.few_events q p d e
  alone_fits q p endless e = tt

  known : (q p : ℕ) → q < M.rows → p < M.rows → Ended E M (pair_at s) q p (pair_at t q p) → Known q p
  known q p hq hp (inl y) =
      let d = one-far (distance E M q p) (sym (far q p hq hp) ∙ y.0) in
      let f : first_at t q p ≡ End = ap (λ (x : ℕ). (measure_in x).first) y.2 ∙ ap (λ (m : Measure). m.first) (settled_says 1 32 (omega arith) (omega arith) (omega arith)) ∙ begin_end 32 refl in
      (inl ((d, y.1), f), y.2 ∙ end-cell ∙ ap₂ cell_of (sym d) (sym f))
  known q p hq hp (inr y) =
      let c = y.1 ∙ far q p hq hp ∙ alone-cell (distance E M q p) in
      let f : first_at t q p ≡ Unsettled = ap (λ (x : ℕ). (measure_in x).first) c ∙ ap (λ (m : Measure). m.first) (cell_says (distance E M q p) Unsettled (alone_fits q p (distance E M q p) refl)) in
      (inr (λ h. y.0 (far q p hq hp ∙ ap len_cell h.0, h.1), f), c ∙ ap (cell_of (distance E M q p)) (sym f))

  all_known : (q p : ℕ) → q < M.rows → p < M.rows → Known q p
  all_known = any_two M.rows Known flip own (λ q p hq hp. known q p hq (omega arith) (w.done q p hq hp (omega (arith, triangle-next q M.rows hq))))
    where
      turn : (q p : ℕ) → q < M.rows → p < M.rows → distance E M q p ≡ distance E M p q
      turn q p hq hp = distance_turn g.sound z q p hq hp

      flip : (q p : ℕ) → q < M.rows → p < M.rows → Known q p → Known p q
      flip q p hq hp y = (
        elim y.0 [
          | inl h ↦ inl ((turn p q hp hq ∙ h.0.0, λ e. h.0.1 (sym e)), first_sym t p q ∙ h.1)
          | inr h ↦ inr (λ k. h.0 (turn q p hq hp ∙ k.0, λ e. k.1 (sym e)), first_sym t p q ∙ h.1)
        ],
        pair_sym t p q ∙ y.1 ∙ ap₂ cell_of (turn q p hq hp) (first_sym t q p),
      )

      own : (q : ℕ) → q < M.rows → Known q q
      own q hq = (
        inr (λ k. k.1 refl, first_own t q),
        pair_same t q q refl ∙ zero-cell ∙ ap₂ cell_of (sym (distance_self g.sound z q hq)) (sym (first_own t q)),
      )

  pub reached-first : Reached E M 0 t
  reached-first = record {
    stage = stage-first E M (distance E M) g.sound z (λ q p hq hp. distance_is g.sound z hq hp) (first_at t)
        (λ q p hq hp. elim (all_known q p hq hp).0 [ inl h ↦ inl (h.0.0, h.0.1, h.1) | inr h ↦ inr (h.0, h.1) ]);
    cells = λ q p hq hp. (all_known q p hq hp).1;
  }
