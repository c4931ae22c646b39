-- Reading back from scratch what the search has found.
use mathlib.Core.Path.{◌≡◌, refl, ap, ◌∙◌}
use mathlib.Core.Bool.{true, false}
use mathlib.Core.List.{List}
use mathlib.Core.Logic.{inl, inr}
use Prim.Native.Nat.{ℕ, ◌≤◌, ◌<◌}
use native.Mathlib.Omega.{arith}
use lib.ListN.{length, drop}
use Rattle.automata.specs.Runs.{Events, Sound}
use Rattle.automata.proofs.Tests.{either}
use Rattle.tables.specs.Table.{Table, machine, events_of, weight_by}
use Rattle.tables.specs.Lists.{over}
use Rattle.tables.proofs.Counted.{mask_light}
use Rattle.rules.specs.Rules.{table_of}
use Rattle.pairs.specs.Pairs.{triangle, pair_at, workable}
use Rattle.pairs.proofs.Pairs.{pairs_same, pairs-at, over-pairs-length, over-pairs-drop}
use Rattle.pairs.proofs.Works.{workable-fine, workable_shape, workable_sound}
use Rattle.measures.specs.Measures.{measure_in, measure_of, cell_for}
use Rattle.measures.proofs.Cells.{cell_for_says, cell_turn, cell_self, cell_same}
use Rattle.first_events.specs.FirstEvents.{measure_cells, told}

-- The start does not matter.
module _ (mask rows events start : ℕ) (cells marks : List ℕ)
    (s : Sound (events_of (weight_by mask) (table_of rows events start cells marks)) (machine (table_of rows events start cells marks)))
    (s₀ : Sound (events_of (weight_by mask) (table_of rows events 0 cells marks)) (machine (table_of rows events 0 cells marks))) where
  pub cells_at_0 : measure_cells (weight_by mask) (table_of rows events 0 cells marks) ≡ measure_cells (weight_by mask) (table_of rows events start cells marks)
  unfolding measure_cells
  cells_at_0 =
      let T : Table = table_of rows events start cells marks in
      pairs_same _ _ rows (λ q p hq hp. cell_same s₀ s (mask_light mask T) refl (λ x a. refl) (λ x. refl) q p hq (omega arith))

module _ (mask : ℕ) (T : Table) (s : List ℕ) where
  abbrev E : Events
  E = events_of (weight_by mask) T

  pub told-not : workable T (length s) ≡ false → told mask T s ≡ s
  unfolding told
  told-not w = rw w

  module _ (w : workable T (length s) ≡ true) where
    pub told_is : told mask T s ≡ over s 0 (measure_cells (weight_by mask) T)
    unfolding told
    told_is = rw w

    room : triangle T.rows ≤ length s
    room = omega (arith, (workable-fine T (length s) w).1)

    sound : Sound E (machine T)
    sound = workable_sound T (length s) w (weight_by mask)

    -- The cell of two rows, and what it says.
    told-cell : (q p : ℕ) → q < T.rows → p < T.rows → pair_at (told mask T s) q p ≡ cell_for E (machine T) q p
    unfolding measure_cells
    told-cell q p hq hp =
        ap (λ (t : List ℕ). pair_at t q p) told_is
        ∙ pairs-at (cell_for E (machine T)) s T.rows room (cell_turn sound (mask_light mask T)) (cell_self sound (mask_light mask T)) q p hq hp

    pub told-pair : (q p : ℕ) → q < T.rows → p < T.rows → measure_in (pair_at (told mask T s) q p) ≡ measure_of E (machine T) q p
    told-pair q p hq hp =
        let h = workable_shape T (length s) w in
        ap measure_in (told-cell q p hq hp) ∙ cell_for_says sound (mask_light mask T) h.rows_fit h.events_fit q p hq hp

    written-length : length (told mask T s) ≡ length s
    unfolding measure_cells
    written-length = ap (λ (t : List ℕ). length t) told_is ∙ over-pairs-length (cell_for E (machine T)) s T.rows room

    written-rest : drop (triangle T.rows) (told mask T s) ≡ drop (triangle T.rows) s
    unfolding measure_cells
    written-rest = ap (drop (triangle T.rows)) told_is ∙ over-pairs-drop (cell_for E (machine T)) s T.rows room

  pub told-length : length (told mask T s) ≡ length s
  told-length = elim (either (workable T (length s))) [ inl w ↦ written-length w | inr w ↦ ap (λ (t : List ℕ). length t) (told-not w) ]

  pub told-rest : drop (triangle T.rows) (told mask T s) ≡ drop (triangle T.rows) s
  told-rest = elim (either (workable T (length s))) [ inl w ↦ written-rest w | inr w ↦ ap (drop (triangle T.rows)) (told-not w) ]
