-- Reading the distances of a table back from scratch.
use mathlib.Core.Path.{◌≡◌, refl, sym, ap, ◌∙◌}
use mathlib.Core.Bool.{Bool, true, false, not}
use mathlib.Core.List.{List}
use mathlib.Core.Logic.{inl, inr}
use Prim.Native.Nat.{ℕ, ◌≤◌, ◌<◌}
use native.Mathlib.Omega.{arith}
use borrow.Author.Tests.{not-true, not-false}
use lib.ListN.{length, drop}
use Rattle.automata.specs.Runs.{Sound}
use Rattle.automata.proofs.Tests.{either}
use Rattle.tables.specs.Table.{Table, machine, events_of, weight_by}
use Rattle.tables.specs.Lists.{over}
use Rattle.tables.specs.Lengths.{distance}
use Rattle.rules.specs.Rules.{winch, table_of}
use Rattle.rules.proofs.Shape.{Shape}
use Rattle.pairs.specs.Pairs.{triangle, pair_at, workable}
use Rattle.scratch.specs.Scratch.{len_cell, machine_by}
use Rattle.pairs.proofs.Pairs.{pairs_same, pairs-at, over-pairs-length, over-pairs-drop}
use Rattle.pairs.proofs.Works.{workable-fine}
use Rattle.tables.proofs.Counted.{mask_light}
use Rattle.pairs.proofs.Works.{workable_shape, workable_sound}
use Rattle.distances.specs.Distances.{distance_cells, measured}
use Rattle.distances.specs.Search.{events_by, Given}
use Rattle.tables.proofs.Symmetry.{distance_turn, distance_self, distance_same}

-- The distance of two rows, in a cell.
abbrev pub cell_of : ℕ → Table → ℕ → ℕ → ℕ
cell_of mask T q p = len_cell (distance (events_of (weight_by mask) T) (machine T) q p)

-- The start does not matter.
module _ (mask rows events start : ℕ) (cells marks : List ℕ)
    (s : Sound (events_of (weight_by mask) (table_of rows events start cells marks)) (machine (table_of rows events start cells marks))) where
  pub sound_at_0 : Sound (events_of (weight_by mask) (table_of rows events 0 cells marks)) (machine (table_of rows events 0 cells marks))
  sound_at_0 = record { start_inside = omega (arith, s.start_inside); target_inside = s.target_inside }

  pub cells_at_0 : distance_cells (weight_by mask) (table_of rows events 0 cells marks) ≡ distance_cells (weight_by mask) (table_of rows events start cells marks)
  unfolding distance_cells
  cells_at_0 =
      let T : Table = table_of rows events start cells marks in
      let U : Table = table_of rows events 0 cells marks in
      pairs_same (cell_of mask U) (cell_of mask T) rows
      (λ q p hq hp. ap len_cell (distance_same sound_at_0 s (mask_light mask T) refl (λ x a. refl) (λ x. refl) q p hq (omega arith)))

module _ (mask : ℕ) (T : Table) (s : List ℕ) where
  pub measured-not : workable T (length s) ≡ false → measured mask T s ≡ s
  unfolding measured
  measured-not w = rw w

  module _ (w : workable T (length s) ≡ true) where
    pub measured-is : measured mask T s ≡ over s 0 (distance_cells (weight_by mask) T)
    unfolding measured
    measured-is = rw w

    room : triangle T.rows ≤ length s
    room = omega (arith, (workable-fine T (length s) w).1)

    pub measured-pair : (q p : ℕ) → q < T.rows → p < T.rows → pair_at (measured mask T s) q p ≡ len_cell (distance (events_of (weight_by mask) T) (machine T) q p)
    unfolding distance_cells
    measured-pair q p hq hp =
        let d = workable_sound T (length s) w (weight_by mask) in
        ap (λ (t : List ℕ). pair_at t q p) measured-is
        ∙ pairs-at (cell_of mask T) s T.rows room
        (λ x y hx hy. ap len_cell (distance_turn d (mask_light mask T) x y hx hy))
        (λ x hx. ap len_cell (distance_self d (mask_light mask T) x hx))
        q
        p
        hq
        hp

    written-length : length (measured mask T s) ≡ length s
    unfolding distance_cells
    written-length = ap (λ (t : List ℕ). length t) measured-is ∙ over-pairs-length (cell_of mask T) s T.rows room

    written-rest : drop (triangle T.rows) (measured mask T s) ≡ drop (triangle T.rows) s
    unfolding distance_cells
    written-rest = ap (drop (triangle T.rows)) measured-is ∙ over-pairs-drop (cell_of mask T) s T.rows room

  pub measured-length : length (measured mask T s) ≡ length s
  measured-length = elim (either (workable T (length s))) [ inl w ↦ written-length w | inr w ↦ ap (λ (t : List ℕ). length t) (measured-not w) ]

  pub measured-rest : drop (triangle T.rows) (measured mask T s) ≡ drop (triangle T.rows) s
  measured-rest = elim (either (workable T (length s))) [ inl w ↦ written-rest w | inr w ↦ ap (drop (triangle T.rows)) (measured-not w) ]

-- What the code's test of the table tells, in a call of the search.
module _ (mask rows events start : ℕ) (cells marks s : List ℕ) (v : Bool) (test : v ≡ workable (table_of rows events start cells marks) (length s)) where
  pub refused : not v ≡ true → (false ≡ workable (table_of rows events start cells marks) (length s)) × (s ≡ measured mask (table_of rows events start cells marks) s)
  refused e =
      let w = sym test ∙ not-true v e in
      (sym w, sym (measured-not mask (table_of rows events start cells marks) s w))

  module _ (e : not v ≡ false) where
    passed : workable (table_of rows events start cells marks) (length s) ≡ true
    passed = sym test ∙ not-false v e

    sound : Sound (events_of (weight_by mask) (table_of rows events start cells marks)) (machine (table_of rows events start cells marks))
    sound = workable_sound (table_of rows events start cells marks) (length s) passed (weight_by mask)

    pub shape : Shape winch (table_of rows events start cells marks)
    shape = workable_shape (table_of rows events start cells marks) (length s) passed

    pub given : Given (events_by mask events) (machine_by rows events cells marks) s
    given =
        record {
          sound = sound_at_0 mask rows events start cells marks sound;
          few = shape.rows_fit;
          room = room mask (table_of rows events start cells marks) s passed;
        }

    pub searched : (t : List ℕ) → t ≡ over s 0 (distance_cells (weight_by mask) (table_of rows events 0 cells marks))
        → (true ≡ workable (table_of rows events start cells marks) (length s)) × (t ≡ measured mask (table_of rows events start cells marks) s)
    searched t h = (
      sym passed,
      h ∙ ap (over s 0) (cells_at_0 mask rows events start cells marks sound) ∙ sym (measured-is mask (table_of rows events start cells marks) s passed),
    )
