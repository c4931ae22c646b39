-- The whole search: rounds one after the other, and what they leave in scratch.
use mathlib.Core.Path.{◌≡◌, refl, sym, ap, subst, ◌∙◌}
use mathlib.Core.Bool.{Bool, true, false, not, true≢false, false≢true}
use mathlib.Core.List.{List}
use Prim.Native.Nat.{ℕ, ◌+◌, ◌≤◌, ◌<◌}
use native.Mathlib.Omega.{arith}
use borrow.Author.Tests.{not-true, not-false}
use lib.ListN.{length, drop}
use Rattle.automata.specs.Runs.{Events, Machine, Sound, Light}
use Rattle.tables.specs.Lists.{over}
use Rattle.tables.specs.Table.{Table, machine, events_of, weight_by}
use Rattle.tables.proofs.Counted.{mask_light}
use Rattle.tables.proofs.Symmetry.{distance_same}
use Rattle.rules.specs.Rules.{table_of, winch}
use Rattle.rules.proofs.Shape.{Shape}
use Rattle.scratch.specs.Scratch.{len_cell, machine_by}
use Rattle.pairs.specs.Pairs.{triangle, pair_at, workable}
use Rattle.pairs.proofs.Cells.{pair_greater}
use Rattle.pairs.proofs.Pairs.{over-pairs}
use Rattle.pairs.proofs.Works.{workable-fine, workable_shape, workable_sound}
use Rattle.distances.specs.Distances.{measured}
use Rattle.distances.specs.Search.{events_by}
use Rattle.distances.proofs.Measured.{sound_at_0, measured-not, measured-pair, measured-length, measured-rest}
use Rattle.measures.specs.Measures.{cell_for}
use Rattle.first_events.specs.declared.Pass.TheVariants.{Ends, Takes, Settles}
use Rattle.first_events.specs.FirstEvents.{measure_cells, told}
use Rattle.first_events.specs.Passes.{Sweeping, Swept}
use Rattle.first_events.specs.Rounds.{Framed, Given, Distances, Reached, Complete, Rounded, Searched}
use Rattle.first_events.proofs.Told.{cells_at_0, told-not, told_is}
use Rattle.first_events.proofs.Sweeps.{sweeping_begins}
use Rattle.first_events.proofs.Ends.{reached-first}
use Rattle.first_events.proofs.OneRound.{before-settling, told-last, told-all, reached-next}

pub given_framed : {E : Events} {M : Machine} {s t : List ℕ} → Given E M s → length t ≡ length s → Given E M t
given_framed g f = record { sound = g.sound; few_rows = g.few_rows; few_events = g.few_events; room = omega (arith, f, g.room) }

module _ {E : Events} {M : Machine} {s : List ℕ} (g : Given E M s) (z : Light E) where
  -- ---- a round
  module _ {most : ℕ} (low : most < 1024) {t : List ℕ} {a : Bool} (x : Swept (Takes most) E M 0 (triangle M.rows) s t a) where
    taking : Sweeping (Takes most) E M (triangle M.rows) s t
    taking = x.goes s g.sound g.room low (sweeping_begins E M g.few_events (Takes most) s)

    pub round-none : a ≡ false → Rounded E M most s t false
    round-none e = record {
      framed = λ l f r. record { size = taking.size; rest = taking.rest };
      next = λ l f r h. absurd (false≢true h);
      last = λ l f r h. subst (Complete E M) (sym (x.kept e)) (told-last g z r low f taking (x.kept e));
    }

    module _ {u : List ℕ} {b : Bool} (y : Swept Settles E M 0 (triangle M.rows) t u b) where
      settling : (l : ℕ) → l + 2 ≤ most → Reached E M l s → Sweeping Settles E M (triangle M.rows) t u
      settling l f r = y.goes t g.sound (omega (arith, g.room, x.size)) (before-settling g z r low f taking) (sweeping_begins E M g.few_events Settles t)

      pub round-some : Rounded E M most s u true
      round-some = record {
        framed = λ l f r. let v = settling l f r in record { size = v.size ∙ taking.size; rest = v.rest ∙ taking.rest };
        next = λ l f r h. reached-next g z r low f taking (settling l f r);
        last = λ l f r h. absurd (true≢false h);
      }

  -- ---- rounds
  pub rounds-all : {t : List ℕ} (l : ℕ) → M.rows ≤ l + 2 → Framed M s t → Reached E M l t → Searched E M s t
  rounds-all l h f r = record { framed = f; complete = told-all (given_framed g f.size) z r h }

  -- ---- after the distances
  module _ (far : Distances E M s) {t : List ℕ} {a : Bool} (x : Swept Ends E M 0 (triangle M.rows) s t a) where
    ending : Sweeping Ends E M (triangle M.rows) s t
    ending = x.goes s g.sound g.room tt (sweeping_begins E M g.few_events Ends s)

    pub ends-reached : Reached E M 0 t
    ends-reached = reached-first g z far ending

-- ---- the whole of it, on a table
module _ (mask rows events start : ℕ) (cells marks s : List ℕ) where
  abbrev T : Table
  T = table_of rows events start cells marks

  abbrev E : Events
  E = events_by mask events

  abbrev M : Machine
  M = machine_by rows events cells marks

  module _ (v : Bool) (test : v ≡ workable T (length s)) where
    pub refused : not v ≡ true → {t : List ℕ} → t ≡ measured mask T s → (false ≡ workable T (length s)) × (t ≡ told mask T s)
    refused e h = let w = sym test ∙ not-true v e in (sym w, h ∙ measured-not mask T s w ∙ sym (told-not mask T s w))

    module _ (e : not v ≡ false) where
      passed : workable T (length s) ≡ true
      passed = sym test ∙ not-false v e

      sound : Sound (events_of (weight_by mask) T) (machine T)
      sound = workable_sound T (length s) passed (weight_by mask)

      sound₀ : Sound E M
      sound₀ = sound_at_0 mask rows events start cells marks sound

      pub shape : Shape winch T
      shape = workable_shape T (length s) passed

      module _ {t : List ℕ} (found : t ≡ measured mask T s) where
        pub given : Given E M t
        given = record {
          sound = sound₀;
          few_rows = shape.rows_fit;
          few_events = shape.events_fit;
          room = omega (arith, (workable-fine T (length s) passed).1, ap (λ (l : List ℕ). length l) found, measured-length mask T s);
        }

        pub distances-found : Distances E M t
        distances-found q p hq hp =
            ap (λ (l : List ℕ). pair_at l q p) found
            ∙ measured-pair mask T s passed q p hq hp
            ∙ ap len_cell (sym (distance_same sound₀ sound (mask_light mask T) refl (λ x a. refl) (λ x. refl) q p hq hp))

        pub searched : {u : List ℕ} → Searched E M t u → (true ≡ workable T (length s)) × (u ≡ told mask T s)
        unfolding measure_cells
        searched {u} y = (
          sym passed,
          over-pairs (cell_for E M) s u rows (omega (arith, given.room, y.framed.size))
              (λ q p hq hp. sym (pair_greater u q p hp) ∙ y.complete q p hq (omega arith))
              (y.framed.rest ∙ ap (drop (triangle rows)) found ∙ measured-rest mask T s)
              ∙ ap (over s 0) (cells_at_0 mask rows events start cells marks sound sound₀)
              ∙ sym (told_is mask T s passed),
        )
