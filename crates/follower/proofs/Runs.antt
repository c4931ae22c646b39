-- A follower of a valid table: it refuses no event of a run, stands after the run where the table says, has counted its counted events, and answers its mark.
use mathlib.Core.Path.{◌≡◌, refl, sym, ap, ◌∙◌}
use mathlib.Core.Bool.{false}
use mathlib.Core.List.{List, [], ◌∷◌}
use Prim.Native.Nat.{ℕ, ◌+◌, ◌≤◌, ◌<◌, min}
use native.Mathlib.Decide.{dec_lt}
use native.Mathlib.Omega.{arith}
use borrow.Author.Tests.{le-leb, lt-leb}
use lib.Dec.{eqb, leb}
use lib.ListN.{length}
use Rattle.automata.specs.Runs.{Events, Sound, Run, size, after, shows}
use Rattle.automata.proofs.Runs.{after_in}
use Rattle.tables.specs.Table.{Table, Offset, offset, none, Valid, target_of, machine, events_of, weight_by}
use Rattle.tables.proofs.Reduced.{sound_of}
use Rattle.tables.proofs.Counted.{full, length_before}
use Rattle.weights.specs.Weights.{spare_bit_set}
use Rattle.weights.proofs.Counts.{full_clear}
use Rattle.rules.specs.Rules.{sound, judged, winch, row_rule, shape_checks}
use Rattle.std.specs.Prelude.{Ok}
use Rattle.rules.proofs.Judged.{judged-append}
use Rattle.following.specs.Moves.{cell_checks, advanced}
use Rattle.following.specs.declared.Next.{Next}
use Rattle.follower.specs.Follow.{begun, followed, follow, settled, shown}
use Rattle.rules.proofs.Shape.{fine_shape, valid_shape}

-- An offset's number is reached by the count exactly if it is by the run's counted length.
pub settles : (k n : ℕ) → k ≤ 65535 → settled (offset k) (min 65535 n) ≡ leb k n
settles k n h = pick (dec_lt n k)
  where
    pick : Dec (n < k) → leb k (min 65535 n) ≡ leb k n
    pick (yes g) = lt-leb k (min 65535 n) (omega arith) ∙ sym (lt-leb k n g)
    pick (no g) = le-leb k (min 65535 n) (omega arith) ∙ sym (le-leb k n (omega arith))

pub never_settles : (n : ℕ) → settled none n ≡ false
never_settles n = refl

-- A capped count takes more, and is capped again.
capped : (c m n : ℕ) → min 65535 (min 65535 (c + m) + n) ≡ min 65535 (c + (m + n))
capped c m n = omega arith

module _ (T : Table) (v : Valid T) where
  shape : judged (shape_checks winch T) ≡ sound
  shape = fine_shape winch T (valid_shape T v)

  pub begins : begun T ≡ Ok (record { row = T.start; count = 0 })
  unfolding begun
  begins = rw shape

  -- The mask of counted events has no bit that belongs to no event.
  module _ (mask : ℕ) (clear : spare_bit_set mask T.events ≡ false) where
    abbrev E : Events
    E = events_of (weight_by mask) T

    within : Sound E (machine T)
    within = sound_of (weight_by mask) T T refl v

    -- The follower after an accepted event.
    abbrev moves : ℕ → ℕ → ℕ → Next
    moves row count event = record { row = target_of T row event; count = min 65535 (count + weight_by mask event); verdict = sound }

    accepts : (row count event : ℕ) → row < T.rows → event < T.events → advanced mask T row count event ≡ moves row count event
    unfolding advanced
    accepts row count event hr he =
        rw (judged-append (shape_checks winch T) (cell_checks mask T row event), shape, lt-leb _ _ hr, clear, lt-leb _ _ he, lt-leb _ _ (within.target_inside row event hr he))

    pub never-refuses : (row count event : ℕ) → row < T.rows → event < T.events → (advanced mask T row count event).verdict ≡ sound
    never-refuses row count event hr he = ap (λ (n : Next). n.verdict) (accepts row count event hr he)

    -- A run from any row and count.
    goes : (w : List ℕ) (row count : ℕ) → Run E w → row < T.rows → count ≤ 65535
        → followed mask T row count w ≡ record { row = after (machine T) row w; count = min 65535 (count + size E w); verdict = sound }
    unfolding followed
    goes [] row count hw hr hc =
        let e : min 65535 (count + 0) ≡ count = omega arith in
        rw e
    goes (a ∷ w) row count hw hr hc =
        let m = accepts row count a hr hw.0 in
        rw (m, followed, m, ← capped count (weight_by mask a) (size E w))
        (goes w (target_of T row a) (min 65535 (count + weight_by mask a)) hw.1 (within.target_inside row a hr hw.0) (omega arith))

    -- Every event of a run is accepted; then the follower stands on the row that the run leads to, and its count is the smaller of the run's counted length and 65,535.
    pub follows : (w : List ℕ) → Run (events_of (weight_by mask) T) w
        → follow mask T w ≡ record { row = after (machine T) T.start w; count = min 65535 (size (events_of (weight_by mask) T) w); verdict = sound }
    follows w hw =
        let e : 0 + size E w ≡ size E w = omega arith in
        rw e at (goes w T.start 0 hw v.start_inside (omega arith))

    -- It answers the mark that the table shows after the run, and whether it is settled by the run's counted length.
    pub answers : (k : Offset) (w : List ℕ) → Run (events_of (weight_by mask) T) w
        → shown k T (follow mask T w).row (follow mask T w).count ≡ Ok (record { ready = eqb (shows (machine T) w) 1; settled = settled k (min 65535 (size (events_of (weight_by mask) T) w)) })
    unfolding shown
    answers k w hw =
        rw (follows w hw, judged-append (shape_checks winch T) (row_rule T.rows (after (machine T) T.start w) ∷ []), shape, lt-leb _ _ (after_in within w T.start hw v.start_inside))

  -- With every event counted it counts the events of the run, as before there was a mask.
  pub follows-before : (w : List ℕ) → Run (events_of (weight_by (full T.events)) T) w
      → follow (full T.events) T w ≡ record { row = after (machine T) T.start w; count = min 65535 (length w); verdict = sound }
  follows-before w hw =
      follows (full T.events) (full_clear T.events) w hw
      ∙ ap (λ (n : ℕ). record { row = after (machine T) T.start w; count = min 65535 n; verdict = sound }) (length_before T v w hw)
