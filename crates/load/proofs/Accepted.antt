-- "Every such table is accepted by the reducer".
use mathlib.Core.Path.{◌≡◌, refl, ◌∙◌}
use mathlib.Core.Bool.{false}
use mathlib.Core.List.{List, ◌∷◌, ◌++◌}
use mathlib.Core.Logic.{◌⊎◌, inl, inr}
use Prim.Native.Nat.{ℕ, ◌*◌, ◌≤◌}
use native.Mathlib.Omega.{arith}
use native.Mathlib.Decide.{dec_lt}
use Rattle.tables.specs.Table.{mark_byte_count}
use Rattle.weights.specs.Weights.{spare_bit_set}
use Rattle.rules.specs.Rules.{Verdict, sound, refusal, and_then, judged, winch, room_rule, mask_rule, masked_checks}
use Rattle.std.specs.Prelude.{Err}
use Rattle.rules.specs.declared.Rule.TheVariants.{Room}
use Rattle.rules.proofs.First.{room_broken, room_kept, valid_then}
use Rattle.reduction_rules.specs.Checks.{room_checks, verdict}
use Rattle.reduction_rules.proofs.Room.{accepts}
use Rattle.load.specs.Load.{load}
use Rattle.load.proofs.Valid.{load_valid}

-- Nothing is broken, or rule 7 is.
abbrev pub AtMostSeven : Verdict → Type 0
AtMostSeven v = (v ≡ sound) ⊎ (v ≡ Err (refusal Room 0))

one-room : (needed given : ℕ) (v : Verdict) → AtMostSeven v → AtMostSeven (and_then (room_rule needed given) v)
one-room needed given v h = elim (dec_lt given needed) [
  | yes g ↦ rw (room_broken needed given g) (inr refl)
  | no g ↦ rw (room_kept needed given (omega arith)) h
]

all_rooms : (need : ℕ → ℕ) (rows events cells marks records scratch : ℕ) → AtMostSeven (judged (room_checks need rows events cells marks records scratch))
all_rooms need rows events cells marks records scratch =
    one-room (rows * events) cells _ (one-room (mark_byte_count rows) marks _ (one-room rows records _ (one-room (need rows) scratch sound (inl refl))))

-- A table that was drawn, and a mask below its events.
module _ (seed rows events mask : ℕ) (some_row : 1 ≤ rows) (rows_fit : rows ≤ 1024) (some_event : 1 ≤ events) (events_fit : events ≤ 32) (below : spare_bit_set mask events ≡ false) where
  -- It breaks none of the rules 1 to 6 and 16: what a call checks beside decides.
  pub load_passes : (more : List Verdict) → judged (masked_checks winch mask (load seed rows events) ++ more) ≡ judged more
  unfolding load
  load_passes more = valid_then (load seed rows events) (load_valid seed rows events some_row rows_fit some_event events_fit) (mask_rule mask events ∷ more) ∙ rw below

  module _ (need : ℕ → ℕ) (cells marks records scratch : ℕ) where
    -- The reducer refuses it by no rule but 7, however much scratch a call needs,
    pub load-reducible : AtMostSeven (verdict need mask (load seed rows events) cells marks records scratch)
    unfolding load verdict
    load-reducible = rw (load_passes (room_checks need rows events cells marks records scratch)) (all_rooms need rows events cells marks records scratch)

    -- and by none where the buffers have the named lengths.
    pub load-accepted : rows * events ≤ cells → mark_byte_count rows ≤ marks → rows ≤ records → need rows ≤ scratch
        → verdict need mask (load seed rows events) cells marks records scratch ≡ sound
    unfolding load
    load-accepted c m r s = accepts need mask (load seed rows events) (load_valid seed rows events some_row rows_fit some_event events_fit) cells marks records scratch c m r s below
