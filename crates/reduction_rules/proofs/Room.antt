-- Rule 7, check by check, and what it means that no rule is broken.
use mathlib.Core.Path.{◌≡◌, sym, ◌∙◌}
use mathlib.Core.Bool.{true, false}
use mathlib.Core.List.{List, [], ◌∷◌}
use Prim.Native.Nat.{ℕ, ◌*◌, ◌≤◌, ◌<◌}
use borrow.Author.Tests.{ltb-false}
use lib.ListN.{get_or}
use Rattle.tables.specs.Table.{Table, Valid, mark_byte_count}
use Rattle.weights.specs.Weights.{spare_bit_set}
use Rattle.rules.specs.Rules.{Verdict, sound, judged, winch, mask_rule, masked_checks}
use Rattle.std.specs.Prelude.{Err}
use Rattle.rules.specs.declared.Refusal.{Refusal}
use Rattle.rules.specs.declared.Limits.{Limits}
use Rattle.rules.proofs.Checks.{unbroken, passed}
use Rattle.rules.proofs.First.{room_kept, table-refused, table-then, fine_valid, more-fine, valid_masked}
use Rattle.scratch.specs.Scratch.{workable_in}
use Rattle.scratch.proofs.Works.{valid_within}
use Rattle.reduction_rules.specs.Checks.{room_checks, verdict}

-- Where each buffer has the named length or more, rule 7 is kept.
all-fits : (need : ℕ → ℕ) (rows events cells marks records scratch : ℕ) → rows * events ≤ cells → mark_byte_count rows ≤ marks → rows ≤ records → need rows ≤ scratch
    → sound ≡ judged (room_checks need rows events cells marks records scratch)
all-fits need rows events cells marks records scratch c m r s =
    sym (rw (room_kept (rows * events) cells c, room_kept (mark_byte_count rows) marks m, room_kept rows records r, room_kept (need rows) scratch s))

-- The verdict as the code makes it: of the table's and the mask's checks with the limits given, and then of the room.
module _ (need : ℕ → ℕ) (mask : ℕ) (T : Table) (cells marks records scratch : ℕ) {L : Limits} {v : Verdict} (l : L ≡ winch) (e : v ≡ judged (masked_checks L mask T)) where
  abbrev room : List Verdict
  room = room_checks need T.rows T.events cells marks records scratch

  pub verdict-refused : (r : Refusal) → v ≡ Err r → Err r ≡ verdict need mask T cells marks records scratch
  unfolding verdict
  verdict-refused = table-refused T (mask_rule mask T.events ∷ []) l e room

  pub verdict-room : v ≡ sound → {u : Verdict} → u ≡ judged room → u ≡ verdict need mask T cells marks records scratch
  unfolding verdict
  verdict-room h g = table-then T (mask_rule mask T.events ∷ []) l e h room g

-- No rule broken: the table is valid, and each buffer is long enough.
pub record Roomy (need : ℕ → ℕ) (T : Table) (cells marks records scratch : ℕ) : Type 0 where
  pub valid : Valid T
  pub cells_fit : T.rows * T.events ≤ cells
  pub marks_fit : mark_byte_count T.rows ≤ marks
  pub records_fit : T.rows ≤ records
  pub scratch_fits : need T.rows ≤ scratch

module _ (need : ℕ → ℕ) (mask : ℕ) (T : Table) (cells marks records scratch : ℕ) (e : verdict need mask T cells marks records scratch ≡ sound) where
  pub verdict_valid : ((i : ℕ) → get_or T.marks i 0 < 256) → Valid T
  unfolding verdict
  verdict_valid bytes = fine_valid T (mask_rule mask T.events ∷ room_checks need T.rows T.events cells marks records scratch) e bytes

  pub fine-roomy : Valid T → Roomy need T cells marks records scratch
  unfolding verdict
  fine-roomy v =
      let more = mask_rule mask T.events ∷ room_checks need T.rows T.events cells marks records scratch in
      let at = passed more (more-fine T more e) in
      record {
        valid = v;
        cells_fit = ltb-false _ _ (unbroken _ _ _ (at 1));
        marks_fit = ltb-false _ _ (unbroken _ _ _ (at 2));
        records_fit = ltb-false _ _ (unbroken _ _ _ (at 3));
        scratch_fits = ltb-false _ _ (unbroken _ _ _ (at 4));
      }

pub roomy-works : {need : ℕ → ℕ} {T : Table} {cells marks records scratch : ℕ} → Roomy need T cells marks records scratch → workable_in need T scratch ≡ true
roomy-works {need} {T} {cells} {marks} {records} {scratch} h = valid_within need T scratch h.valid h.scratch_fits

-- Where two figures both fit, the verdict is one.
pub same_verdict : (need more : ℕ → ℕ) (mask : ℕ) (T : Table) (cells marks records scratch spare : ℕ) → need T.rows ≤ scratch → more T.rows ≤ spare
    → verdict need mask T cells marks records scratch ≡ verdict more mask T cells marks records spare
unfolding verdict
same_verdict need more mask T cells marks records scratch spare h g = rw (room_kept (need T.rows) scratch h, room_kept (more T.rows) spare g)

-- A mask, a valid table, and buffers that have the named lengths or more.
module _ (need : ℕ → ℕ) (mask : ℕ) (T : Table) (v : Valid T) (cells marks records scratch : ℕ) (c : T.rows * T.events ≤ cells) (m : mark_byte_count T.rows ≤ marks) (r : T.rows ≤ records) (s : need T.rows ≤ scratch) where
  -- Then the mask alone can break a rule,
  pub by_mask : verdict need mask T cells marks records scratch ≡ mask_rule mask T.events
  unfolding verdict
  by_mask =
      valid_masked mask T v (room_checks need T.rows T.events cells marks records scratch) (all-fits need T.rows T.events cells marks records scratch c m r s)

  -- and none is broken where it has no bit that belongs to no event.
  pub accepts : spare_bit_set mask T.events ≡ false → verdict need mask T cells marks records scratch ≡ sound
  accepts e = by_mask ∙ rw e
