-- Rules 7 and 13, and what it means that no rule is broken.
use mathlib.Core.Path.{◌≡◌, sym, ◌∙◌}
use mathlib.Core.Bool.{false}
use mathlib.Core.List.{[], ◌∷◌}
use Prim.Native.Nat.{ℕ, ◌≤◌, ◌<◌}
use native.Mathlib.Omega.{arith}
use borrow.Author.Tests.{lt-ltb, le-ltb, ltb-false}
use lib.ListN.{get_or}
use Rattle.tables.specs.Table.{Table, Valid}
use Rattle.weights.specs.Weights.{spare_bit_set}
use Rattle.rules.specs.Rules.{Verdict, sound, refusal, judged, winch, mask_rule, masked_checks}
use Rattle.std.specs.Prelude.{Err}
use Rattle.rules.specs.declared.Rule.TheVariants.{List, Room}
use Rattle.rules.specs.declared.Refusal.{Refusal}
use Rattle.rules.specs.declared.Limits.{Limits}
use Rattle.rules.proofs.Checks.{unbroken, passed}
use Rattle.rules.proofs.First.{room_broken, room_kept, table-refused, table-then, fine_valid, more-fine, valid_masked}
use Rattle.pairs.specs.Pairs.{needed}
use Rattle.scratch.specs.Scratch.{scratch_cells}
use Rattle.pairs.proofs.Triangle.{needed-value}
use Rattle.sheet_rules.specs.Checks.{entries, room_checks, verdict}

-- The checks stop at the first buffer that is short.
module _ (rows list scratch : ℕ) where
  pub short_scratch : scratch < needed rows → Err (refusal Room 0) ≡ judged (room_checks rows list scratch)
  short_scratch h =
      let g : scratch < scratch_cells rows = omega (arith, needed-value rows) in
      sym (rw (room_broken (scratch_cells rows) scratch g))

  module _ (s : needed rows ≤ scratch) where
    scratch_fits : scratch_cells rows ≤ scratch
    scratch_fits = omega (arith, needed-value rows)

    pub short_list : list < entries rows → Err (refusal List 0) ≡ judged (room_checks rows list scratch)
    short_list h = sym (rw (room_kept (scratch_cells rows) scratch scratch_fits, lt-ltb list (entries rows) h))

    pub all-fits : entries rows ≤ list → sound ≡ judged (room_checks rows list scratch)
    all-fits h = sym (rw (room_kept (scratch_cells rows) scratch scratch_fits, le-ltb list (entries rows) h))

-- The verdict as the code makes it.
module _ (mask : ℕ) (T : Table) (list scratch : ℕ) {L : Limits} {v : Verdict} (l : L ≡ winch) (e : v ≡ judged (masked_checks L mask T)) where
  pub verdict-refused : (r : Refusal) → v ≡ Err r → Err r ≡ verdict mask T list scratch
  unfolding verdict
  verdict-refused = table-refused T (mask_rule mask T.events ∷ []) l e (room_checks T.rows list scratch)

  pub verdict-room : v ≡ sound → {u : Verdict} → u ≡ judged (room_checks T.rows list scratch) → u ≡ verdict mask T list scratch
  unfolding verdict
  verdict-room h g = table-then T (mask_rule mask T.events ∷ []) l e h (room_checks T.rows list scratch) g

-- No rule is broken: the table is valid, and there is room.
pub record Roomy (T : Table) (list scratch : ℕ) : Type 0 where
  pub valid : Valid T
  pub list_fits : entries T.rows ≤ list
  pub scratch_fits : needed T.rows ≤ scratch

-- Mark bytes are bytes, as the code's types say.
pub fine-roomy : (mask : ℕ) (T : Table) (list scratch : ℕ) → ((i : ℕ) → get_or T.marks i 0 < 256) → verdict mask T list scratch ≡ sound → Roomy T list scratch
unfolding verdict
fine-roomy mask T list scratch bytes e =
    let more = mask_rule mask T.events ∷ room_checks T.rows list scratch in
    let at = passed more (more-fine T more e) in
    let enough : scratch_cells T.rows ≤ scratch = ltb-false _ _ (unbroken _ _ _ (at 1)) in
    record {
      valid = fine_valid T more e bytes;
      list_fits = ltb-false _ _ (unbroken _ _ _ (at 2));
      scratch_fits = omega (arith, needed-value T.rows);
    }

-- Of what is valid, and has room, the mask alone can break a rule.
pub by_mask : (mask : ℕ) (T : Table) (list scratch : ℕ) → Roomy T list scratch → verdict mask T list scratch ≡ mask_rule mask T.events
unfolding verdict
by_mask mask T list scratch r = valid_masked mask T r.valid (room_checks T.rows list scratch) (all-fits T.rows list scratch r.scratch_fits r.list_fits)

-- So what has no bit that belongs to no event is never refused.
pub accepts : (mask : ℕ) (T : Table) (list scratch : ℕ) → Roomy T list scratch → spare_bit_set mask T.events ≡ false → verdict mask T list scratch ≡ sound
accepts mask T list scratch r e = by_mask mask T list scratch r ∙ rw e
