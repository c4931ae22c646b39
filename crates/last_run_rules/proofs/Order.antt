-- The rules in their order, as the code makes them, and what it means that none is broken.
use mathlib.Core.Path.{◌≡◌, refl, sym, ap, ◌∙◌}
use mathlib.Core.Bool.{true}
use mathlib.Core.List.{List, [], ◌∷◌, ◌++◌}
use Prim.Native.Nat.{ℕ, ◌≤◌, ◌<◌}
use native.Mathlib.Omega.{arith}
use borrow.Author.Tests.{le-leb, lt-leb, leb-false, ltb-false}
use lib.ListN.{get_or}
use Rattle.tables.specs.Table.{Table, Valid}
use Rattle.rules.specs.Rules.{Verdict, sound, refusal, and_then, judged, winch, row_rule, room_rule, mask_rule, shape_checks, table_checks, masked_checks}
use Rattle.std.specs.Prelude.{Err}
use Rattle.rules.specs.declared.Rule.TheVariants.{Row}
use Rattle.rules.specs.declared.Refusal.{Refusal}
use Rattle.rules.specs.declared.Limits.{Limits}
use Rattle.rules.proofs.Judged.{judged-append, refused-first}
use Rattle.rules.proofs.Checks.{unbroken, passed}
use Rattle.rules.proofs.First.{room_kept, both-fine, fine_valid, more-fine, valid_masked}
use Rattle.rules.proofs.Shape.{fine_shape, valid_shape}
use Rattle.scratch.specs.Scratch.{scratch_cells}
use Rattle.scratch.proofs.Works.{valid_within}
use Rattle.pairs.specs.Pairs.{needed, workable}
use Rattle.pairs.proofs.Triangle.{needed-value}
use Rattle.last_run_rules.specs.Checks.{rest_checks, verdict}

row_broken : (rows row : ℕ) → rows ≤ row → row_rule rows row ≡ Err (refusal Row 0)
row_broken rows row h = rw (le-leb rows row h)

row_kept : (rows row : ℕ) → row < rows → row_rule rows row ≡ sound
row_kept rows row h = rw (lt-leb rows row h)

-- The verdict as the code makes it: of the table's shape with the limits given, of the row, and then of all.
module _ (mask : ℕ) (T : Table) (row room : ℕ) {L : Limits} {v : Verdict} (l : L ≡ winch) (e : v ≡ judged (shape_checks L T)) where
  of_shape : v ≡ judged (shape_checks winch T)
  of_shape = e ∙ ap (λ (K : Limits). judged (shape_checks K T)) l

  pub shape_refused : (r : Refusal) → v ≡ Err r → Err r ≡ verdict mask T row room
  unfolding verdict
  shape_refused r h = refused-first (shape_checks winch T) (row_rule T.rows row ∷ rest_checks mask T room) v r of_shape h

  module _ (h : v ≡ sound) where
    by_row : verdict mask T row room ≡ and_then (row_rule T.rows row) (judged (rest_checks mask T room))
    unfolding verdict
    by_row = judged-append (shape_checks winch T) (row_rule T.rows row ∷ rest_checks mask T room) ∙ ap (λ (u : Verdict). and_then u (judged (row_rule T.rows row ∷ rest_checks mask T room))) (sym of_shape ∙ h)

    pub no_row : T.rows ≤ row → Err (refusal Row 0) ≡ verdict mask T row room
    no_row k = sym (by_row ∙ ap (λ (u : Verdict). and_then u (judged (rest_checks mask T room))) (row_broken T.rows row k))

    pub then-all : row < T.rows → {u : Verdict} → u ≡ judged (masked_checks winch mask T ++ (room_rule (scratch_cells T.rows) room ∷ [])) → u ≡ verdict mask T row room
    then-all k g =
        g
        ∙ judged-append (shape_checks winch T) (rest_checks mask T room)
        ∙ ap (λ (u : Verdict). and_then u (judged (rest_checks mask T room))) (sym of_shape ∙ h)
        ∙ sym (by_row ∙ ap (λ (u : Verdict). and_then u (judged (rest_checks mask T room))) (row_kept T.rows row k))

-- No rule broken: the table is valid, the row is one of its rows, and the scratch is long enough.
pub record Ready (T : Table) (row room : ℕ) : Type 0 where
  pub valid : Valid T
  pub row_in : row < T.rows
  pub fits : needed T.rows ≤ room
  pub works : workable T room ≡ true

module _ (mask : ℕ) (T : Table) (row room : ℕ) (e : verdict mask T row room ≡ sound) (bytes : (i : ℕ) → get_or T.marks i 0 < 256) where
  parts : (judged (shape_checks winch T) ≡ sound) × (judged (row_rule T.rows row ∷ rest_checks mask T room) ≡ sound)
  unfolding verdict
  parts = both-fine (judged (shape_checks winch T)) (judged (row_rule T.rows row ∷ rest_checks mask T room)) (sym (judged-append (shape_checks winch T) (row_rule T.rows row ∷ rest_checks mask T room)) ∙ e)

  rest : (row_rule T.rows row ≡ sound) × (judged (rest_checks mask T room) ≡ sound)
  rest = both-fine (row_rule T.rows row) (judged (rest_checks mask T room)) parts.1

  -- Without the row they are the table's, the mask's and the scratch's.
  others : judged (table_checks winch T ++ (mask_rule mask T.events ∷ room_rule (scratch_cells T.rows) room ∷ [])) ≡ sound
  others = judged-append (shape_checks winch T) (rest_checks mask T room) ∙ ap (λ (u : Verdict). and_then u (judged (rest_checks mask T room))) parts.0 ∙ rest.1

  pub fine-ready : Ready T row room
  fine-ready = record { valid = valid; row_in = leb-false T.rows row (unbroken _ _ _ rest.0); fits = fits; works = valid_within needed T room valid fits }
    where
      more : List Verdict
      more = mask_rule mask T.events ∷ room_rule (scratch_cells T.rows) room ∷ []

      valid : Valid T
      valid = fine_valid T more others bytes

      fits : needed T.rows ≤ room
      fits = omega (arith, needed-value T.rows, ltb-false room (scratch_cells T.rows) (unbroken _ _ _ (passed more (more-fine T more others) 1)))

-- For a valid table, one of its rows and ample scratch, the mask alone can break a rule.
pub by_mask : (mask : ℕ) (T : Table) (row room : ℕ) → Valid T → row < T.rows → needed T.rows ≤ room → verdict mask T row room ≡ mask_rule mask T.events
by_mask mask T row room v h fits =
    sym (then-all mask T row room refl refl (fine_shape winch T (valid_shape T v)) h refl)
    ∙ valid_masked mask T v (room_rule (scratch_cells T.rows) room ∷ []) (sym (rw (room_kept (scratch_cells T.rows) room (omega (arith, needed-value T.rows)))))
