-- Rules 1 to 4 are all kept exactly if the table has the right counts, lengths and start; rules 1 to 6 exactly if it is valid.
use mathlib.Core.Path.{◌≡◌, refl, sym, ◌∙◌}
use mathlib.Core.Logic.{◌↔◌}
use Prim.Native.Nat.{ℕ, ◌*◌, ◌≤◌, ◌<◌}
use native.Mathlib.Omega.{arith}
use borrow.Author.Tests.{leb-false, lt-leb, eqb-true, eq-eqb, not-false}
use lib.ListN.{length, get_or}
use Rattle.tables.specs.Table.{Table, Valid, mark_byte_count}
use Rattle.marks.proofs.Laws.{spare_clear}
use Rattle.rules.specs.Rules.{Verdict, sound, and_then, judged, winch, shape_checks, content_checks, table_checks}
use Rattle.rules.specs.declared.Limits.{Limits}
use Rattle.std.specs.Prelude.{Ok, Err}
use Rattle.rules.proofs.Checks.{unbroken, passed, neither, inside, all_inside}
use Rattle.rules.proofs.Judged.{judged-append, fine-first}

pub record Shape (L : Limits) (T : Table) : Type 0 where
  pub some_row : 1 ≤ T.rows
  pub rows_fit : T.rows ≤ L.rows
  pub some_event : 1 ≤ T.events
  pub events_fit : T.events ≤ L.events
  pub all_cells : length T.cells ≡ T.rows * T.events
  pub all_marks : length T.marks ≡ mark_byte_count T.rows
  pub start_inside : T.start < T.rows

module _ (L : Limits) (T : Table) where
  pub shape_fine : judged (shape_checks L T) ≡ sound → Shape L T
  shape_fine e =
      let at = passed (shape_checks L T) e in
      let rows = (inside _ _).0 (unbroken _ _ _ (at 0)) in
      let events = (inside _ _).0 (unbroken _ _ _ (at 1)) in
      let lengths = neither _ _ (unbroken _ _ _ (at 2)) in
      record {
        some_row = rows.0;
        rows_fit = rows.1;
        some_event = events.0;
        events_fit = events.1;
        all_cells = eqb-true _ _ (not-false _ lengths.0);
        all_marks = eqb-true _ _ (not-false _ lengths.1);
        start_inside = leb-false _ _ (unbroken _ _ _ (at 3));
      }

  pub fine_shape : Shape L T → judged (shape_checks L T) ≡ sound
  fine_shape s = simp (
    (inside L.rows T.rows).1 (s.some_row, s.rows_fit),
    (inside L.events T.events).1 (s.some_event, s.events_fit),
    eq-eqb _ _ s.all_cells,
    eq-eqb _ _ s.all_marks,
    lt-leb _ _ s.start_inside,
  )

  -- A table whose every check is passed has the right shape, and its contents pass.
  pub table-fine : judged (table_checks L T) ≡ sound → Shape L T × (judged (content_checks T.rows T.cells T.marks) ≡ sound)
  table-fine e = pick (judged (shape_checks L T)) refl (sym (judged-append (shape_checks L T) (content_checks T.rows T.cells T.marks)) ∙ e)
    where
      pick : (v : Verdict) → judged (shape_checks L T) ≡ v → and_then v (judged (content_checks T.rows T.cells T.marks)) ≡ sound
          → Shape L T × (judged (content_checks T.rows T.cells T.marks) ≡ sound)
      pick (Ok u) g h = (shape_fine g, h)
      pick (Err r) g h = let z : ◌≡◌ {A = ℕ} 0 1 = cc in absurd (omega arith)

pub valid_shape : (T : Table) → Valid T → Shape winch T
valid_shape T v = record {
  some_row = v.some_row;
  rows_fit = v.rows_fit;
  some_event = v.some_event;
  events_fit = v.events_fit;
  all_cells = v.all_cells;
  all_marks = v.all_marks;
  start_inside = v.start_inside;
}

-- No rule of a table is broken just if the table is valid, as far as its mark bytes are bytes.
pub table_valid : (T : Table) → ((i : ℕ) → get_or T.marks i 0 < 256) → (judged (table_checks winch T) ≡ sound) ↔ Valid T
table_valid T bytes = (
  λ e.
      let t = table-fine winch T e in
      let s = t.0 in
      let at = passed (content_checks T.rows T.cells T.marks) t.1 in
      record {
        some_row = s.some_row;
        rows_fit = s.rows_fit;
        some_event = s.some_event;
        events_fit = s.events_fit;
        all_cells = s.all_cells;
        all_marks = s.all_marks;
        start_inside = s.start_inside;
        cells_in = (all_inside T.rows T.cells (length T.cells) refl).0 (unbroken _ _ _ (at 0));
        spare_clear = (spare_clear T.marks T.rows s.all_marks bytes).0 (unbroken _ _ _ (at 1));
        bytes = bytes;
      },
  λ v.
      sym (fine-first (shape_checks winch T) (content_checks T.rows T.cells T.marks) (judged (shape_checks winch T)) refl (fine_shape winch T (valid_shape T v)))
      ∙ simp (
        (all_inside T.rows T.cells (length T.cells) refl).1 v.cells_in,
        (spare_clear T.marks T.rows v.all_marks bytes).1 v.spare_clear,
      ),
)
