-- What it means that no check refuses, and what the call promises.
use mathlib.Core.Path.{◌≡◌, sym, ap, ◌∙◌}
use mathlib.Core.List.{List}
use mathlib.Core.Logic.{◌≢◌}
use Prim.Native.Nat.{ℕ, ◌*◌, ◌%◌, ◌≤◌}
use native.Mathlib.Omega.{arith}
use borrow.Author.Tests.{eqb-false, ltb-false}
use lib.ListN.{length}
use Rattle.xorshift.specs.Xorshift.{step, state, draw}
use Rattle.xorshift.proofs.States.{state-add}
use Rattle.tables.specs.Lists.{tabulate, over}
use Rattle.tables.specs.Table.{mark_byte_count, pack}
use Rattle.tables.proofs.Lists.{tabulate-same}
use Rattle.rules.specs.Rules.{Verdict, sound, left_by}
use Rattle.std.specs.Prelude.{Err}
use Rattle.rules.specs.declared.Refusal.{Refusal}
use Rattle.rules.proofs.Checks.{passed, unbroken, inside}
use Rattle.load.specs.Load.{load_cells, load_marks, load_checks, load, verdict, Promise}
use Rattle.load.proofs.Valid.{load_valid}

-- ---- the checks

pub record Checked (seed rows events cells marks : ℕ) : Type 0 where
  pub some_row : 1 ≤ rows
  pub rows_fit : rows ≤ 1024
  pub some_event : 1 ≤ events
  pub events_fit : events ≤ 32
  pub seeded : seed ≢ 0
  pub cells_room : rows * events ≤ cells
  pub marks_room : mark_byte_count rows ≤ marks

pub checked : (seed rows events cells marks : ℕ) (v : Verdict) → v ≡ verdict seed rows events cells marks → v ≡ sound → Checked seed rows events cells marks
unfolding verdict
checked seed rows events cells marks v e fine =
    let at = passed (load_checks seed rows events cells marks) (sym e ∙ fine) in
    let r = (inside _ _).0 (unbroken _ _ _ (at 0)) in
    let q = (inside _ _).0 (unbroken _ _ _ (at 1)) in
    record {
      some_row = r.0;
      rows_fit = r.1;
      some_event = q.0;
      events_fit = q.1;
      seeded = eqb-false _ _ (unbroken _ _ _ (at 2));
      cells_room = ltb-false _ _ (unbroken _ _ _ (at 3));
      marks_room = ltb-false _ _ (unbroken _ _ _ (at 4));
    }

-- ---- the promise

-- The marks drawn from the state after the targets.
marks_after : (seed rows events st : ℕ) → st ≡ state seed (rows * events) → tabulate rows (λ i. draw st i % 2) ≡ load_marks seed rows events
marks_after seed rows events st e = tabulate-same rows _ _ (λ i h. ap (λ (x : ℕ). step x % 2) (ap (λ (s : ℕ). state s i) e ∙ state-add seed (rows * events) i))

module _ (seed rows events : ℕ) (cells marks : List ℕ) (v : Verdict) (e : v ≡ verdict seed rows events (length cells) (length marks)) where
  pub promise_refused : {r : Refusal} → v ≡ Err r
      → Promise (verdict seed rows events (length cells) (length marks)) (load seed rows events) cells marks (Err r) cells marks
  promise_refused g =
      let w = sym e ∙ g in
      record {
        answers = sym w;
        cells_after = sym (ap (λ (u : Verdict). left_by u cells (load seed rows events).cells) w);
        marks_after = sym (ap (λ (u : Verdict). left_by u marks (load seed rows events).marks) w);
        valid = λ f. let z : ◌≡◌ {A = ℕ} 0 1 = cc in absurd (omega arith);
      }

  pub promise_fine : v ≡ sound → (st : ℕ) (c m : List ℕ) → st ≡ state seed (rows * events) → c ≡ over cells 0 (load_cells seed rows events)
      → m ≡ over marks 0 (pack (tabulate rows (λ i. draw st i % 2)))
      → Promise (verdict seed rows events (length cells) (length marks)) (load seed rows events) cells marks sound c m
  unfolding load
  promise_fine f st c m hs hc hm =
      let w = sym e ∙ f in
      let k = checked seed rows events (length cells) (length marks) v e f in
      record {
        answers = sym w;
        cells_after = hc ∙ sym (ap (λ (u : Verdict). left_by u cells (load seed rows events).cells) w);
        marks_after = hm ∙ ap (λ (l : List ℕ). over marks 0 (pack l)) (marks_after seed rows events st hs) ∙ sym (ap (λ (u : Verdict). left_by u marks (load seed rows events).marks) w);
        valid = λ g. load_valid seed rows events k.some_row k.rows_fit k.some_event k.events_fit;
      }
