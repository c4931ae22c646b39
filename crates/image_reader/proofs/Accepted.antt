-- What an accepted image holds: the reader accepts exactly the bytes of which this is true.
use mathlib.Core.Path.{◌≡◌, refl, sym, ap, ◌∙◌}
use mathlib.Core.Bool.{Bool, true, false}
use mathlib.Core.List.{List}
use mathlib.Core.Logic.{◌↔◌}
use Prim.Native.Nat.{ℕ, ◌+◌, ◌*◌, ◌/◌, ◌%◌, ◌≤◌, ◌<◌}
use native.Mathlib.Nat.{add-zero, div-add-mod, mul-div_cancel_left, mul-mod_right}
use native.Mathlib.Omega.{arith}
use native.Mathlib.Decide.{ℕ_discrete}
use lib.ListN.{length, get_or, drop, length-take, length-drop}
use lib.Seq.{get_or-take, get_or-drop}
use borrow.Author.Tests.{eqb-true, eq-eqb, not-false, leb-false, ltb-false, lt-leb, le-ltb}
use Rattle.tables.specs.Table.{Valid, mark_byte_count}
use Rattle.tables.proofs.Lists.{tabulate-length, tabulate-at}
use Rattle.marks.proofs.Laws.{spare_clear}
use Rattle.rules.specs.Rules.{Verdict, sound, judged, winch}
use Rattle.marks.specs.Marks.{spare_bits_set}
use Rattle.rules.specs.declared.Limits.{Limits}
use Rattle.images.specs.Image.{width, target_at, length_of_image, number_at, targets_at, start_at, end_at, marks_of, cells_of, table_as}
use Rattle.images.specs.declared.Form.{Form}
use Rattle.image_sections.specs.Read.{shape, targets_rule, end_checks, read_checks, read_of}
use Rattle.image_numbers.specs.Numbers.{checked}
use Rattle.image_sections.specs.declared.Shape.{Shape}
use Rattle.std.specs.Prelude.{Ok, Err}
use Rattle.images.proofs.Numbers.{Bytes, take_bytes, drop_bytes}
use Rattle.rules.proofs.Checks.{unbroken, passed, passed-behind, inside, all_inside}
use Rattle.automata.proofs.Tests.{clash}

-- Byte rows / 8 counts only where it is one of the mark bytes.
spare_same : (b : List ℕ) (rows : ℕ) → spare_bits_set rows (get_or (marks_of b rows) (rows / 8) 0) ≡ spare_bits_set rows (get_or b (2 + rows / 8) 0)
unfolding spare_bits_set
spare_same b rows = elim (ℕ_discrete (rows % 8) 0) [
  | yes e ↦ rw (eq-eqb (rows % 8) 0 e)
  | no ne ↦ (let h : rows / 8 < (rows + 7) / 8 = omega arith in rw (get_or-take, get_or-drop))
]

-- The numbers that stand in the bytes: rows, count of targets, count of starts, start.
pub record Reads (F : Form) (b : List ℕ) (rows count one start : ℕ) : Type 0 where
  pub rows_at : number_at b 0 ≡ rows
  pub count_at : number_at b (targets_at rows) ≡ count
  pub one_at : number_at b (start_at F rows count) ≡ one
  pub starts_at : number_at b (start_at F rows count + 2) ≡ start

-- The reader's answer, from the numbers that stand in the bytes.
image-checks : (alone : Bool) (F : Form) (L : Limits) (few : ℕ → Verdict) (b : List ℕ) (rows count one start : ℕ) → Reads F b rows count one start
    → read_of alone F L few b ≡ checked (judged (read_checks alone F L few b rows count one start)) (Ok (shape rows (count / rows) start))
unfolding read_of
image-checks alone F L few b rows count one start n = rw (n.rows_at, n.count_at, n.one_at, n.starts_at)

-- The checks of the image of a table.
abbrev image_checks : Bool → Form → (ℕ → Verdict) → List ℕ → ℕ → ℕ → ℕ → List Verdict
image_checks alone F few b rows events start = read_checks alone F winch few b rows (rows * events) 1 start

-- Of an image that stands alone nothing is left over.
pub record Accepted (alone : Bool) (F : Form) (few : ℕ → Verdict) (b : List ℕ) (rows events start : ℕ) : Type 0 where
  pub valid : Valid (table_as F b rows events start)
  pub few_rows : few rows ≡ sound
  pub whole : length_of_image F rows events ≤ length b
  pub ends : alone ≡ true → length b ≤ length_of_image F rows events
  pub reads : Reads F b rows (rows * events) 1 start

-- The last check is that of 10, where it is asked.
end-fine : (alone : Bool) (b : List ℕ) (end : ℕ) → (judged (end_checks alone b end) ≡ sound) ↔ (alone ≡ true → length b ≤ end)
end-fine true b end = (λ e h. ltb-false end (length b) (unbroken _ _ _ (passed (end_checks true b end) e 0)), λ h. rw (le-ltb end (length b) (h refl)))
end-fine false b end = (λ e h. clash h refl, λ h. refl)

checked-shape : (v : Verdict) (s : Shape) (rows events start : ℕ) → checked v (Ok s) ≡ Ok (shape rows events start) → (v ≡ sound) × (s ≡ shape rows events start)
checked-shape (Ok u) s rows events start e = (refl, cc)
checked-shape (Err r) s rows events start e = let z : ◌≡◌ {A = ℕ} 0 1 = cc in absurd (omega arith)

-- A count that is a multiple of the rows is that of all targets.
all_targets : (c r rows events : ℕ) → r ≡ rows → c / r ≡ events → c % r ≡ 0 → c ≡ rows * events
all_targets c r rows events same event multiple = cc (div-add-mod c r, add-zero (rows * events))

module _ (alone : Bool) (F : Form) (few : ℕ → Verdict) (b : List ℕ) (bytes : Bytes b) (rows events start : ℕ) where
  abbrev end : ℕ
  end = end_at F rows (rows * events)

  -- `at i` is check i of the row, counted from 0.
  fine_accepted : judged (image_checks alone F few b rows events start) ≡ sound → Reads F b rows (rows * events) 1 start → Accepted alone F few b rows events start
  fine_accepted e n =
      let at = passed (image_checks alone F few b rows events start) e in
      let row = (inside 1024 rows).0 (unbroken _ _ _ (at 1)) in
      let event : (1 ≤ events) × (events ≤ 32) = rw (mul-div_cancel_left events row.0) at ((inside 32 (rows * events / rows)).0 (unbroken _ _ _ (at 7))) in
      let full : end ≤ length b = ltb-false _ _ (unbroken _ _ _ (at 12)) in
      let all : length (marks_of b rows) ≡ mark_byte_count rows = simp (length-take, length-drop) (omega arith) in
      let low : Bytes (marks_of b rows) = take_bytes (mark_byte_count rows) (drop 2 b) (drop_bytes 2 b bytes) in
      let five : targets_rule F b rows (targets_at rows + 2) (rows * events) ≡ sound = at 9 in
      let targets = rw (mul-div_cancel_left events row.0) at five in
      record {
        valid = record {
          some_row = row.0;
          rows_fit = row.1;
          some_event = event.0;
          events_fit = event.1;
          all_cells = tabulate-length _ _;
          all_marks = all;
          start_inside = leb-false _ _ (unbroken _ _ _ (at 13));
          cells_in = λ i h. (all_inside rows (cells_of F b rows events) (rows * events) (tabulate-length _ _)).0 (unbroken _ _ _ targets) i (rw tabulate-length at h);
          spare_clear = (spare_clear (marks_of b rows) rows all low).0 (spare_same b rows ∙ unbroken _ _ _ (at 4));
          bytes = low;
        };
        few_rows = at 2;
        whole = omega arith;
        ends = λ h. omega (arith, (end-fine alone b end).0 (passed-behind 14 (image_checks alone F few b rows events start) e) h);
        reads = n;
      }

  accepted_fine : Accepted alone F few b rows events start → judged (image_checks alone F few b rows events start) ≡ sound
  accepted_fine a =
      let v = a.valid in
      rw (
        le-ltb (length b) 2 (omega arith),
        (inside 1024 rows).1 (v.some_row, v.rows_fit),
        a.few_rows,
        le-ltb (length b) (targets_at rows) (omega arith),
        sym (spare_same b rows) ∙ (spare_clear (marks_of b rows) rows v.all_marks v.bytes).1 v.spare_clear,
        le-ltb (length b) (targets_at rows + 2) (omega arith),
        mul-mod_right rows events,
        mul-div_cancel_left events v.some_row,
        (inside 32 events).1 (v.some_event, v.events_fit),
        le-ltb (length b) (start_at F rows (rows * events)) (omega arith),
        (all_inside rows (cells_of F b rows events) (rows * events) (tabulate-length _ _)).1 (λ i h. v.cells_in i (rw tabulate-length h)),
        le-ltb (length b) (start_at F rows (rows * events) + 2) (omega arith),
        le-ltb (length b) end (omega arith),
        lt-leb rows start v.start_inside,
      ) ((end-fine alone b end).1 (λ h. omega (arith, a.ends h)))

  -- From the numbers that stand in the bytes to those of the answer.
  read_accepted : (r c o s : ℕ) → Reads F b r c o s → judged (read_checks alone F winch few b r c o s) ≡ sound
      → shape r (c / r) s ≡ shape rows events start → Accepted alone F few b rows events start
  read_accepted r c o s n e q =
      let at = passed (read_checks alone F winch few b r c o s) e in
      let same = ap (λ (x : Shape). x.rows) q in
      let multiple : c % r ≡ 0 = eqb-true _ 0 (not-false _ (unbroken _ _ _ (at 6))) in
      let count = all_targets c r rows events same (ap (λ (x : Shape). x.events) q) multiple in
      let one : o ≡ 1 = eqb-true o 1 (not-false _ (unbroken _ _ _ (at 11))) in
      let begin = ap (λ (x : Shape). x.start) q in
      fine_accepted (rw (same, count, one, begin) at e) (rw (same, count, one, begin) at n)

  pub accepted : (read_of alone F winch few b ≡ Ok (shape rows events start)) ↔ Accepted alone F few b rows events start
  accepted = (
    λ e. let n : Reads F b _ _ _ _ = record { rows_at = refl; count_at = refl; one_at = refl; starts_at = refl } in
        let t = checked-shape _ _ rows events start (sym (image-checks alone F winch few b _ _ _ _ n) ∙ e) in
        read_accepted _ _ _ _ n t.0 t.1,
    λ a. image-checks alone F winch few b rows (rows * events) 1 start a.reads ∙ rw (accepted_fine a, mul-div_cancel_left events a.valid.some_row),
  )

-- What any accepted image has room for, whatever the limits.
pub record Holds (F : Form) (b : List ℕ) (rows events : ℕ) : Type 0 where
  pub fits : targets_at rows + 2 + width F * (rows * events) ≤ length b
  pub small : rows * events ≤ 65535
  pub some_event : 0 < events
  pub targets_small : (i : ℕ) → i < rows * events → target_at F b (i / events) (targets_at rows + 2 + width F * i) ≤ 65535

module _ (alone : Bool) (F : Form) (L : Limits) (few : ℕ → Verdict) (b : List ℕ) (bytes : Bytes b) (rows events start : ℕ) where
  held : (r c o s : ℕ) → r ≤ 65535 → c ≤ 65535 → judged (read_checks alone F L few b r c o s) ≡ sound → shape r (c / r) s ≡ shape rows events start → Holds F b rows events
  held r c o s few-r few-c e q =
      let at = passed (read_checks alone F L few b r c o s) e in
      let same = ap (λ (x : Shape). x.rows) q in
      let event = ap (λ (x : Shape). x.events) q in
      let multiple : c % r ≡ 0 = eqb-true _ 0 (not-false _ (unbroken _ _ _ (at 6))) in
      let count = all_targets c r rows events same event multiple in
      let full : start_at F r c ≤ length b = ltb-false _ _ (unbroken _ _ _ (at 8)) in
      let five : targets_rule F b r (targets_at r + 2) c ≡ sound = at 9 in
      let row = (all_inside rows (cells_of F b rows events) (rows * events) (tabulate-length _ _)).0 (unbroken _ _ _ (rw (event, same, count) at five)) in
      record {
        fits = rw (same, count) at full;
        small = rw count at few-c;
        some_event = rw event at ((inside L.events (c / r)).0 (unbroken _ _ _ (at 7))).0;
        targets_small = λ i h. omega (arith, row i h, tabulate-at (rows * events) (λ j. target_at F b (j / events) (targets_at rows + 2 + width F * j)) i 0 h);
      }

  pub read_holds : read_of alone F L few b ≡ Ok (shape rows events start) → Holds F b rows events
  read_holds e =
      let r : ℕ = number_at b 0 in
      let c : ℕ = number_at b (targets_at r) in
      let o : ℕ = number_at b (start_at F r c) in
      let s : ℕ = number_at b (start_at F r c + 2) in
      let n : Reads F b r c o s = record { rows_at = refl; count_at = refl; one_at = refl; starts_at = refl } in
      let t = checked-shape (judged (read_checks alone F L few b r c o s)) (shape r (c / r) s) rows events start (sym (image-checks alone F L few b r c o s n) ∙ e) in
      held r c o s (omega (arith, bytes 0, bytes 1)) (omega (arith, bytes (targets_at r), bytes (targets_at r + 1))) t.0 t.1
