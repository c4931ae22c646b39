-- What a program that takes at most 128 rows finds in its 4,096 cells and 16 mark bytes when it has read an image: the image's table.
use mathlib.Core.Path.{◌≡◌, refl, sym, ap, ap₂, subst⁻¹, ◌∙◌}
use mathlib.Core.List.{List}
use Prim.Native.Nat.{ℕ, ◌+◌, ◌*◌, ◌≤◌}
use native.Mathlib.Nat.{mul-le-mul}
use native.Mathlib.Omega.{arith}
use borrow.Author.Tests.{le-ltb, ltb-false}
use lib.Dec.{ltb}
use lib.ListN.{length, take, replicate, length-replicate}
use lib.Seq.{length-take-le}
use Rattle.tables.specs.Lists.{over}
use Rattle.tables.specs.Table.{Table, Valid, mark_byte_count}
use Rattle.tables.proofs.Over.{over-length, take-over}
use Rattle.rules.specs.Rules.{number_of, winch, table_of}
use Rattle.rules.specs.declared.Rule.TheVariants.{Large}
use Rattle.rules.specs.declared.Refusal.{Refusal}
use Rattle.rules.specs.declared.Limits.{Limits}
use Rattle.rules.proofs.Checks.{unbroken}
use Rattle.images.specs.Image.{marks_of, cells_of, table_in}
use Rattle.images.specs.declared.Form.TheVariants.{Plain}
use Rattle.images.proofs.Numbers.{Bytes}
use Rattle.image_sections.specs.Read.{Read, at_most, image_read}
use Rattle.image_sections.specs.declared.Shape.{Shape}
use Rattle.std.specs.Prelude.{Ok, Err}
use Rattle.rules.specs.declared.Refusal.{Refusal}
use Rattle.image_reader.specs.Read.{roomed, read_by, cells_in, marks_in}
use Rattle.image_reader.proofs.RoundTrip.{read_valid}
use Rattle.lines.specs.Lines.{refusal_line}
use Rattle.image_text.specs.ImageText.{text_of, text_of_image}
use Rattle.image_text.specs.Loaded.{cell_count, byte_count, Loads}
use Rattle.image_text.specs.declared.Loaded.{Loaded}

-- The buffers before.
abbrev cells₀ : List ℕ
cells₀ = replicate 4096 0

abbrev marks₀ : List ℕ
marks₀ = replicate 16 0

-- ---- there is room for all that is taken

few_valid : (b : List ℕ) → Bytes b → (table : Shape) → image_read winch (at_most 128) b ≡ Ok table → Valid (table_in b table.rows table.events table.start) × (table.rows ≤ 128)
few_valid b bytes table e =
    let v = read_valid (at_most 128) b bytes table.rows table.events table.start e in
    (v.0, ltb-false 128 table.rows (unbroken Large (ltb 128 table.rows) 0 v.1))

-- Such a table has at most 4,096 cells.
in_few_cells : {T : Table} → Valid T × (T.rows ≤ 128) → T.rows * T.events ≤ 4096
in_few_cells v = mul-le-mul v.1 v.0.events_fit

room_enough : (b : List ℕ) → Bytes b → (r : Read) → image_read winch (at_most 128) b ≡ r → roomed r 4096 16 ≡ r
room_enough b bytes (Err r) e = refl
room_enough b bytes (Ok table) e =
    let v = few_valid b bytes table e in
    rw (le-ltb 4096 (table.rows * table.events) (in_few_cells v), le-ltb 16 (mark_byte_count table.rows) (omega arith))

-- What the reader promises of these buffers.
module _ (b : List ℕ) {cells marks : List ℕ} {r : Read} {L : Limits} (bytes : Bytes b) (same : L ≡ winch)
    (p : (r ≡ read_by L (at_most 128) b (length cells₀) (length marks₀)) × (cells ≡ cells_in r b cells₀) × (marks ≡ marks_in r b marks₀)) where
  answer_is : r ≡ image_read winch (at_most 128) b
  answer_is =
      let read_as = image_read winch (at_most 128) b in
      p.0 ∙ ap (λ (K : Limits). roomed (image_read K (at_most 128) b) (length cells₀) (length marks₀)) same
      ∙ ap₂ (roomed read_as) (length-replicate {A = ℕ} 4096 0) (length-replicate {A = ℕ} 16 0) ∙ room_enough b bytes read_as refl

  pub cells_fit : {table : Shape} → r ≡ Ok table → table.rows * table.events ≤ 4096
  cells_fit {table} e = in_few_cells (few_valid b bytes table (sym answer_is ∙ e))

  -- With the answer by another name, and so many cells and mark bytes.
  pub loads : {s : Read} → r ≡ s → {count size : ℕ} → count ≡ cell_count s → size ≡ byte_count s → Loads b record { read = s; cells = cells; marks = marks; count = count; bytes = size }
  loads h n m = record {
    says = sym h ∙ answer_is;
    cells_are = p.1 ∙ ap (λ (x : Read). cells_in x b cells₀) h;
    marks_are = p.2 ∙ ap (λ (x : Read). marks_in x b marks₀) h;
    count_is = n;
    bytes_is = m;
    sound = λ table e. few_valid b bytes table (sym answer_is ∙ h ∙ e);
  }

-- ---- what was taken

-- The image b was loaded as l.
module _ {b : List ℕ} {l : Loaded} (t : Loads b l) where
  -- A refusal.
  pub refused-text : (f : Table → List ℕ) {r : Refusal} → l.read ≡ Err r → refusal_line (number_of r.rule) r.place ≡ text_of_image f b
  unfolding text_of_image
  refused-text f e = sym (ap (text_of f b) (sym t.says ∙ e))

  -- A table.
  module _ {table : Shape} (e : l.read ≡ Ok table) where
    abbrev rows : ℕ
    rows = table.rows

    abbrev events : ℕ
    events = table.events

    abbrev start : ℕ
    start = table.start

    sound : Valid (table_in b rows events start) × (rows ≤ 128)
    sound = t.sound table e

    inside : 0 + length (cells_of Plain b rows events) ≤ length cells₀
    inside = omega (arith, sound.0.all_cells, in_few_cells sound, length-replicate {A = ℕ} 4096 0)

    within : 0 + length (marks_of b rows) ≤ length marks₀
    within = omega (arith, sound.0.all_marks, sound.1, length-replicate {A = ℕ} 16 0)

    cells_over : l.cells ≡ over cells₀ 0 (cells_of Plain b rows events)
    cells_over = t.cells_are ∙ ap (λ (x : Read). cells_in x b cells₀) e

    marks-over : l.marks ≡ over marks₀ 0 (marks_of b rows)
    marks-over = t.marks_are ∙ ap (λ (x : Read). marks_in x b marks₀) e

    all_cells : l.count ≡ 0 + length (cells_of Plain b rows events)
    all_cells = omega (arith, t.count_is ∙ ap cell_count e, sound.0.all_cells)

    all_marks : l.bytes ≡ 0 + length (marks_of b rows)
    all_marks = omega (arith, t.bytes_is ∙ ap byte_count e, sound.0.all_marks)

    -- Its cells and its mark bytes are the first of the buffers.
    pub cells_part : l.count ≤ length l.cells
    cells_part = omega (arith, all_cells, ap length cells_over, over-length cells₀ 0 (cells_of Plain b rows events) inside, inside)

    pub marks_part : l.bytes ≤ length l.marks
    marks_part = omega (arith, all_marks, ap length marks-over, over-length marks₀ 0 (marks_of b rows) within, within)

    pub cells_length : l.count ≡ length (take l.count l.cells)
    cells_length = sym (length-take-le _ l.cells cells_part)

    pub marks_length : l.bytes ≡ length (take l.bytes l.marks)
    marks_length = sym (length-take-le _ l.marks marks_part)

    taken-table : table_of rows events start (take l.count l.cells) (take l.bytes l.marks) ≡ table_in b rows events start
    taken-table =
        ap₂ (table_of rows events start)
        (ap₂ (take {A = ℕ}) all_cells cells_over ∙ take-over cells₀ 0 (cells_of Plain b rows events) inside)
        (ap₂ (take {A = ℕ}) all_marks marks-over ∙ take-over marks₀ 0 (marks_of b rows) within)

    pub taken-valid : Valid (table_of rows events start (take l.count l.cells) (take l.bytes l.marks)) × (rows ≤ 128)
    taken-valid = (subst⁻¹ Valid taken-table sound.0, sound.1)

    pub taken-text : (f : Table → List ℕ) → f (table_of rows events start (take l.count l.cells) (take l.bytes l.marks)) ≡ text_of_image f b
    unfolding text_of_image
    taken-text f = ap f taken-table ∙ sym (ap (text_of f b) (sym t.says ∙ e))
