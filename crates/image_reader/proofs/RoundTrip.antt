-- The image of a valid table, in either form, is accepted and reads back as that table; an accepted image is that of the table read.
use mathlib.Core.Path.{◌≡◌, refl, sym, ap, ◌∙◌}
use mathlib.Core.Bool.{Bool, true}
use mathlib.Core.List.{List, [], ◌++◌, append-nil}
use mathlib.Core.Logic.{◌↔◌}
use Prim.Native.Nat.{ℕ, ◌+◌, ◌*◌, ◌/◌, ◌<◌}
use native.Mathlib.Nat.{mul-le-mul}
use native.Mathlib.Omega.{arith}
use lib.ListN.{length, drop, length-append, take-append-drop, drop_of_length-le}
use lib.Seq.{drop-drop}
use Rattle.tables.specs.Table.{Table, Valid, mark_byte_count}
use Rattle.tables.proofs.Lists.{tabulate-length, tabulate-at}
use Rattle.rules.specs.Rules.{Verdict, sound, winch}
use Rattle.images.specs.Image.{number, width, target_bytes, target_at, targets, image_of, image, length_of_image, Fits, number_at, targets_at, start_at, end_at, marks_of, cells_of, table_as, table_in}
use Rattle.images.specs.declared.Form.{Form}
use Rattle.images.specs.declared.Form.TheVariants.{Plain}
use Rattle.image_sections.specs.Read.{shape, read_of, image_read}
use Rattle.std.specs.Prelude.{Ok}
use Rattle.images.proofs.Numbers.{Bytes, append_bytes, number-at, number-on}
use Rattle.images.proofs.Sections.{section_on}
use Rattle.images.proofs.Targets.{target_near, target_on, width-below}
use Rattle.images.proofs.Image.{after_count, after_rows, after_one, image_parts, image-length, image_bytes, rows_on, count-on, one_on, start-on, image-table}
use Rattle.image_reader.proofs.Accepted.{Reads, Accepted, accepted}

-- ---- the image of a valid table, at the front of bytes

module _ (F : Form) (T : Table) (v : Valid T) (h : Fits F T) (r b : List ℕ) (e : b ≡ image_of F T ++ r) where
  open T use {rows, events, start}

  image_reads : Reads F b rows (rows * events) 1 start
  image_reads = record {
    rows_at = number-at b 0 rows (after_rows F T r) (rows_on F T v h r b e) (omega arith);
    count_at = number-at b _ (rows * events) (after_count F T r) (count-on F T v h r b e) (omega (arith, mul-le-mul v.rows_fit v.events_fit));
    one_at = number-at b _ 1 (after_one T r) (one_on F T v h r b e) (omega arith);
    starts_at = number-at b _ start r (start-on F T v h r b e) (omega arith);
  }

  long : length b ≡ length_of_image F rows events + length r
  long = ap length e ∙ length-append (image_of F T) r ∙ ap (λ (n : ℕ). n + length r) (image-length F T v h)

  image_accepted : (alone : Bool) → (alone ≡ true → r ≡ []) → (few : ℕ → Verdict) → few T.rows ≡ sound → Accepted alone F few b T.rows T.events T.start
  image_accepted alone none few fine = record {
    valid = rw (image-table F T v h r b e) v;
    few_rows = fine;
    whole = omega (arith, long);
    ends = λ t. omega (arith, long, ap length (none t));
    reads = image_reads;
  }

  pub front_read : (alone : Bool) → (alone ≡ true → r ≡ []) → (few : ℕ → Verdict) → few T.rows ≡ sound → Bytes r
      → read_of alone F winch few b ≡ Ok (shape T.rows T.events T.start)
  front_read alone none few fine low =
      (accepted alone F few b (rw e (append_bytes (image_of F T) r (image_bytes F T v h) low)) T.rows T.events T.start).1 (image_accepted alone none few fine)

-- It is accepted.
pub form_read : (F : Form) (T : Table) (few : ℕ → Verdict) → few T.rows ≡ sound → Valid T → Fits F T → read_of true F winch few (image_of F T) ≡ Ok (shape T.rows T.events T.start)
form_read F T few fine v h = front_read F T v h [] (image_of F T) (sym (append-nil (image_of F T))) true (λ t. refl) few fine (λ i. omega arith)

-- ---- accepted bytes

module _ (alone : Bool) (F : Form) (few : ℕ → Verdict) (b : List ℕ) (bytes : Bytes b) (rows events start : ℕ) (e : read_of alone F winch few b ≡ Ok (shape rows events start)) where
  abbrev T : Table
  T = table_as F b rows events start

  a : Accepted alone F few b rows events start
  a = (accepted alone F few b bytes rows events start).0 e

  -- Target i of the image, which is a row.
  row_at : (i : ℕ) → i < rows * events → target_at F b (i / events) (targets_at rows + 2 + width F * i) < 1024
  row_at i h = omega (arith, a.valid.cells_in i (rw tabulate-length h), tabulate-at (rows * events) (λ j. target_at F b (j / events) (targets_at rows + 2 + width F * j)) i 0 h, a.valid.rows_fit)

  -- The table read is valid, its targets fit the form, and its row count is one that is asked for.
  pub form_valid : Valid (table_as F b rows events start) × Fits F (table_as F b rows events start) × (few rows ≡ sound)
  form_valid = (a.valid, near, a.few_rows)
    where
      near : Fits F T
      near i h =
          let g : i < rows * events = rw tabulate-length at h in
          rw (tabulate-at (rows * events) (λ j. target_at F b (j / events) (targets_at rows + 2 + width F * j)) i 0 g) (target_near b bytes F (i / events) _ (omega (arith, row_at i g)))

  targets_on : drop (targets_at rows + 2) b ≡ targets F events (cells_of F b rows events) ++ drop (start_at F rows (rows * events)) b
  targets_on = section_on b (width F) (λ i x. target_bytes F (i / events) x) (λ i k. target_at F b (i / events) k) (rows * events) (targets_at rows + 2)
      (λ i h. target_on b bytes F (i / events) _ (omega (arith, width-below F i (rows * events) h, a.whole)) (omega (arith, row_at i h)))

  -- Its image, and what follows, are the bytes.
  pub read_front : image_of F (table_as F b rows events start) ++ drop (length_of_image F rows events) b ≡ b
  read_front =
      let n = a.reads in
      let marks-on : drop 2 b ≡ marks_of b rows ++ drop (targets_at rows) b = sym (take-append-drop (mark_byte_count rows) (drop 2 b)) ∙ rw drop-drop in
      let rows_on : b ≡ number (number_at b 0) ++ drop 2 b = number-on b bytes 0 (omega (arith, a.whole)) in
      let count-on = number-on b bytes (targets_at rows) (omega (arith, a.whole)) in
      let one_on = number-on b bytes (start_at F rows (rows * events)) (omega (arith, a.whole)) in
      let start-on = number-on b bytes (start_at F rows (rows * events) + 2) (omega (arith, a.whole)) in
      let end : end_at F rows (rows * events) ≡ length_of_image F rows events = omega arith in
      cc (image_parts F T (drop (length_of_image F rows events) b), targets_on)

-- Read and written again, they are the same bytes.
pub read_form : (F : Form) (few : ℕ → Verdict) (b : List ℕ) → Bytes b → (rows events start : ℕ) → read_of true F winch few b ≡ Ok (shape rows events start)
    → image_of F (table_as F b rows events start) ≡ b
read_form F few b bytes rows events start e =
    let a = (accepted true F few b bytes rows events start).0 e in
    sym (append-nil _) ∙ ap (λ (l : List ℕ). image_of F (table_as F b rows events start) ++ l) (sym (drop_of_length-le b {i = length_of_image F rows events} (a.ends refl)))
    ∙ read_front true F few b bytes rows events start e

-- They are the images of the valid tables whose targets fit the form, with a row count that is asked for, and nothing else.
pub form_exactly : (F : Form) (few : ℕ → Verdict) (b : List ℕ) → Bytes b
    → ((rows : ℕ) × (events : ℕ) × (start : ℕ) × (read_of true F winch few b ≡ Ok (shape rows events start)))
    ↔ ((T : Table) × Valid T × Fits F T × (few T.rows ≡ sound) × (image_of F T ≡ b))
form_exactly F few b bytes = (
  λ (rows, events, start, e). let v = form_valid true F few b bytes rows events start e in (table_as F b rows events start, v.0, v.1, v.2, read_form F few b bytes rows events start e),
  λ (T, v, h, fine, e). (T.rows, T.events, T.start, rw e at (form_read F T few fine v h)),
)

-- ---- document 01's image: every target fits it

fits_plain : (T : Table) → Fits Plain T
fits_plain T i h = refl

pub image_read_lem : (T : Table) (few : ℕ → Verdict) → few T.rows ≡ sound → Valid T → image_read winch few (image T) ≡ Ok (shape T.rows T.events T.start)
image_read_lem T few fine v = form_read Plain T few fine v (fits_plain T)

module _ (few : ℕ → Verdict) (b : List ℕ) (bytes : Bytes b) where
  pub read_valid : (rows events start : ℕ) → image_read winch few b ≡ Ok (shape rows events start) → Valid (table_in b rows events start) × (few rows ≡ sound)
  read_valid rows events start e = let v = form_valid true Plain few b bytes rows events start e in (v.0, v.2)

  -- Read and written again, it is the same bytes.
  pub read_image : (rows events start : ℕ) → image_read winch few b ≡ Ok (shape rows events start) → image (table_in b rows events start) ≡ b
  read_image rows events start e = read_form Plain few b bytes rows events start e

  -- Accepted are the images of the valid tables with a row count that is asked for, and nothing else: of all valid tables where no more is asked.
  pub accepts_exactly : ((rows : ℕ) × (events : ℕ) × (start : ℕ) × (image_read winch few b ≡ Ok (shape rows events start)))
      ↔ ((T : Table) × Valid T × (few T.rows ≡ sound) × (image T ≡ b))
  accepts_exactly =
      let x = form_exactly Plain few b bytes in (
        λ y. let z = x.0 y in (z.0, z.1, z.3, z.4),
        λ (T, v, fine, e). x.1 (T, v, fits_plain T, fine, e),
      )
