-- The image of a valid table whose targets fit its form: its length, what stands from each place on, and the table that it holds.
use mathlib.Core.Path.{◌≡◌, refl, ap, ap₂, ◌∙◌}
use mathlib.Core.List.{List, [], ◌++◌, append-nil, append_assoc}
use Prim.Native.Nat.{ℕ, ◌+◌, ◌*◌, ◌/◌}
use native.Mathlib.Omega.{arith}
use lib.ListN.{length, take, drop, length-append}
use lib.Seq.{take_at}
use Rattle.tables.specs.Table.{Table, Valid, mark_byte_count}
use Rattle.rules.specs.Rules.{table_of}
use Rattle.images.specs.Image.{number, target_bytes, target_at, targets, image_of, length_of_image, Fits, targets_at, start_at, width, marks_of, cells_of, table_as}
use Rattle.images.specs.declared.Form.{Form}
use Rattle.images.proofs.Numbers.{Bytes, append_bytes, number_bytes, after}
use Rattle.images.proofs.Sections.{Wide, section_bytes, section-length, section-at}
use Rattle.images.proofs.Targets.{target_length, target_bytes_lem, target_at_lem}

-- What follows the row count, the marks, the count of targets, the targets and the count of starts, and r behind the image.
abbrev pub after_one : Table → List ℕ → List ℕ
after_one T r = number T.start ++ r

abbrev pub after_cells : Table → List ℕ → List ℕ
after_cells T r = number 1 ++ after_one T r

abbrev pub after_count : Form → Table → List ℕ → List ℕ
after_count F T r = targets F T.events T.cells ++ after_cells T r

abbrev pub after_marks : Form → Table → List ℕ → List ℕ
after_marks F T r = number (T.rows * T.events) ++ after_count F T r

abbrev pub after_rows : Form → Table → List ℕ → List ℕ
after_rows F T r = T.marks ++ after_marks F T r

pub image_parts : (F : Form) (T : Table) (r : List ℕ) → image_of F T ++ r ≡ number T.rows ++ after_rows F T r
unfolding image_of
image_parts F T r = simp append_assoc

-- The targets of a table that fit.
pub fits_wide : (F : Form) (T : Table) → Fits F T → Wide (width F) (λ i x. target_bytes F (i / T.events) x) T.cells
fits_wide F T h i g = target_length F (i / T.events) _ (h i g)

pub targets-length : (F : Form) (T : Table) → Fits F T → length (targets F T.events T.cells) ≡ width F * length T.cells
targets-length F T h = section-length (width F) _ T.cells (fits_wide F T h)

-- ---- the image of a valid table

module _ (F : Form) (T : Table) (v : Valid T) (h : Fits F T) where
  open T use {rows, events, start, cells, marks}

  targets_long : length (targets F events cells) ≡ width F * (rows * events)
  targets_long = targets-length F T h ∙ ap (λ (n : ℕ). width F * n) v.all_cells

  pub image-length : length (image_of F T) ≡ length_of_image F T.rows T.events
  unfolding image_of
  image-length = simp length-append (omega (arith, targets_long, v.all_marks))

  pub image_bytes : Bytes (image_of F T)
  image_bytes = rw (← append-nil (image_of F T), image_parts) (append_bytes (number rows) (after_rows F T []) (number_bytes rows)
      (append_bytes marks (after_marks F T []) v.bytes (append_bytes (number (rows * events)) (after_count F T []) (number_bytes (rows * events))
      (append_bytes (targets F events cells) (after_cells T []) (section_bytes _ cells (λ i x. target_bytes_lem F (i / events) x))
      (append_bytes (number 1) (after_one T []) (number_bytes 1) (number_bytes start))))))

  -- ---- where it stands at the front of bytes

  module _ (r b : List ℕ) (e : b ≡ image_of F T ++ r) where
    pub rows_on : b ≡ number rows ++ after_rows F T r
    rows_on = e ∙ image_parts F T r

    -- What stands from each place on.
    pub marks-on : drop 2 b ≡ after_rows F T r
    marks-on = after b 0 2 (number rows) (after_rows F T r) rows_on refl

    pub count-on : drop (targets_at rows) b ≡ after_marks F T r
    count-on = after b 2 (mark_byte_count rows) marks (after_marks F T r) marks-on v.all_marks

    pub cells-on : drop (targets_at rows + 2) b ≡ after_count F T r
    cells-on = after b (targets_at rows) 2 (number (rows * events)) (after_count F T r) count-on refl

    pub one_on : drop (start_at F rows (rows * events)) b ≡ after_cells T r
    one_on = after b (targets_at rows + 2) (width F * (rows * events)) (targets F events cells) (after_cells T r) cells-on targets_long

    pub start-on : drop (start_at F rows (rows * events) + 2) b ≡ after_one T r
    start-on = after b (start_at F rows (rows * events)) 2 (number 1) (after_one T r) one_on refl

    -- It reads back as the same table.
    pub image-table : table_as F b T.rows T.events T.start ≡ T
    image-table = ap₂ (table_of rows events start) same-cells same-marks
      where
        same-cells : cells_of F b rows events ≡ cells
        same-cells =
            rw (← v.all_cells) (section-at b (width F) (λ i x. target_bytes F (i / events) x) (λ i k. target_at F b (i / events) k) cells (targets_at rows + 2) (after_cells T r)
            (fits_wide F T h) (λ i g k s on. target_at_lem F b (i / events) _ k s on (omega (arith, v.cells_in i g)) (h i g)) cells-on)

        same-marks : marks_of b rows ≡ marks
        same-marks = ap (take (mark_byte_count rows)) marks-on ∙ take_at marks (after_marks F T r) (mark_byte_count rows) v.all_marks
