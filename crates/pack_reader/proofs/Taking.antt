-- The second walk: list, cells and mark bytes are filled table by table.
use mathlib.Core.Path.{◌≡◌, refl, sym, ap, ◌∙◌}
use mathlib.Core.Bool.{false, ◌||◌}
use mathlib.Core.List.{List, [], ◌∷◌, ◌++◌}
use Prim.Native.Nat.{ℕ, suc, ◌+◌, ◌-◌, ◌*◌, ◌≤◌, ◌<◌}
use native.Mathlib.Omega.{arith}
use borrow.Author.Tests.{le-ltb}
use lib.Dec.{ltb}
use lib.ListN.{length, drop, length-drop}
use Rattle.tables.specs.Table.{Table, mark_byte_count}
use Rattle.tables.specs.Lists.{over}
use Rattle.rules.specs.Rules.{Verdict, rule, winch}
use Rattle.std.specs.Prelude.{Ok, Err}
use Rattle.rules.specs.declared.Rule.TheVariants.{Room}
use Rattle.rules.specs.declared.Refusal.{Refusal}
use Rattle.images.specs.Image as Image
use Rattle.images.specs.Image.{length_of_image, table_as}
use Rattle.images.specs.declared.Form.TheVariants.{Radio}
use Rattle.images.proofs.Numbers.{Bytes, drop_bytes}
use Rattle.image_sections.specs.Read.{Read, shape, any_rows}
use Rattle.image_sections.specs.declared.Shape.{Shape}
use Rattle.image_numbers.specs.Numbers.{checked}
use Rattle.image_reader.specs.Read.{roomed, read_in_form}
use Rattle.packs.specs.Pack.{list_of, cells_of, marks_of, Sendable}
use Rattle.packs.proofs.Tables.{list_length, cells_length, marks_length}
use Rattle.packs.proofs.Images.{sendable_laid}
use Rattle.packs.proofs.Filling.{Filling, filling_begin, filling-room, filling-next, filling_end}
use Rattle.pack_images.specs.Images.{Found, tables, images_read, tables_of}
use Rattle.pack_images.proofs.Walk.{front, next_of, front_sendable, front-whole, images_next, images_open, images_hold, with_tables}
use Rattle.pack_reader.specs.Walk.{Fitting}

-- What is found from a place on, with so many images left.
abbrev pub left : List ℕ → ℕ → ℕ → Found
left b n at = images_read (length b) n (drop at b)

-- i tables were taken, up to the place `at` of the pack, c of the cells and m of the mark bytes.
pub record Taking (b : List ℕ) (count : ℕ) (list₀ cells₀ marks₀ : List ℕ) (i at c m : ℕ) (list cells marks : List ℕ) : Type 0 where
  pub i_in : i ≤ count
  pub at_in : at ≤ length b
  pub found : left b (count - i) at ≡ tables (tables_of (left b (count - i) at))
  pub list_fill : Filling list₀ list (3 * i) (list_of (tables_of (left b (count - i) at))) (list_of (tables_of (left b count 2)))
  pub cells_fill : Filling cells₀ cells c (cells_of (tables_of (left b (count - i) at))) (cells_of (tables_of (left b count 2)))
  pub marks_fill : Filling marks₀ marks m (marks_of (tables_of (left b (count - i) at))) (marks_of (tables_of (left b count 2)))

pub taking_begin : (b : List ℕ) → Bytes b → (count : ℕ) (list₀ cells₀ marks₀ : List ℕ) → 2 ≤ length b
    → Fitting (left b count 2) (length list₀) (length cells₀) (length marks₀) → Taking b count list₀ cells₀ marks₀ 0 2 0 0 list₀ cells₀ marks₀
taking_begin b bytes count list₀ cells₀ marks₀ h f =
    let all : count - 0 ≡ count = omega arith in
    let l = tables_of (left b count 2) in
    let laid = sendable_laid l (images_hold (length b) count (drop 2 b) (drop_bytes 2 b bytes) l f.found).sendable in
    record {
      i_in = omega arith;
      at_in = h;
      found = rw all f.found;
      list_fill = rw all (filling_begin list₀ (list_of l) (omega (arith, list_length l, f.list_room)));
      cells_fill = rw all (filling_begin cells₀ (cells_of l) (omega (arith, cells_length l laid, f.cells_room)));
      marks_fill = rw all (filling_begin marks₀ (marks_of l) (omega (arith, marks_length l laid, f.marks_room)));
    }

-- An image that was read with room was read.
pub roomed-table : (r : Read) (cells marks : ℕ) (s : Shape) → roomed r cells marks ≡ Ok s → r ≡ Ok s
roomed-table (Err x) cells marks s e = e
roomed-table (Ok table) cells marks s e = pick (rule Room (ltb cells (table.rows * table.events) || ltb marks (mark_byte_count table.rows)) 0) e
  where
    pick : (v : Verdict) → checked {A = Shape} v (Ok table) ≡ Ok s → ◌≡◌ {A = Read} (Ok table) (Ok s)
    pick (Ok u) g = g
    pick (Err x) g = let bad : ◌≡◌ {A = ℕ} 0 1 = cc in absurd (omega arith)

module _ {b : List ℕ} {count : ℕ} {list₀ cells₀ marks₀ : List ℕ} {i at c m : ℕ} {list cells marks : List ℕ}
    (t : Taking b count list₀ cells₀ marks₀ i at c m list cells marks) (bytes : Bytes b) where
  module _ (h : i < count) where
    one_less : count - i ≡ suc (count - suc i)
    one_less = omega arith

    -- The image at the place, and what is found behind it.
    module _ (rows events start : ℕ) (e : front (drop at b) ≡ Ok (shape rows events start)) where
      abbrev T : Table
      T = table_as Radio (drop at b) rows events start

      abbrev rest : List Table
      rest = tables_of (left b (count - suc i) (at + length_of_image Radio rows events))

      sent : Sendable T
      sent = front_sendable (drop at b) (drop_bytes at b bytes) rows events start e

      pub image-inside : at + length_of_image Radio rows events ≤ length b
      image-inside = omega (arith, front-whole (drop at b) (drop_bytes at b bytes) rows events start e, length-drop at b, t.at_in)

      step : (left b (count - suc i) (at + length_of_image Radio rows events) ≡ tables rest) × (tables_of (left b (count - i) at) ≡ T ∷ rest)
      step = rw (next_of b at (length_of_image Radio rows events)) at
          (with_tables T (images_read (length b) (count - suc i) (drop (length_of_image Radio rows events) (drop at b))) (tables_of (left b (count - i) at))
          (sym (images_next (length b) (count - suc i) (drop at b) rows events start e) ∙ sym (ap (λ (n : ℕ). left b n at) one_less) ∙ t.found))

      list-is : list_of (tables_of (left b (count - i) at)) ≡ (rows ∷ events ∷ start ∷ []) ++ list_of rest
      unfolding list_of
      list-is = ap list_of step.1

      cells_is : cells_of (tables_of (left b (count - i) at)) ≡ T.cells ++ cells_of rest
      unfolding cells_of
      cells_is = ap cells_of step.1

      marks-is : marks_of (tables_of (left b (count - i) at)) ≡ T.marks ++ marks_of rest
      unfolding marks_of
      marks-is = ap marks_of step.1

      -- There is room for it, and its numbers are small.
      pub list_room : 3 * i + 3 ≤ length list
      list_room = omega (arith, filling-room t.list_fill (rows ∷ events ∷ start ∷ []) (list_of rest) list-is)

      pub cells_room : c + rows * events ≤ length cells
      cells_room = omega (arith, filling-room t.cells_fill T.cells (cells_of rest) cells_is, sent.0.all_cells)

      pub marks_room : m + mark_byte_count rows ≤ length marks
      marks_room = omega (arith, filling-room t.marks_fill T.marks (marks_of rest) marks-is, sent.0.all_marks)

      pub few_rows : rows ≤ 1024
      few_rows = sent.0.rows_fit

      pub few_events : events ≤ 32
      few_events = sent.0.events_fit

      pub start_inside : start < rows
      start_inside = sent.0.start_inside

      pub taken : read_in_form false Radio winch any_rows (drop at b) (length cells - c) (length marks - m) ≡ Ok (shape rows events start)
      taken = ap (λ (r : Read). roomed r (length cells - c) (length marks - m)) e
          ∙ rw (le-ltb (length cells - c) (rows * events) (omega (arith, cells_room)), le-ltb (length marks - m) (mark_byte_count rows) (omega (arith, marks_room)))

      pub taking-next : (list' cells' marks' : List ℕ) → list' ≡ over list (3 * i) (rows ∷ events ∷ start ∷ []) → cells' ≡ over cells c (Image.cells_of Radio (drop at b) rows events)
          → marks' ≡ over marks m (Image.marks_of (drop at b) rows)
          → Taking b count list₀ cells₀ marks₀ (suc i) (at + length_of_image Radio rows events) (c + rows * events) (m + mark_byte_count rows) list' cells' marks'
      taking-next list' cells' marks' hl hc hm = record {
        i_in = omega arith;
        at_in = image-inside;
        found = step.0;
        list_fill = filling-next t.list_fill (rows ∷ events ∷ start ∷ []) (list_of rest) list-is list' (3 * suc i) hl (omega arith);
        cells_fill = filling-next t.cells_fill T.cells (cells_of rest) cells_is cells' (c + rows * events) hc (omega (arith, sent.0.all_cells));
        marks_fill = filling-next t.marks_fill T.marks (marks_of rest) marks-is marks' (m + mark_byte_count rows) hm (omega (arith, sent.0.all_marks));
      }

    -- Since all was judged, no image is refused.
    pub taking-never : {A : Type 0} (r : Refusal) → read_in_form false Radio winch any_rows (drop at b) (length cells - c) (length marks - m) ≡ Err r → A
    taking-never r g =
        let (rows, events, start, e) = images_open (length b) (count - suc i) (drop at b) (tables_of (left b (count - i) at)) (sym (ap (λ (n : ℕ). left b n at) one_less) ∙ t.found) in
        let bad : Ok (shape rows events start) ≡ Err r = sym (taken rows events start e) ∙ g in
        let z : ◌≡◌ {A = ℕ} 0 1 = cc in absurd (omega arith)

  -- All were taken.
  pub taking_end : count ≤ i → (list ≡ over list₀ 0 (list_of (tables_of (left b count 2)))) × (cells ≡ over cells₀ 0 (cells_of (tables_of (left b count 2))))
      × (marks ≡ over marks₀ 0 (marks_of (tables_of (left b count 2))))
  unfolding list_of cells_of marks_of
  taking_end h =
      let n : count - i ≡ 0 = omega arith in
      let none = (images_hold (length b) (count - i) (drop at b) (drop_bytes at b bytes) (tables_of (left b (count - i) at)) t.found).count ∙ n in
      let e = no-members (tables_of (left b (count - i) at)) none in
      (filling_end t.list_fill (ap list_of e), filling_end t.cells_fill (ap cells_of e), filling_end t.marks_fill (ap marks_of e))
    where
      no-members : (l : List Table) → length l ≡ 0 → l ≡ []
      no-members [] g = refl
      no-members (T ∷ l) g = absurd (omega arith)
