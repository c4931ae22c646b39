-- What the reader's last check comes to, and its four promises; parts of lent buffers written to.
use mathlib.Core.Path.{◌≡◌, refl, sym, ap, ◌∙◌}
use mathlib.Core.Bool.{Bool, true, false, ◌||◌}
use mathlib.Core.List.{List}
use Prim.Native.Nat.{ℕ, ◌*◌, ◌≤◌, ◌<◌}
use native.Mathlib.Omega.{arith}
use borrow.Author.Tests.{lt-ltb, le-ltb}
use lib.Dec.{ltb}
use lib.ListN.{length, drop}
use Rattle.automata.proofs.Tests.{or_left, or_right}
use Rattle.tables.specs.Table.{Table}
use Rattle.tables.specs.Lists.{over}
use Rattle.tables.proofs.Over.{rest, with_rest, rest_is, rest_same, rest_over}
use Rattle.rules.specs.Rules.{refusal, rule, outside}
use Rattle.rules.proofs.Checks.{inside}
use Rattle.images.specs.Image as Image
use Rattle.images.specs.Image.{number_at}
use Rattle.images.specs.declared.Form.TheVariants.{Radio}
use Rattle.images.proofs.Numbers.{Bytes, drop_bytes}
use Rattle.image_numbers.specs.Numbers.{got, checked, number_section}
use Rattle.image_numbers.proofs.Numbers.{Number, number_got}
use Rattle.image_sections.specs.Read.{Read}
use Rattle.std.specs.Prelude.{Result, Ok, Err}
use Rattle.rules.specs.declared.Rule.TheVariants.{Room, Short, Pack}
use Rattle.rules.specs.declared.Refusal.{Refusal}
use Rattle.image_reader.specs.Read.{cells_as, marks_in}
use Rattle.packs.specs.Pack.{list_of, cells_of, marks_of, cells_needed, marks_needed}
use Rattle.pack_images.specs.Images.{Found, tables, images_read, tables_of}
use Rattle.pack_images.specs.Judge.{needs, needed_by}
use Rattle.pack_images.specs.declared.Needs.{Needs}
use Rattle.pack_images.proofs.Walk.{images_hold}
use Rattle.pack_reader.specs.Read.{pack_read, roomed, unpacked, answer_of, left_in}
use Rattle.pack_reader.specs.Walk.{part_from}

-- ---- parts of lent buffers

-- The rest of a buffer, lent to the image reader.
pub rest_from : (d : List ℕ) (a : ℕ) (r : Read) (part : ℕ → ℕ → List ℕ) (p : List ℕ) → p ≡ part_from r part (rest d a) 0 → with_rest d a p ≡ part_from r part d a
rest_from d a (Ok s) part p e = ap (with_rest d a) e ∙ rest_over d a (part s.rows s.events)
rest_from d a (Err x) part p e = ap (with_rest d a) e ∙ rest_same d a

-- What the image reader leaves in a buffer, said of its part.
pub cells_part : (r : Read) (b d : List ℕ) → cells_as Radio r b d ≡ part_from r (λ rows events. Image.cells_of Radio b rows events) d 0
cells_part (Ok s) b d = refl
cells_part (Err x) b d = refl

pub marks_part : (r : Read) (b d : List ℕ) → marks_in r b d ≡ part_from r (λ rows events. Image.marks_of b rows) d 0
marks_part (Ok s) b d = refl
marks_part (Err x) b d = refl

-- ---- what the checks come to

-- The count.
module _ (b : List ℕ) where
  pub pack_cut : length b < 2 → pack_read b ≡ Err (refusal Short (length b))
  unfolding pack_read
  pack_cut h = rw (lt-ltb (length b) 2 h)

  module _ (h : 2 ≤ length b) where
    pub pack-count : outside 16 (number_at b 0) ≡ true → pack_read b ≡ Err (refusal Pack 0)
    unfolding pack_read
    pack-count t = rw (le-ltb (length b) 2 h, t)

    pub pack-images : outside 16 (number_at b 0) ≡ false → pack_read b ≡ images_read (length b) (number_at b 0) (drop 2 b)
    unfolding pack_read
    pack-images t = rw (le-ltb (length b) 2 h, t)

-- A count that was read and is from 1 to 16: the images follow.
pub record Counted (b : List ℕ) (count : ℕ) : Type 0 where
  pub two : 2 ≤ length b
  pub few : count ≤ 16
  pub images : pack_read b ≡ images_read (length b) count (drop 2 b)

module _ (b : List ℕ) (count next : ℕ) (e : number_section b 0 ≡ got count next) where
  abbrev number : Number b 0 count next
  number = number_got b 0 count next e

  pub count-outside : outside 16 count ≡ true → pack_read b ≡ Err (refusal Pack 0)
  count-outside t = pack-count b (omega (arith, number.inside)) (rw number.value_is at t)

  pub counted : outside 16 count ≡ false → Counted b count
  counted t = record {
    two = omega (arith, number.inside);
    few = ((inside 16 count).0 t).1;
    images = rw number.value_is (pack-images b (omega (arith, number.inside)) (rw number.value_is at t));
  }

-- What judging the images tells.
needed-refused : (F : Found) (r : Refusal) → needed_by F ≡ Err r → F ≡ Err r
needed-refused (Ok l) r e = let z : ◌≡◌ {A = ℕ} 0 1 = cc in absurd (omega arith)
needed-refused (Err x) r e = cc

needed-room : (F : Found) (n : Needs) → needed_by F ≡ Ok n → (F ≡ tables (tables_of F)) × (cells_needed (list_of (tables_of F)) ≡ n.cells) × (marks_needed (list_of (tables_of F)) ≡ n.marks)
needed-room (Ok l) n e =
    let same : needs (cells_needed (list_of l)) (marks_needed (list_of l)) ≡ n = cc in
    (refl, ap (λ (x : Needs). x.cells) same, ap (λ (x : Needs). x.marks) same)
needed-room (Err r) n e = let z : ◌≡◌ {A = ℕ} 0 1 = cc in absurd (omega arith)

-- Judged and found fine: the tables, as many as the count says, and what they need.
pub record Needed (b : List ℕ) (count : ℕ) (n : Needs) (l : List Table) : Type 0 where
  pub is : pack_read b ≡ tables l
  pub many : length l ≡ count
  pub cells_are : cells_needed (list_of l) ≡ n.cells
  pub marks_are : marks_needed (list_of l) ≡ n.marks
  pub found : images_read (length b) count (drop 2 b) ≡ tables l

module _ {b : List ℕ} {count : ℕ} (k : Counted b count) where
  -- The images are lent as the rest of the pack.
  lent : needed_by (images_read (length b) count (drop 2 b)) ≡ needed_by (images_read (length b) count (rest b 2))
  lent = ap (λ (l : List ℕ). needed_by (images_read (length b) count l)) (sym (rest_is b 2))

  pub needed-never : (r : Refusal) → needed_by (images_read (length b) count (rest b 2)) ≡ Err r → pack_read b ≡ Err r
  needed-never r e = k.images ∙ needed-refused (images_read (length b) count (drop 2 b)) r (lent ∙ e)

  pub needed : Bytes b → (n : Needs) → needed_by (images_read (length b) count (rest b 2)) ≡ Ok n → Needed b count n (tables_of (images_read (length b) count (drop 2 b)))
  needed bytes n e =
      let r = needed-room (images_read (length b) count (drop 2 b)) n (lent ∙ e) in
      record {
        is = k.images ∙ r.0;
        many = (images_hold (length b) count (drop 2 b) (drop_bytes 2 b bytes) _ r.0).count;
        cells_are = r.1;
        marks_are = r.2;
        found = r.0;
      }

-- ---- the reader's four promises

module _ (b list cells marks : List ℕ) where
  abbrev found : Found
  found = unpacked b (length list) (length cells) (length marks)

  -- The answer r, with what is left in the list, the cells and the mark bytes.
  abbrev pub Unpacks : Result ℕ Refusal → List ℕ → List ℕ → List ℕ → Type 0
  Unpacks r list' cells' marks' = (r ≡ answer_of found) × (list' ≡ left_in found list_of list) × (cells' ≡ left_in found cells_of cells) × (marks' ≡ left_in found marks_of marks)

  by : (F : Found) → found ≡ F → Unpacks (answer_of F) (left_in F list_of list) (left_in F cells_of cells) (left_in F marks_of marks)
  by F e = rw (← e) (refl, refl, refl, refl)

  pub unpacks_refused : (r : Refusal) → pack_read b ≡ Err r → Unpacks (Err r) list cells marks
  unfolding unpacked
  unpacks_refused r e = by (Err r) (ap (λ (F : Found). roomed F (length list) (length cells) (length marks)) e)

  module _ (l : List Table) (e : pack_read b ≡ tables l) where
    abbrev short : Bool
    short = ltb (length list) (3 * length l) || (ltb (length cells) (cells_needed (list_of l)) || ltb (length marks) (marks_needed (list_of l)))

    last : found ≡ checked (rule Room short 0) (tables l)
    unfolding unpacked
    last = ap (λ (F : Found). roomed F (length list) (length cells) (length marks)) e

    unpacks-short : short ≡ true → Unpacks (Err (refusal Room 0)) list cells marks
    unpacks-short t = by (Err (refusal Room 0)) (last ∙ ap (λ (u : Bool). checked (rule Room u 0) (tables l)) t)

    pub short_list : length list < 3 * length l → Unpacks (Err (refusal Room 0)) list cells marks
    short_list h = unpacks-short (or_left _ _ (lt-ltb _ _ h))

    pub short_cells : length cells < cells_needed (list_of l) → Unpacks (Err (refusal Room 0)) list cells marks
    short_cells h = unpacks-short (or_right (ltb (length list) (3 * length l)) _ (or_left _ _ (lt-ltb _ _ h)))

    pub short-marks : length marks < marks_needed (list_of l) → Unpacks (Err (refusal Room 0)) list cells marks
    short-marks h = unpacks-short (or_right (ltb (length list) (3 * length l)) _ (or_right (ltb (length cells) (cells_needed (list_of l))) _ (lt-ltb _ _ h)))

    pub unpacks-tables : 3 * length l ≤ length list → cells_needed (list_of l) ≤ length cells → marks_needed (list_of l) ≤ length marks
        → Unpacks (Ok (length l)) (over list 0 (list_of l)) (over cells 0 (cells_of l)) (over marks 0 (marks_of l))
    unpacks-tables h g k = by (tables l) (last ∙ rw (le-ltb (length list) (3 * length l) h, le-ltb (length cells) (cells_needed (list_of l)) g, le-ltb (length marks) (marks_needed (list_of l)) k))
