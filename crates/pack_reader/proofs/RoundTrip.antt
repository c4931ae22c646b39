-- The pack of 1 to 16 tables that can be sent reads back as these tables; an accepted pack is that of the tables read.
use mathlib.Core.Path.{◌≡◌, refl, sym, ap, ap₂, ◌∙◌}
use mathlib.Core.Bool.{false}
use mathlib.Core.List.{List, [], ◌∷◌, ◌++◌}
use mathlib.Core.Logic.{◌↔◌}
use Prim.Native.Nat.{ℕ, ◌≤◌}
use native.Mathlib.Omega.{arith}
use borrow.Author.Tests.{ltb-false}
use lib.ListN.{length, drop}
use lib.Seq.{drop_at}
use Rattle.automata.proofs.Tests.{clash}
use Rattle.tables.specs.Table.{Table}
use Rattle.rules.specs.Rules.{Verdict, sound, judged}
use Rattle.std.specs.Prelude.{Ok, Err}
use Rattle.rules.proofs.Checks.{unbroken, passed, inside}
use Rattle.images.specs.Image.{number, number_at, radio_image, length_of_image, table_as}
use Rattle.images.specs.declared.Form.TheVariants.{Radio}
use Rattle.images.proofs.Numbers.{Bytes, number-at, number-on, drop_bytes}
use Rattle.images.proofs.Image.{image-length, image-table}
use Rattle.image_numbers.specs.Numbers.{cut_rule, checked}
use Rattle.image_sections.specs.Read.{shape, any_rows}
use Rattle.image_reader.proofs.RoundTrip.{front_read}
use Rattle.packs.specs.Pack.{radio_images, pack, count_rule, Every, Sendable}
use Rattle.packs.proofs.Images.{images_bytes}
use Rattle.pack_images.specs.Images.{Found, tables, with_table, images_read}
use Rattle.pack_images.proofs.Walk.{front, images_next, images_end, images_hold, no_tables}
use Rattle.pack_reader.specs.Read.{pack_read}
use Rattle.pack_reader.proofs.Reading.{pack-images}

-- ---- the pack of tables

images_read_lem : (whole : ℕ) (l : List Table) → Every Sendable l → images_read whole (length l) (radio_images l) ≡ tables l
unfolding radio_images
images_read_lem whole [] h = images_end whole [] refl
images_read_lem whole (T ∷ l) (t, h) =
    let r = radio_images l in
    let b = radio_image T ++ r in
    let e : front b ≡ Ok (shape T.rows T.events T.start) = front_read Radio T t.0 t.1 r b refl false (λ f. clash f refl) any_rows refl (images_bytes l h) in
    let same : table_as Radio b T.rows T.events T.start ≡ T = image-table Radio T t.0 t.1 r b refl in
    let rest : drop (length_of_image Radio T.rows T.events) b ≡ r = drop_at (radio_image T) r _ (image-length Radio T t.0 t.1) in
    images_next whole (length l) b T.rows T.events T.start e
    ∙ ap₂ with_table same (ap (images_read whole (length l)) rest ∙ images_read_lem whole l h)

-- It is accepted.
pub pack_read_lem : (l : List Table) → Every Sendable l → 1 ≤ length l → length l ≤ 16 → pack_read (pack l) ≡ tables l
pack_read_lem l h some few =
    let count : number_at (pack l) 0 ≡ length l = number-at (pack l) 0 (length l) (radio_images l) refl (omega arith) in
    pack-images (pack l) (omega arith) (rw count ((inside 16 (length l)).1 (some, few)))
    ∙ ap (λ (n : ℕ). images_read (length (pack l)) n (radio_images l)) count ∙ images_read_lem (length (pack l)) l h

-- ---- accepted bytes

found-fine : (v : Verdict) (f : Found) (l : List Table) → checked v f ≡ tables l → (v ≡ sound) × (f ≡ tables l)
found-fine (Ok u) f l e = (refl, e)
found-fine (Err r) f l e = no_tables e

-- Read and written again, they are the same bytes; the tables read can be sent, and there are 1 to 16.
pub read_pack : (b : List ℕ) → Bytes b → (l : List Table) → pack_read b ≡ tables l → (pack l ≡ b) × Every Sendable l × (1 ≤ length l) × (length l ≤ 16)
unfolding pack_read
read_pack b bytes l e =
    let f = found-fine (judged (cut_rule b 2 ∷ count_rule (number_at b 0) ∷ [])) _ l e in
    let at = passed (cut_rule b 2 ∷ count_rule (number_at b 0) ∷ []) f.0 in
    let two : 2 ≤ length b = ltb-false _ _ (unbroken _ _ _ (at 0)) in
    let some = (inside 16 (number_at b 0)).0 (unbroken _ _ _ (at 1)) in
    let h = images_hold (length b) (number_at b 0) (drop 2 b) (drop_bytes 2 b bytes) l f.1 in
    (ap₂ (λ (n : ℕ) (r : List ℕ). number n ++ r) h.count h.same ∙ sym (number-on b bytes 0 two), h.sendable, omega (arith, h.count, some.0), omega (arith, h.count, some.1))

-- They are the packs of 1 to 16 tables that can be sent, and nothing else.
pub packs_exactly : (b : List ℕ) → Bytes b
    → ((l : List Table) × (pack_read b ≡ tables l)) ↔ ((l : List Table) × Every Sendable l × (1 ≤ length l) × (length l ≤ 16) × (pack l ≡ b))
packs_exactly b bytes = (
  λ (l, e). let r = read_pack b bytes l e in (l, r.1, r.2, r.3, r.0),
  λ (l, h, some, few, e). (l, rw e at (pack_read_lem l h some few)),
)
