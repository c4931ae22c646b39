-- One image after another: what is found with the next one.
use mathlib.Core.Path.{◌≡◌, refl, sym, ap, ◌∙◌}
use mathlib.Core.Bool.{false}
use mathlib.Core.List.{List, [], ◌∷◌, ◌++◌}
use Prim.Native.Nat.{ℕ, zero, suc, ◌+◌, ◌≤◌, ◌<◌}
use native.Mathlib.Omega.{arith}
use borrow.Author.Tests.{lt-ltb, le-ltb}
use lib.ListN.{length, drop}
use lib.Seq.{drop-drop}
use Rattle.tables.specs.Table.{Table}
use Rattle.rules.specs.Rules.{refusal, winch}
use Rattle.images.specs.Image.{radio_image, length_of_image, table_as}
use Rattle.images.specs.declared.Form.TheVariants.{Radio}
use Rattle.images.proofs.Numbers.{Bytes, drop_bytes}
use Rattle.image_sections.specs.Read.{Read, shape, any_rows, read_of}
use Rattle.std.specs.Prelude.{Ok, Err}
use Rattle.rules.specs.declared.Rule.TheVariants.{Trailing}
use Rattle.rules.specs.declared.Refusal.{Refusal}
use Rattle.image_reader.proofs.RoundTrip.{form_valid, read_front}
use Rattle.image_reader.proofs.Accepted.{accepted}
use Rattle.packs.specs.Pack.{radio_images, Every, Sendable}
use Rattle.pack_images.specs.Images.{Found, tables, with_table, refusal_in, behind, images_read, tables_of}

-- What the image at the front of bytes says, whatever follows it.
abbrev pub front : List ℕ → Read
front b = read_of false Radio winch any_rows b

-- The bytes behind an image that begins at a place.
pub next_of : (b : List ℕ) (at n : ℕ) → drop n (drop at b) ≡ drop (at + n) b
next_of b at n = drop-drop n at b

-- ---- the image at the front

module _ (b : List ℕ) (bytes : Bytes b) (rows events start : ℕ) (e : front b ≡ Ok (shape rows events start)) where
  pub front_sendable : Sendable (table_as Radio b rows events start)
  front_sendable = let v = form_valid false Radio any_rows b bytes rows events start e in (v.0, v.1)

  pub front-whole : length_of_image Radio rows events ≤ length b
  front-whole = ((accepted false Radio any_rows b bytes rows events start).0 e).whole

-- ---- the images

module _ (whole n : ℕ) (b : List ℕ) where
  pub images_next : (rows events start : ℕ) → front b ≡ Ok (shape rows events start)
      → images_read whole (suc n) b ≡ with_table (table_as Radio b rows events start) (images_read whole n (drop (length_of_image Radio rows events) b))
  unfolding images_read
  images_next rows events start e = ap (λ (r : Read). behind whole b r (λ rows events. images_read whole n (drop (length_of_image Radio rows events) b))) e

  pub images_refused : (r : Refusal) → front b ≡ Err r → images_read whole (suc n) b ≡ Err (refusal_in whole r)
  unfolding images_read
  images_refused r e = ap (λ (r : Read). behind whole b r (λ rows events. images_read whole n (drop (length_of_image Radio rows events) b))) e

module _ (whole : ℕ) (b : List ℕ) where
  pub images_end : length b ≡ 0 → images_read whole 0 b ≡ tables []
  unfolding images_read
  images_end h = rw (le-ltb 0 (length b) (omega arith))

  pub images_more : 0 < length b → images_read whole 0 b ≡ Err (refusal Trailing 0)
  unfolding images_read
  images_more h = rw (lt-ltb 0 (length b) h)

-- ---- where tables are found

pub no_tables : {A : Type 0} {r : Refusal} {l : List Table} → Err r ≡ tables l → A
no_tables e = let z : ◌≡◌ {A = ℕ} 0 1 = cc in absurd (omega arith)

-- The first of them stands in front, and the others are found behind it.
pub with_tables : (T : Table) (F : Found) (l : List Table) → with_table T F ≡ tables l → (F ≡ tables (tables_of F)) × (l ≡ T ∷ tables_of F)
with_tables T (Ok m) l e = (refl, cc)
with_tables T (Err r) l e = no_tables e

-- The image that begins with them.
pub images_open : (whole n : ℕ) (b : List ℕ) (l : List Table) → images_read whole (suc n) b ≡ tables l
    → (rows : ℕ) × (events : ℕ) × (start : ℕ) × (front b ≡ Ok (shape rows events start))
images_open whole n b l e = pick (front b) refl
  where
    pick : (r : Read) → front b ≡ r → (rows : ℕ) × (events : ℕ) × (start : ℕ) × (front b ≡ Ok (shape rows events start))
    pick (Ok s) h = (s.rows, s.events, s.start, h)
    pick (Err r) h = no_tables (sym (images_refused whole n b r h) ∙ e)

-- All that are found can be sent, they are as many as were asked for, and their images are the bytes.
pub record Holds (n : ℕ) (b : List ℕ) (l : List Table) : Type 0 where
  pub sendable : Every Sendable l
  pub count : length l ≡ n
  pub same : radio_images l ≡ b

pub images_hold : (whole n : ℕ) (b : List ℕ) → Bytes b → (l : List Table) → images_read whole n b ≡ tables l → Holds n b l
unfolding radio_images
images_hold whole zero [] bytes l e =
    let none : [] ≡ l = cc (images_end whole [] refl) in
    rw (← none) (record { sendable = tt; count = refl; same = refl })
images_hold whole zero (x ∷ b) bytes l e = no_tables (sym (images_more whole (x ∷ b) (omega arith)) ∙ e)
images_hold whole (suc n) b bytes l e =
    let (rows, events, start, g) = images_open whole n b l e in
    let rest = drop (length_of_image Radio rows events) b in
    let w = with_tables (table_as Radio b rows events start) (images_read whole n rest) l (sym (images_next whole n b rows events start g) ∙ e) in
    let h = images_hold whole n rest (drop_bytes (length_of_image Radio rows events) b bytes) (tables_of (images_read whole n rest)) w.0 in
    rw w.1 (record {
      sendable = (front_sendable b bytes rows events start g, h.sendable);
      count = ap suc h.count;
      same = ap (λ (m : List ℕ). radio_image (table_as Radio b rows events start) ++ m) h.same ∙ read_front false Radio any_rows b bytes rows events start g;
    })
