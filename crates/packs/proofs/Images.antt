-- The radio images of tables that can be sent, one after another.
use mathlib.Core.Path.{◌≡◌, refl, ap₂, ◌∙◌}
use mathlib.Core.List.{List, [], ◌∷◌}
use Prim.Native.Nat.{◌+◌}
use native.Mathlib.Omega.{arith}
use lib.ListN.{length, length-append}
use Rattle.tables.specs.Table.{Table}
use Rattle.images.specs.Image.{radio_image, length_of_image}
use Rattle.images.specs.declared.Form.TheVariants.{Radio}
use Rattle.images.proofs.Numbers.{Bytes, append_bytes}
use Rattle.images.proofs.Image.{image-length, image_bytes}
use Rattle.packs.specs.Pack.{list_of, total, radio_images, Every, Sendable}
use Rattle.packs.proofs.Tables.{Laid}

pub sendable_laid : (l : List Table) → Every Sendable l → Every Laid l
sendable_laid [] h = h
sendable_laid (T ∷ l) (t, h) = (record { all_cells = t.0.all_cells; all_marks = t.0.all_marks }, sendable_laid l h)

pub images_length : (l : List Table) → Every Sendable l → length (radio_images l) ≡ total (length_of_image Radio) (list_of l)
unfolding list_of radio_images total
images_length [] h = refl
images_length (T ∷ l) (t, h) = length-append (radio_image T) (radio_images l) ∙ ap₂ ◌+◌ (image-length Radio T t.0 t.1) (images_length l h)

pub images_bytes : (l : List Table) → Every Sendable l → Bytes (radio_images l)
unfolding radio_images
images_bytes [] h i = omega arith
images_bytes (T ∷ l) (t, h) i = append_bytes (radio_image T) (radio_images l) (image_bytes Radio T t.0 t.1) (images_bytes l h) i
