-- The offset and the mask in front of an image.
use mathlib.Core.Path.{◌≡◌, ap₂, ◌∙◌}
use mathlib.Core.List.{List, ◌++◌}
use Prim.Native.Nat.{ℕ, ◌-◌, ◌≤◌, ◌<◌}
use lib.ListN.{length, take, drop}
use Rattle.tables.specs.Table.{Table, Offset}
use Rattle.lines.specs.Lines.{refusal_line}
use Rattle.image_text.specs.ImageText.{text_of_image, mask_at, masked_text, offset_in, offset_text}
use Rattle.image_text.proofs.Short.{Inside}
use Rattle.image_text.proofs.Front.{short_text, whole-text, long_input, input-short, masked_short}

-- The text of a table by f, the offset and the mask.
module _ (f : Offset → ℕ → Table → List ℕ) (input : List ℕ) where
  -- An input without them.
  pub offset_short : length input < 6 → refusal_line 8 0 ≡ offset_text f input
  unfolding offset_text
  offset_short h = short_text 6 _ input h

  -- The rest of the input, as the code takes it.
  pub offset-whole : 6 ≤ length input → {k : Offset} {mask : ℕ} → k ≡ offset_in input → mask ≡ mask_at input 2
      → text_of_image (masked_text mask (f k mask)) (take (length input - 6) (drop 6 input)) ≡ offset_text f input
  unfolding offset_text
  offset-whole h e m = ap₂ (λ (j : Offset) (n : ℕ). text_of_image (masked_text n (f j n)) (take (length input - 6) (drop 6 input))) e m ∙ whole-text 6 _ input h

  -- What is printed for an input longer than any sound one does not depend on the bytes beyond the first 8,223.
  pub offset_long : (rest : List ℕ) → 8223 ≤ length input → offset_text f (input ++ rest) ≡ offset_text f input
  unfolding offset_text
  offset_long rest long = long_input 6 _ _ input rest long

  -- No text is longer than that of a table.
  pub offset_most : (most : ℕ) → 20 ≤ most → ((k : Offset) (mask : ℕ) (T : Table) → Inside T → length (f k mask T) ≤ most) → length (offset_text f input) ≤ most
  unfolding offset_text
  offset_most most room each =
      input-short 6 (masked_text (mask_at input 2) (f (offset_in input) (mask_at input 2))) most room
      (λ T inside. masked_short (mask_at input 2) (f (offset_in input) (mask_at input 2)) most room T (each (offset_in input) (mask_at input 2) T inside)) input
