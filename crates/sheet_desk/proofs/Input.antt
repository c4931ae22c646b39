-- The mask in front of the image.
use mathlib.Core.Path.{◌≡◌, ap, ◌∙◌}
use mathlib.Core.List.{List, ◌++◌}
use Prim.Native.Nat.{ℕ, ◌-◌, ◌≤◌, ◌<◌}
use lib.ListN.{length, take, drop}
use Rattle.lines.specs.Lines.{refusal_line}
use Rattle.image_text.specs.ImageText.{text_of_image, mask_at, masked_text}
use Rattle.image_text.proofs.Front as front
use Rattle.sheet_desk.specs.Printed.{text_of_sheet, printed}

-- An input without one.
pub short_text : (input : List ℕ) → length input < 4 → refusal_line 8 0 ≡ printed input
unfolding printed
short_text input h = front.short_text 4 _ input h

-- The rest of the input, as the code takes it.
pub whole-text : (input : List ℕ) → 4 ≤ length input → {mask : ℕ} → mask ≡ mask_at input 0 → text_of_image (masked_text mask (text_of_sheet mask)) (take (length input - 4) (drop 4 input)) ≡ printed input
unfolding printed
whole-text input h m = ap (λ (n : ℕ). text_of_image (masked_text n (text_of_sheet n)) (take (length input - 4) (drop 4 input))) m ∙ front.whole-text 4 _ input h

-- What `sheet` prints for an input longer than any sound one does not depend on the bytes beyond the first 8,221.
pub long_input : (input rest : List ℕ) → 8221 ≤ length input → printed (input ++ rest) ≡ printed input
unfolding printed
long_input input rest long = front.long_input 4 _ _ input rest long
