-- The bytes in front of an image, and rule Mask behind it.
use mathlib.Core.Path.{◌≡◌, ap}
use mathlib.Core.Bool.{Bool, true, false, cond}
use mathlib.Core.List.{List, ◌++◌}
use Prim.Native.Nat.{ℕ, ◌+◌, ◌-◌, ◌≤◌, ◌<◌}
use native.Mathlib.Omega.{arith}
use borrow.Author.Tests.{lt-ltb, le-ltb}
use lib.Dec.{ltb}
use lib.ListN.{length, take, drop, length-append, length-drop}
use lib.Seq.{take_all, drop-append-le}
use Rattle.tables.specs.Table.{Table}
use Rattle.weights.specs.Weights.{spare_bit_set}
use Rattle.rules.specs.Rules.{rule}
use Rattle.rules.specs.declared.Rule.TheVariants.{Mask}
use Rattle.lines.specs.Lines.{refusal_line}
use Rattle.lines.proofs.Short.{refusal_short}
use Rattle.image_text.specs.ImageText.{text_of_image, input_text, text_by, masked_text}
use Rattle.image_text.proofs.Long.{long_image}
use Rattle.image_text.proofs.Short.{Inside, image_short}

module _ (n : ℕ) where
  -- An input that has fewer.
  pub short_text : (f : Table → List ℕ) (input : List ℕ) → length input < n → refusal_line 8 0 ≡ input_text n f input
  unfolding input_text
  short_text f input h = rw (lt-ltb (length input) n h)

  -- The rest of the input, as the code takes it.
  pub whole-text : (f : Table → List ℕ) (input : List ℕ) → n ≤ length input → text_of_image f (take (length input - n) (drop n input)) ≡ input_text n f input
  unfolding input_text
  whole-text f input h = rw (le-ltb (length input) n h) (ap (text_of_image f) (take_all (length input - n) (drop n input) (omega (arith, length-drop n input))))

  -- An input longer than any sound one is refused whatever the text of a table would be; bytes beyond change nothing.
  pub long_input : (f g : Table → List ℕ) (input rest : List ℕ) → n + 8217 ≤ length input → input_text n f (input ++ rest) ≡ input_text n g input
  unfolding input_text
  long_input f g input rest long =
      let size : 8217 ≤ length (drop n input) = omega (arith, length-drop n input) in
      let enough : n ≤ length (input ++ rest) = omega (arith, length-append input rest) in
      let image : drop n (input ++ rest) ≡ drop n input ++ rest = drop-append-le n input rest (omega arith) in
      rw (le-ltb (length (input ++ rest)) n enough, le-ltb (length input) n (omega arith), image) (long_image f g (drop n input) rest size)

  -- No text is longer than that of a table.
  module _ (f : Table → List ℕ) (most : ℕ) (room : 20 ≤ most) (each : (T : Table) → Inside T → length (f T) ≤ most) where
    pub input-short : (input : List ℕ) → length (input_text n f input) ≤ most
    unfolding input_text
    input-short input = pick (ltb (length input) n)
      where
        pick : (t : Bool) → length (cond t (refusal_line 8 0) (text_of_image f (drop n input))) ≤ most
        pick true = omega (arith, refusal_short 8 0 (omega arith) (omega arith))
        pick false = image_short f most room each (drop n input)

-- The text of a table whose mask may be refused.
pub masked_short : (mask : ℕ) (f : Table → List ℕ) (most : ℕ) → 20 ≤ most → (T : Table) → length (f T) ≤ most → length (masked_text mask f T) ≤ most
masked_short mask f most room T h = pick (spare_bit_set mask T.events)
  where
    pick : (t : Bool) → length (text_by (rule Mask t 0) (f T)) ≤ most
    pick true = omega (arith, refusal_short 16 0 (omega arith) (omega arith))
    pick false = h
