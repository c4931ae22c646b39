-- What a program that reads a mask and an image prints: the text of the image's table, or the refusal.
use Rattle.std.specs.Prelude.{cond, List, ℕ, ◌+◌, ◌*◌, eqb, ltb, length, drop, Ok, Err}
use Rattle.tables.specs.Table.{Table, Offset, offset, none}
use Rattle.rules.specs.Rules.{Verdict, number_of, winch, mask_rule}
use Rattle.images.specs.Image.{number_at, table_in}
use Rattle.image_sections.specs.Read.{Read, at_most, image_read}
use Rattle.lines.specs.Lines.{refusal_line}

-- The text for an image, as the reader answers it; f gives the text of a table.
abbrev pub text_of : (Table → List ℕ) → List ℕ → Read → List ℕ
text_of f image (Ok table) = f (table_in image table.rows table.events table.start)
text_of f image (Err r) = refusal_line (number_of r.rule) r.place

-- `reduce` and `sheet` take at most 128 rows.
unfoldable pub text_of_image : (Table → List ℕ) → List ℕ → List ℕ
text_of_image f image = text_of f image (image_read winch (at_most 128) image)

-- n bytes stand before the image; "fewer .. before the image give 8, place 0".
unfoldable pub input_text : ℕ → (Table → List ℕ) → List ℕ → List ℕ
input_text n f input = cond (ltb (length input) n) (refusal_line 8 0) (text_of_image f (drop n input))

-- The offset that a number of 16 bits stands for: "65,535 is none".
abbrev pub stored_offset : ℕ → Offset
stored_offset k = cond (eqb k 65535) none (offset k)

-- The mask that stands at a place: "four bytes, low first".
abbrev pub mask_at : List ℕ → ℕ → ℕ
mask_at input at = number_at input at + 65536 * number_at input (at + 2)

-- A text, or the refusal if a rule is broken.
abbrev pub text_by : Verdict → List ℕ → List ℕ
text_by (Ok u) t = t
text_by (Err r) t = refusal_line (number_of r.rule) r.place

-- The text of a table, by f, where its mask keeps rule 16, which is judged "once the image is read".
abbrev pub masked_text : ℕ → (Table → List ℕ) → Table → List ℕ
masked_text mask f T = text_by (mask_rule mask T.events) (f T)

-- "A 16-bit offset, low byte first (65,535 is none)", in front.
abbrev pub offset_in : List ℕ → Offset
offset_in input = stored_offset (number_at input 0)

-- What `reduce` and `given_up` print: "`reduce` reads the mask as four bytes, low first, after the offset", so six bytes stand before the image; f gives the text of a table.
unfoldable pub offset_text : (Offset → ℕ → Table → List ℕ) → List ℕ → List ℕ
offset_text f input =
    let mask = mask_at input 2 in
    input_text 6 (masked_text mask (f (offset_in input) mask)) input
