-- What stands in the images of a pack.
use Rattle.std.specs.Prelude.{false, cond, List, [], ◌∷◌, ℕ, zero, suc, eqb, ltb, length, drop, Result, Ok, Err}
use Rattle.tables.specs.Table.{Table}
use Rattle.rules.specs.Rules.{number_of, refusal, rule, winch}
use Rattle.rules.specs.declared.Rule.TheVariants.{Trailing}
use Rattle.rules.specs.declared.Refusal.{Refusal}
use Rattle.images.specs.Image.{length_of_image, table_as}
use Rattle.images.specs.declared.Form.TheVariants.{Radio}
use Rattle.image_numbers.specs.Numbers.{checked}
use Rattle.image_sections.specs.Read.{Read, any_rows, read_of}

-- What stands in a pack: its tables, or a refusal.
abbrev pub Found : Type 0
Found = Result (List Table) Refusal

abbrev pub tables : List Table → Found
tables l = Ok l

-- A table, and what is found behind it.
abbrev pub with_table : Table → Found → Found
with_table T (Ok l) = Ok (T ∷ l)
with_table T (Err r) = Err r

-- Places count within the table at fault, but 8 gives the pack's length.
abbrev pub place_in : ℕ → Refusal → ℕ
place_in whole r = cond (eqb (number_of r.rule) 8) whole r.place

-- The refusal of an image in a pack of so many bytes.
abbrev pub refusal_in : ℕ → Refusal → Refusal
refusal_in whole r = refusal r.rule (place_in whole r)

-- An image at the front of bytes, and what is found behind it.
abbrev pub behind : ℕ → List ℕ → Read → (ℕ → ℕ → Found) → Found
behind whole b (Ok table) rest = with_table (table_as Radio b table.rows table.events table.start) (rest table.rows table.events)
behind whole b (Err r) rest = Err (refusal_in whole r)

-- So many images in bytes, each from the byte where the one before it ends; bytes left over (10) are judged after the last.
unfoldable pub images_read : ℕ → ℕ → List ℕ → Found
images_read whole zero b = checked (rule Trailing (ltb 0 (length b)) 0) (tables [])
images_read whole (suc n) b = behind whole b (read_of false Radio winch any_rows b) (λ rows events. images_read whole n (drop (length_of_image Radio rows events) b))

-- The tables that are found.
abbrev pub tables_of : Found → List Table
tables_of (Ok l) = l
tables_of (Err r) = []
