-- What the pack reader checks, answers and leaves in the lent list, cells and mark bytes.
use Rattle.std.specs.Prelude.{◌||◌, List, [], ◌∷◌, ℕ, ◌*◌, ltb, length, drop, Result, Ok, Err}
use Rattle.tables.specs.Table.{Table}
use Rattle.tables.specs.Lists.{over}
use Rattle.rules.specs.Rules.{rule, judged}
use Rattle.rules.specs.declared.Rule.TheVariants.{Room}
use Rattle.rules.specs.declared.Refusal.{Refusal}
use Rattle.images.specs.Image.{number_at}
use Rattle.image_numbers.specs.Numbers.{cut_rule, checked}
use Rattle.packs.specs.Pack.{list_of, cells_needed, marks_needed, count_rule}
use Rattle.pack_images.specs.Images.{Found, tables, images_read}

-- The count, cut short (8) or not from 1 to 16 (15), and then the images.
unfoldable pub pack_read : List ℕ → Found
pack_read b = checked (judged (cut_rule b 2 ∷ count_rule (number_at b 0) ∷ [])) (images_read (length b) (number_at b 0) (drop 2 b))

-- Lastly 7, once: the lent list, cells or mark bytes are too few for all the tables.
abbrev pub roomed : Found → ℕ → ℕ → ℕ → Found
roomed (Ok l) list cells marks =
    checked (rule Room (ltb list (3 * length l) || (ltb cells (cells_needed (list_of l)) || ltb marks (marks_needed (list_of l)))) 0) (tables l)
roomed (Err r) list cells marks = Err r

-- What the reader finds, with room for so many list entries, cells and mark bytes; and what it answers.
unfoldable pub unpacked : List ℕ → ℕ → ℕ → ℕ → Found
unpacked b list cells marks = roomed (pack_read b) list cells marks

abbrev pub answer_of : Found → Result ℕ Refusal
answer_of (Ok l) = Ok (length l)
answer_of (Err r) = Err r

-- What the reader leaves in a lent buffer: its part of all the tables in front, and what was there beyond; all as it was if a rule is broken.
abbrev pub left_in : Found → (List Table → List ℕ) → List ℕ → List ℕ
left_in (Ok l) part d = over d 0 (part l)
left_in (Err r) part d = d
