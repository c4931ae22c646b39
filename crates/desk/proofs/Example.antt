-- The input that document 01 gives for A0, with the mask of document 02 behind the offset, and the text that they say `reduce` prints for it, computed from the definitions.
use mathlib.Core.Path.{◌≡◌, refl}
use mathlib.Core.List.{List, [], ◌∷◌}
use Prim.Native.Nat.{ℕ}
use Rattle.automata.specs.Nearness.{every, rounds, near}
use Rattle.tables.specs.Lists.{tabulate, filter, some, first, position, sift}
use Rattle.tables.specs.Table.{pack, digits}
use Rattle.tables.specs.Lengths.{least, distance, lead, reached, depth}
use Rattle.tables.specs.Reduction.{similar_by, level, levels, order, similar, kept, fold, met, numbering, number, renumbered, fate_of, reduced, records}
use Rattle.marks.specs.Marks.{spare_bits_set}
use Rattle.weights.specs.Weights.{spare_bit_set, counted}
use Rattle.image_sections.specs.Read.{read_of}
use Rattle.text.specs.Text.{text, decimal_in, decimal, joined}
use Rattle.lines.specs.Lines.{pair_line, head_line}
use Rattle.listing.specs.Listing.{target_word, mark_words, row_line, depth_words, fate_words, record_line, listing}
use Rattle.image_text.specs.ImageText.{text_of_image, input_text, offset_text}
use Rattle.desk.specs.Printed.{reduction_text, printed}

-- Offset 0, a mask that counts the one event, and the image of A.
abbrev pub input_a0 : List ℕ
input_a0 = 0 ∷ 0 ∷ 1 ∷ 0 ∷ 0 ∷ 0 ∷ 3 ∷ 0 ∷ 1 ∷ 3 ∷ 0 ∷ 1 ∷ 0 ∷ 2 ∷ 0 ∷ 2 ∷ 0 ∷ 1 ∷ 0 ∷ 0 ∷ 0 ∷ []

pub A0 : printed input_a0 ≡ text "table 2 1 1\n0 1 ready\n1 1 wait\nfolds 3\n0 kept 0 depth 0\n1 folded 2 depth 1\n2 kept 1 depth endless\n"
unfolding every least rounds near distance lead reached depth pack digits tabulate filter some first position sift similar_by level levels order similar kept fold met numbering number renumbered fate_of reduced records spare_bits_set read_of decimal_in decimal joined pair_line head_line target_word mark_words row_line depth_words fate_words record_line listing reduction_text text_of_image input_text offset_text spare_bit_set counted printed
A0 = refl
