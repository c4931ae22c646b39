-- The image of document 01's table A behind a mask that counts its one event, and what `sheet` prints for it, computed from the definitions.
use mathlib.Core.Path.{◌≡◌, refl}
use mathlib.Core.List.{List, [], ◌∷◌}
use Prim.Native.Nat.{ℕ}
use Rattle.automata.specs.Nearness.{every, rounds, near}
use Rattle.tables.specs.Lists.{tabulate, filter, some, first, position, sift}
use Rattle.tables.specs.Table.{pack, digits}
use Rattle.tables.specs.Lengths.{least, distance, lead, reached, depth}
use Rattle.tables.specs.Reduction.{similar_by, level, levels, order, similar, kept, fold, met, numbering, number, renumbered, reduced}
use Rattle.marks.specs.Marks.{spare_bits_set}
use Rattle.weights.specs.Weights.{spare_bit_set, counted}
use Rattle.image_sections.specs.Read.{read_of}
use Rattle.text.specs.Text.{text, decimal_in, decimal, joined}
use Rattle.lines.specs.Lines.{pair_line, head_line}
use Rattle.image_text.specs.ImageText.{text_of_image, input_text}
use Rattle.sheet_text.specs.Sheet.{none_line, sheet_lines}
use Rattle.sheet_desk.specs.Printed.{text_of_sheet, printed}

-- The mask, and document 01's image of A.
abbrev pub input_a : List ℕ
input_a = 1 ∷ 0 ∷ 0 ∷ 0 ∷ 3 ∷ 0 ∷ 1 ∷ 3 ∷ 0 ∷ 1 ∷ 0 ∷ 2 ∷ 0 ∷ 2 ∷ 0 ∷ 1 ∷ 0 ∷ 0 ∷ 0 ∷ []

-- Document 01 gives three of the counts: A0 has two rows, A1 one, An one. Those of offsets 2 to 6 lie between the counts at offset 1 and for none (`falls` and `last` of the sheet's promise).
pub A : printed input_a ≡ text "sheet 3 1 1\n0 2\n1 1\n2 1\n3 1\n4 1\n5 1\n6 1\nnone 1\n"
unfolding every least rounds near distance lead reached depth pack digits tabulate filter some first position sift similar_by level levels order similar kept fold met numbering number renumbered reduced spare_bits_set read_of decimal_in decimal joined pair_line head_line text_of_image input_text spare_bit_set counted none_line sheet_lines text_of_sheet printed
A = refl
