-- What `given_up` prints for document 01's table C at offset 2, computed from the definitions.
use mathlib.Core.Path.{◌≡◌, refl}
use mathlib.Core.List.{List, [], ◌∷◌}
use Prim.Native.Nat.{ℕ}
use Rattle.automata.specs.Nearness.{every, rounds, near}
use Rattle.tables.specs.Lists.{tabulate, filter, some, first, position, sift}
use Rattle.tables.specs.Lengths.{least, distance, lead, reached, depth}
use Rattle.tables.specs.Reduction.{similar_by, level, levels, order, similar, kept, fold, met, numbering, number, fate_of}
use Rattle.marks.specs.Marks.{spare_bits_set}
use Rattle.weights.specs.Weights.{spare_bit_set}
use Rattle.image_sections.specs.Read.{read_of}
use Rattle.chosen.specs.Choice.{first_some, look_at, chosen_at, chosen}
use Rattle.chosen.specs.GivenUp.{given_up}
use Rattle.text.specs.Text.{text, decimal_in, decimal, joined}
use Rattle.loss_text.specs.LossText.{event_word, loss_line}
use Rattle.image_text.specs.ImageText.{text_of_image, input_text, offset_text}
use Rattle.loss_desk.specs.Printed.{line_of, text_of_losses, printed}

-- Offset 2, a mask that counts the one event, and the image of C.
abbrev pub input_c2 : List ℕ
input_c2 = 2 ∷ 0 ∷ 1 ∷ 0 ∷ 0 ∷ 0 ∷ 4 ∷ 0 ∷ 2 ∷ 4 ∷ 0 ∷ 1 ∷ 0 ∷ 2 ∷ 0 ∷ 3 ∷ 0 ∷ 3 ∷ 0 ∷ 1 ∷ 0 ∷ 0 ∷ 0 ∷ []

pub C2 : printed input_c2 ≡ text "0 folded 3 distance 2 run 0\n1 folded 3 distance 1 run\n2 folded 3 distance 0 run\n"
unfolding every least rounds near distance lead reached depth tabulate filter some first position sift similar_by level levels order similar kept fold met numbering number fate_of first_some look_at chosen_at chosen given_up spare_bits_set read_of decimal_in decimal joined event_word loss_line line_of text_of_losses text_of_image input_text offset_text spare_bit_set printed
C2 = refl
