-- A line with a run and one with none, computed from the definitions.
use mathlib.Core.Path.{◌≡◌, refl}
use mathlib.Core.List.{[], ◌∷◌}
use Rattle.text.specs.Text.{text, decimal_in, decimal, joined}
use Rattle.loss_text.specs.LossText.{event_word, loss_line}

pub run : loss_line 7 2 3 (0 ∷ 11 ∷ 0 ∷ []) ≡ text "7 folded 2 distance 3 run 0 11 0\n"
unfolding decimal_in decimal joined event_word loss_line
run = refl

pub none : loss_line 7 2 0 [] ≡ text "7 folded 2 distance 0 run\n"
unfolding decimal_in decimal joined event_word loss_line
none = refl
