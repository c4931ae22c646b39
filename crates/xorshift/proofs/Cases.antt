-- The first draws of seed 1, and one step back.
use mathlib.Core.Path.{◌≡◌, refl}
use mathlib.Core.List.{[], ◌∷◌}
use Rattle.xorshift.specs.Xorshift.{step, state, draw}
use Rattle.xorshift.specs.Back.{left_back, right_back, step_back}

first_draws : draw 1 0 ∷ draw 1 1 ∷ draw 1 2 ∷ draw 1 3 ∷ draw 1 4 ∷ [] ≡ 270369 ∷ 67634689 ∷ 2647435461 ∷ 307599695 ∷ 2398689233 ∷ []
unfolding step state
first_draws = refl

first_back : step_back 270369 ≡ 1
unfolding step_back left_back right_back
first_back = refl
