use mathlib.Core.Path.{◌≡◌}
use mathlib.Core.Bool.{false}
use Prim.Native.Nat.{ℕ, ◌/◌, ◌<◌}
use lib.ListN.{get_or}
use Rattle.steps.specs.Steps.{step_of}
use Rattle.images.specs.Image.{far}
use Rattle.image_rules.proofs.check_steps.Given as goal

abbrev pub invariant-loop-i : goal.invariant-loop-i
invariant-loop-i l = (j : ℕ) → j < l.i → far (step_of (j / l.events) (get_or l.cells j 0)) ≡ false
