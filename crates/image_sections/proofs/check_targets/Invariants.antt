use mathlib.Core.Path.{◌≡◌}
use mathlib.Core.Bool.{false}
use Prim.Native.Nat.{ℕ, ◌+◌, ◌*◌, ◌/◌, ◌<◌}
use lib.Dec.{leb}
use Rattle.images.specs.Image as Image
use Rattle.images.specs.Image.{target_at}
use Rattle.image_sections.proofs.check_targets.Given as goal

abbrev pub invariant-loop-i : goal.invariant-loop-i
invariant-loop-i l = (j : ℕ) → j < l.i → leb l.rows (target_at l.form l.image (j / l.events) (l.at + Image.width l.form * j)) ≡ false
