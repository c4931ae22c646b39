-- What `reduce` prints for an input longer than any sound one.
use mathlib.Core.Path.{◌≡◌}
use mathlib.Core.List.{List, ◌++◌}
use Prim.Native.Nat.{ℕ, ◌≤◌}
use lib.ListN.{length}
use Rattle.image_text.proofs.Offsets.{offset_long}
use Rattle.desk.specs.Printed.{reduction_text, printed}

-- It does not depend on the bytes beyond the first 8,223.
pub long_input : (input rest : List ℕ) → 8223 ≤ length input → printed (input ++ rest) ≡ printed input
unfolding printed
long_input input rest long = offset_long reduction_text input rest long
