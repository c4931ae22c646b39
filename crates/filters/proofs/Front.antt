-- The front of a buffer with a text in it.
use mathlib.Core.Path.{◌≡◌}
use mathlib.Core.List.{List}
use Prim.Native.Nat.{ℕ, min}
use native.Mathlib.Omega.{arith}
use lib.ListN.{length, take, drop, length-take}
use lib.Seq.{take_at}
use Rattle.text.specs.Text.{filled}

-- As many bytes as were written are the text, as far as there is room.
pub filled_front : (room t : List ℕ) (n : ℕ) → n ≡ min (length t) (length room) → take n (filled room t) ≡ take (length room) t
unfolding filled
filled_front room t n e = take_at (take (length room) t) (drop (length t) room) n (omega (arith, length-take (length room) t))
