-- Marsaglia's xorshift with shifts 13 left, 17 right, 5 left, cut to 32 bits, and what is drawn by it.
use Rattle.std.specs.Prelude.{ℕ, zero, suc, ◌*◌, ◌/◌, ◌%◌, ◌^◌}
use Rattle.std.specs.Int.Bits.{bit_xor}

-- A number shifted k bits to the left, cut to w bits; and k bits to the right.
abbrev pub shift_left : ℕ → ℕ → ℕ → ℕ
shift_left w k x = x * 2 ^ k % 2 ^ w

abbrev pub shift_right : ℕ → ℕ → ℕ
shift_right k x = x / 2 ^ k

-- A number's xor with itself shifted.
abbrev pub xor_left : ℕ → ℕ → ℕ → ℕ
xor_left w k x = bit_xor x (shift_left w k x)

abbrev pub xor_right : ℕ → ℕ → ℕ
xor_right k x = bit_xor x (shift_right k x)

-- One step.
unfoldable pub step : ℕ → ℕ
step x = xor_left 32 5 (xor_right 17 (xor_left 32 13 x))

-- The state after i steps.
unfoldable pub state : ℕ → ℕ → ℕ
state seed zero = seed
state seed (suc i) = step (state seed i)

-- "A draw is the state after one step": draw i, from 0 on, is that after i others.
abbrev pub draw : ℕ → ℕ → ℕ
draw seed i = step (state seed i)
