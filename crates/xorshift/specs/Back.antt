-- The way back. No promise cites it: that there is one says that no two states step to the same state.
use Rattle.std.specs.Prelude.{ℕ, zero, suc}
use Rattle.std.specs.Int.Bits.{bit_xor}
use Rattle.xorshift.specs.Xorshift.{shift_left, shift_right}

-- The number of which y is the xor with itself shifted: each round finds k bits more, from the lowest up or from the highest down.
unfoldable pub left_back : ℕ → ℕ → ℕ → ℕ → ℕ
left_back w k zero y = 0
left_back w k (suc n) y = bit_xor y (shift_left w k (left_back w k n y))

unfoldable pub right_back : ℕ → ℕ → ℕ → ℕ
right_back k zero y = 0
right_back k (suc n) y = bit_xor y (shift_right k (right_back k n y))

-- The step back: shifts 5, 17 and 13 undone, in as many rounds as 32 bits ask for.
unfoldable pub step_back : ℕ → ℕ
step_back y = left_back 32 13 3 (right_back 17 2 (left_back 32 5 7 y))
