-- "a signed byte, target minus own row": steps from row to row, and the bytes that hold them.
use Rattle.std.specs.Prelude.{Bool, true, false, cond, ◌||◌, ℕ, ◌-◌, ltb, Option, Some, None, ℤ, pos, negsuc, ◌+ℤ◌, ◌-ℤ◌}
use Rattle.std.specs.Int.Signed.{lt_z}

-- A step outside −128 to 127 is too far (`negsuc k` is −1 − k).
abbrev pub small : Bool → ℤ → Option ℤ
small true d = None
small false d = Some d

-- The step from a row to its target: target minus own row.
abbrev pub step_of : ℕ → ℕ → Option ℤ
step_of row target = let d = pos target -ℤ pos row in small (lt_z d (negsuc 127) || lt_z (pos 127) d) d

-- The byte of a step and the step of a byte: 0 to 127 are themselves, 128 to 255 are −128 to −1.
abbrev pub byte_of_step : ℤ → ℕ
byte_of_step (pos k) = k
byte_of_step (negsuc k) = 255 - k

abbrev pub step_of_byte : ℕ → ℤ
step_of_byte b = cond (ltb b 128) (pos b) (negsuc (255 - b))

-- The row that a step leads to. One off the table's front leads to no row: 65,535, which no table of 16-bit row counts has.
abbrev pub row_at : ℤ → ℕ
row_at (pos k) = k
row_at (negsuc k) = 65535

abbrev pub landing : ℕ → ℤ → ℕ
landing row d = row_at (pos row +ℤ d)
