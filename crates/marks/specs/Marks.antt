-- Marks in packed bytes: one bit replaced, and the spare bits of the last byte.
use Rattle.std.specs.Prelude.{Bool, not, ◌&&◌, List, ℕ, ◌+◌, ◌-◌, ◌*◌, ◌/◌, ◌%◌, ◌^◌, eqb, get_or, set}

-- The byte with the bit worth 2^i replaced by m.
abbrev pub with_bit : ℕ → ℕ → ℕ → ℕ
with_bit byte i m = byte - byte / 2 ^ i % 2 * 2 ^ i + m * 2 ^ i

-- The bytes with the mark of row r replaced by m; beyond the bytes nothing changes.
unfoldable pub marked : List ℕ → ℕ → ℕ → List ℕ
marked marks r m = set marks (r / 8) (with_bit (get_or marks (r / 8) 0) (r % 8) m)

-- A spare bit of the last byte is set: one that belongs to no row.
unfoldable pub spare_bits_set : ℕ → ℕ → Bool
spare_bits_set rows last = not (eqb (rows % 8) 0) && not (eqb (last / 2 ^ (rows % 8)) 0)
