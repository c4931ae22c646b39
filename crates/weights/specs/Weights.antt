-- The mask of events that count: bits that belong to no event, and how many events count.
use Rattle.std.specs.Prelude.{Bool, not, ℕ, zero, suc, ◌+◌, ◌/◌, ◌^◌, eqb}
use Rattle.tables.specs.Table.{weight_by}

-- "A mask bit at or above the event count is set": one that belongs to no event.
unfoldable pub spare_bit_set : ℕ → ℕ → Bool
spare_bit_set mask events = not (eqb (mask / 2 ^ events) 0)

-- "How many events count", of the first m.
unfoldable pub counted : ℕ → ℕ → ℕ
counted mask zero = 0
counted mask (suc a) = counted mask a + weight_by mask a
