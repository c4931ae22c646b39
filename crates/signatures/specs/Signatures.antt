-- Which rows have one signature, and what a change concerns. A stored table has m events a row; of the lent scratch's regions of n cells one has, by row, its class of the
-- level before (its value, the place of its leader), and one the level at which that changed last.
use Rattle.std.specs.Prelude.{◌≡◌, cond, List, ℕ, zero, suc, ◌+◌, ◌*◌, ◌/◌, ◌%◌, ◌<◌, eqb, get_or}
use Rattle.tables.specs.Table.{weight_by}

-- The value of a row, and the level at which that changed last.
abbrev pub value_at : ℕ → List ℕ → ℕ → ℕ
value_at n s q = get_or s (2 * n + q) 0

abbrev pub stamp_at : ℕ → List ℕ → ℕ → ℕ
stamp_at n s q = get_or s (5 * n + q) 0

abbrev pub target_at : ℕ → List ℕ → ℕ → ℕ → ℕ
target_at m cells q a = get_or cells (q * m + a) 0

-- The class to which an event leads row q.
abbrev pub class_at : ℕ → ℕ → List ℕ → List ℕ → ℕ → ℕ → ℕ
class_at n m cells s q a = value_at n s (target_at m cells q a)

-- An event says the same of rows q and p: if it counts, it leads them to one class.
abbrev pub Says : ℕ → ℕ → ℕ → List ℕ → List ℕ → ℕ → ℕ → ℕ → Type 0
Says mask n m cells s q p a = weight_by mask a ≡ 1 → class_at n m cells s q a ≡ class_at n m cells s p a

-- Rows q and p have one signature.
abbrev pub Signed : ℕ → ℕ → ℕ → List ℕ → List ℕ → ℕ → ℕ → Type 0
Signed mask n m cells s q p = (a : ℕ) → a < m → Says mask n m cells s q p a

-- A key with one event more of row q, and the key of the row: any number would do that rows of one signature share.
abbrev pub mixed_at : ℕ → ℕ → ℕ → List ℕ → List ℕ → ℕ → ℕ → ℕ → ℕ
mixed_at mask n m cells s q a x = cond (eqb (weight_by mask a) 1) ((x + class_at n m cells s q a + 1) * 739982445 % 4294967296) x

unfoldable pub mixed_to : ℕ → ℕ → ℕ → List ℕ → List ℕ → ℕ → ℕ → ℕ
mixed_to mask n m cells s q zero = 0
mixed_to mask n m cells s q (suc a) = mixed_at mask n m cells s q a (mixed_to mask n m cells s q a)

abbrev pub key_of : ℕ → ℕ → ℕ → List ℕ → List ℕ → ℕ → ℕ
key_of mask n m cells s q = mixed_to mask n m cells s q m / 65536

-- Some event leads row q to a row whose class changed at level `last`.
abbrev pub Changed : ℕ → ℕ → List ℕ → List ℕ → ℕ → ℕ → Type 0
Changed n m cells s last q = (a : ℕ) × (a < m) × (stamp_at n s (target_at m cells q a) ≡ last)
