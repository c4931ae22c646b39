-- Distance and depth as functions that compute. That they are `IsDistance` and `IsDepth` is proved in proofs/Lengths.antt.
use Rattle.std.specs.Prelude.{Bool, true, false, not, cond, ℕ, zero, suc, ◌+◌, ◌-◌, eqb, ltb}
use Rattle.automata.specs.Runs.{Events, Machine, Len, len, endless}
use Rattle.automata.specs.Nearness.{near}

-- The least number from i on, of n numbers, that passes the test; endless if none does.
unfoldable pub least : (ℕ → Bool) → ℕ → ℕ → Len
least f zero i = endless
least f (suc n) i = elim (f i) [ true ↦ len i | false ↦ least f n (suc i) ]

-- The distance of two rows: the least L with `near`, which is below the number of rows or not at all.
unfoldable pub distance : Events → Machine → ℕ → ℕ → Len
distance E M q p = least (λ L. near E M M.rows L q p) M.rows 0

-- Two machines beside one another: the rows of N follow those of M.
abbrev pub beside : Machine → Machine → Machine
beside M N = record {
  rows = M.rows + N.rows;
  start = M.start;
  target = λ q a. cond (ltb q M.rows) (M.target q a) (M.rows + N.target (q - M.rows) a);
  mark = λ q. cond (ltb q M.rows) (M.mark q) (N.mark (q - M.rows));
}

-- M with row q marked alone, and a machine that never leaves its one row, which has no mark.
abbrev pub only : Machine → ℕ → Machine
only M q = record { rows = M.rows; start = M.start; target = M.target; mark = λ r. cond (eqb r q) 1 0 }

abbrev pub sink : Machine
sink = record { rows = 1; start = 0; target = λ q a. 0; mark = λ q. 0 }

-- The least size from which on no run leads from the start to q: one more than the depth of q, and 0 if q is unreached.
-- It is the distance of the start from a row that leads nowhere, where q alone is marked.
unfoldable pub lead : Events → Machine → ℕ → Len
lead E M q = distance E (beside (only M q) sink) M.start M.rows

-- A finite length of 0.
abbrev pub is_zero : Len → Bool
is_zero (len L) = eqb L 0
is_zero endless = false

-- A length less one, where it is finite.
abbrev pub one_less : Len → Len
one_less (len L) = len (L - 1)
one_less endless = endless

-- Whether a run leads from the start to q.
unfoldable pub reached : Events → Machine → ℕ → Bool
reached E M q = not (is_zero (lead E M q))

-- The depth of a row; 0 for one that is unreached.
unfoldable pub depth : Events → Machine → ℕ → Len
depth E M q = one_less (lead E M q)
