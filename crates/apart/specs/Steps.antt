-- How far rows are from those before them, in a scratch s that holds the distances and the leads of n rows. What that means is in proofs/Pairs.antt.
use Rattle.std.specs.Prelude.{Bool, ◌&&◌, ◌||◌, cond, List, ℕ, zero, suc, min, eqb, ltb}
use Rattle.pairs.specs.Pairs.{pair_at, lead_at}
use Rattle.measures.specs.Measures.{measure_in}

-- Whether row p comes before row q in the order.
unfoldable pub ahead_at : ℕ → List ℕ → ℕ → ℕ → Bool
ahead_at n s q p = ltb (lead_at s n q) (lead_at s n p) || (eqb (lead_at s n p) (lead_at s n q) && ltb p q)

-- The lesser of a number and the distance of q and p, if p comes before q.
abbrev pub nearer : ℕ → List ℕ → ℕ → ℕ → ℕ → ℕ
nearer n s q p least = cond (ahead_at n s q p) (min least (measure_in (pair_at s q p)).distance) least

-- The least distance of q from one of the first m rows that comes before it; 65,535 if there is none.
unfoldable pub apart_at : ℕ → List ℕ → ℕ → ℕ → ℕ
apart_at n s q zero = 65535
apart_at n s q (suc p) = nearer n s q p (apart_at n s q p)
