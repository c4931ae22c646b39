-- Similarity, order and folding as they are found in the cells of a scratch s of n rows.
-- Where s holds the distances and the leads of a machine, they are the machine's: proofs/Meaning.antt.
use Rattle.std.specs.Prelude.{◌≡◌, Bool, cond, List, [], ◌∷◌, ℕ, ◌+◌, ◌≤◌, ◌<◌, eqb, length, get_or}
use Rattle.automata.specs.Runs.{Events, Machine}
use Rattle.tables.specs.Lists.{tabulate, filter, some, first, sift, over}
use Rattle.tables.specs.Table.{Offset}
use Rattle.tables.specs.Reduction.{similar_by, order, kept, fold}
use Rattle.pairs.specs.Pairs.{lead_at, queued, pair_at, queue_start, folds_start, needed}
use Rattle.scratch.specs.Order.{level_of, levels_of, order_of}
use Rattle.measures.specs.Measures.{measure_in}
use Rattle.lengths.specs.Lengths.{Holds, len_of, depth_at}

-- Whether rows q and p are similar.
unfoldable pub similar_at : Offset → ℕ → List ℕ → ℕ → ℕ → Bool
similar_at k n s q p = similar_by k (len_of (measure_in (pair_at s q p)).distance) (depth_at n s q) (depth_at n s p)

-- Those of some rows that have the lead L.
unfoldable pub having : ℕ → List ℕ → ℕ → List ℕ → List ℕ
having n s L l = filter (λ q. eqb (lead_at s n q) L) l

-- All rows that have the lead L, those of leads 1 to L, and the order.
abbrev pub level_at : ℕ → List ℕ → ℕ → List ℕ
level_at n s L = level_of (lead_at s n) n L

abbrev pub levels_at : ℕ → List ℕ → ℕ → List ℕ
levels_at n s L = levels_of (lead_at s n) n L

abbrev pub order_at : ℕ → List ℕ → List ℕ
order_at n s = order_of (lead_at s n) n

-- What x adds to the rows that are kept: itself, or nothing where it is `like` one of them.
unfoldable pub added : (ℕ → ℕ → Bool) → List ℕ → ℕ → List ℕ
added like l x = cond (some (like x) l) [] (x ∷ [])

-- What the queue's row i adds to its first m, which are kept.
abbrev pub added_at : Offset → ℕ → ℕ → List ℕ → ℕ → List ℕ
added_at k n m s i = added (similar_at k n s) (queued s n m) (get_or s (queue_start n + i) 0)

-- The rows that are kept of the first m of the queue.
unfoldable pub kept_at : Offset → ℕ → ℕ → List ℕ → List ℕ
kept_at k n m s = sift (similar_at k n s) [] (queued s n m)

-- The first of the first m rows of the queue to which q is similar; q if there is none.
unfoldable pub fold_at : Offset → ℕ → ℕ → List ℕ → ℕ → ℕ
fold_at k n m s q = first (similar_at k n s q) q (queued s n m)

-- A scratch with room for n rows.
pub record Room (n : ℕ) (s : List ℕ) : Type 0 where
  pub rows_fit : n ≤ 1024
  pub enough : needed n ≤ length s

-- The queue of n rows begins with m rows.
pub record Queue (n m : ℕ) (s : List ℕ) : Type 0 where
  pub room : Room n s
  pub short : m ≤ n
  pub are_rows : (i : ℕ) → i < m → get_or s (queue_start n + i) 0 < n

-- What folding all rows of M leaves in the scratch, and that it answers the number of rows kept.
pub record Folded (E : Events) (M : Machine) (k : Offset) (s t : List ℕ) (m : ℕ) : Type 0 where
  pub cells : t ≡ over (over (over s (queue_start M.rows) (order E M)) (queue_start M.rows) (kept E M k)) (folds_start M.rows) (tabulate M.rows (fold E M k))
  pub count : m ≡ length (kept E M k)
  pub still_holds : Holds E M t
  pub folds_hold : (q : ℕ) → q < M.rows → get_or t (folds_start M.rows + q) 0 ≡ fold E M k q
