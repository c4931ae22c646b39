-- How the sheet is found in a scratch s that holds, from cell `from` on, the leads of n rows, and two regions further how far each is from the rows before it.
-- What that means is in proofs/Meaning.antt of `offsets`.
use Rattle.std.specs.Prelude.{cond, List, ℕ, zero, suc, ◌+◌, ◌-◌, ◌*◌, ◌≤◌, ◌<◌, eqb, ltb, length, get_or, set}
use Rattle.automata.proofs.Count.{count}
use Rattle.tables.specs.Lengths.{one_less}
use Rattle.tables.specs.Lists.{tabulate, over}
use Rattle.scratch.specs.Scratch.{len_cell}
use Rattle.lengths.specs.Lengths.{len_of}
use Rattle.levels.specs.Levels.{till}
use Rattle.sheet_rules.specs.Checks.{entries}

-- The first offset at which row q is not kept; 65,535 if it always is.
unfoldable pub goes_at : ℕ → ℕ → List ℕ → ℕ → ℕ
goes_at from n s q = cond (eqb (get_or s (from + q) 0) 0) 0 (len_cell (till (len_of (get_or s (from + 2 * n + q) 0)) (one_less (len_of (get_or s (from + q) 0)))))

-- How many of the first m rows go at offset k; how many rows are kept there.
abbrev pub gone_at : ℕ → ℕ → List ℕ → ℕ → ℕ → ℕ
gone_at from n s m k = count (λ q. eqb (goes_at from n s q) k) m

abbrev pub kept_at : ℕ → ℕ → List ℕ → ℕ → ℕ
kept_at from n s k = count (λ q. ltb k (goes_at from n s q)) n

-- One more is counted at a place, if that is one of the first m.
abbrev pub counted : List ℕ → ℕ → ℕ → List ℕ
counted l m at = cond (ltb at m) (set l at (get_or l at 0 + 1)) l

-- What is left of n when the first k numbers of the list have been taken away.
unfoldable pub left_of : ℕ → List ℕ → ℕ → ℕ
left_of n l zero = n
left_of n l (suc k) = left_of n l k - get_or l k 0

-- The first m numbers of a list can be taken away from n, one after the other.
pub record Enough (n m : ℕ) (l : List ℕ) : Type 0 where
  pub within : m ≤ length l
  pub enough : (k : ℕ) → k < m → get_or l k 0 ≤ left_of n l k

-- List l with how many rows are kept at every offset over its front, if it has room for them and the leads begin no later than the scratch ends; otherwise as it was.
unfoldable pub filled : ℕ → ℕ → List ℕ → List ℕ → List ℕ
filled from n s l = cond (ltb (length l) (entries n)) l (cond (ltb (length s) from) l (over l 0 (tabulate (entries n) (kept_at from n s))))
