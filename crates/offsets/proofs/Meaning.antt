-- What is found in a scratch that holds the leads of a machine and how far its rows are from those before them: the first offset at which a row is not kept,
-- and how many rows are.
use mathlib.Core.Path.{◌≡◌, refl, sym, ap, ◌∙◌}
use mathlib.Core.Bool.{Bool, true, false, not, cond}
use mathlib.Core.List.{List}
use Prim.Native.Nat.{ℕ, ◌+◌, ◌*◌, ◌≤◌, ◌<◌}
use native.Mathlib.Omega.{arith}
use lib.Dec.{eqb, ltb}
use borrow.Author.Tests.{lt-ltb}
use lib.ListN.{length, get_or}
use Rattle.automata.specs.Runs.{Events, Machine, Sound, Light, Len, len, endless}
use Rattle.automata.proofs.Count.{count_cong}
use Rattle.tables.specs.Lengths.{lead, is_zero, one_less, reached, depth}
use Rattle.tables.specs.Table.{offset}
use Rattle.tables.specs.Reduction.{kept}
use Rattle.tables.proofs.Lengths.{lead-below}
use Rattle.scratch.specs.Scratch.{len_cell}
use Rattle.lengths.specs.Lengths.{len_of}
use Rattle.lengths.proofs.Cells.{len-of-cell}
use Rattle.levels.specs.Levels.{till, under, apart, goes}
use Rattle.levels.proofs.Sheet.{apart_below, kept_count}
use Rattle.quick_folding.specs.Parting.{Aparts}
use Rattle.sheet_counts.specs.Steps.{goes_at, kept_at}

-- ---- lengths in cells

zero-cell : (x : Len) → eqb (len_cell x) 0 ≡ is_zero x
zero-cell (len a) = refl
zero-cell endless = refl

under-cell : (k : ℕ) → k < 65535 → (x : Len) → ltb k (len_cell x) ≡ under k x
under-cell k h (len a) = refl
under-cell k h endless = lt-ltb k 65535 h

-- ---- what is found
module _ {E : Events} {M : Machine} {from : ℕ} {s : List ℕ} (small : M.rows ≤ 1024) (holds : Aparts E M from s) (sound : Sound E M) (light : Light E) where
  abbrev n : ℕ
  n = M.rows

  goes_held : (q : ℕ) → q < n → goes_at from n s q ≡ len_cell (goes E M q)
  unfolding goes_at goes reached depth
  goes_held q h = rw (holds.leads q h, zero-cell (lead E M q)) (pick (is_zero (lead E M q)) refl)
    where
      pick : (b : Bool) → is_zero (lead E M q) ≡ b
          → cond b 0 (len_cell (till (len_of (get_or s (from + 2 * n + q) 0)) (one_less (len_of (len_cell (lead E M q)))))) ≡ len_cell (cond (not b) (till (apart E M q) (one_less (lead E M q))) (len 0))
      pick true e = refl
      pick false e =
          let near : len_of (get_or s (from + 2 * n + q) 0) ≡ apart E M q
          = ap len_of (holds.aparts q h (ap not e)) ∙ len-of-cell n (omega arith) (apart E M q) (apart_below sound light q h (ap not e)) in
          rw (near, len-of-cell (n + 1) (omega arith) (lead E M q) (lead-below E M q))

  -- So many rows are kept at offset k.
  pub kept_held : (k : ℕ) → k < 65535 → kept_at from n s k ≡ length (kept E M (offset k))
  kept_held k h =
      count_cong (λ q. ltb k (goes_at from n s q)) (λ q. under k (goes E M q)) n (λ q g. ap (ltb k) (goes_held q g) ∙ under-cell k h (goes E M q))
      ∙ sym (kept_count sound light (offset k))
