-- What is found in a scratch that holds the distances and the leads of a machine.
use mathlib.Core.Path.{◌≡◌, refl}
use mathlib.Core.Bool.{Bool, true, false, cond}
use mathlib.Core.List.{List}
use Prim.Native.Nat.{ℕ, zero, suc, ◌+◌, ◌≤◌, ◌<◌, min}
use native.Mathlib.Omega.{arith}
use lib.Dec.{eqb, ltb}
use borrow.Author.Tests.{lt-ltb, le-ltb, ne_eqb}
use lib.ListN.{get_or}
use Rattle.automata.specs.Runs.{Events, Machine, Len, len, endless}
use Rattle.tables.specs.Lengths.{distance, lead}
use Rattle.tables.specs.Reduction.{same_len}
use Rattle.tables.proofs.Lengths.{Below, distance-below, lead-below}
use Rattle.pairs.specs.Pairs.{triangle}
use Rattle.pairs.proofs.Pairs.{pair_lift}
use Rattle.scratch.specs.Scratch.{len_cell}
use Rattle.lengths.specs.Lengths.{Holds}
use Rattle.levels.specs.Levels.{shorter, longer, ahead, nearest_of}
use Rattle.levels.proofs.Sheet.{nearest_of-below}
use Rattle.apart.specs.Steps.{ahead_at, apart_at}

-- ---- lengths in cells

longer-cell : (x y : Len) → Below 65535 x → Below 65535 y → ltb (len_cell y) (len_cell x) ≡ longer x y
longer-cell (len a) (len b) hx hy = refl
longer-cell endless (len b) hx hy = lt-ltb b 65535 hy
longer-cell (len a) endless hx hy = le-ltb 65535 a (omega arith)
longer-cell endless endless hx hy = refl

same_cell : (x y : Len) → Below 65535 x → Below 65535 y → eqb (len_cell x) (len_cell y) ≡ same_len x y
same_cell (len a) (len b) hx hy = refl
same_cell endless (len b) hx hy = ne_eqb 65535 b (λ e. omega arith)
same_cell (len a) endless hx hy = ne_eqb a 65535 (λ e. omega arith)
same_cell endless endless hx hy = refl

shorter-cell : (x y : Len) → Below 65535 x → Below 65535 y → min (len_cell x) (len_cell y) ≡ len_cell (shorter x y)
shorter-cell (len a) (len b) hx hy = refl
shorter-cell endless (len b) hx hy = omega arith
shorter-cell (len a) endless hx hy = omega arith
shorter-cell endless endless hx hy = refl

below_more : (m n : ℕ) → m ≤ n → (x : Len) → Below m x → Below n x
below_more m n h (len a) b = omega arith
below_more m n h endless b = tt

-- ---- what is found
module _ {E : Events} {M : Machine} {s : List ℕ} (small : M.rows ≤ 1024) (holds : Holds E M s) where
  abbrev n : ℕ
  n = M.rows

  lead-small : (q : ℕ) → Below 65535 (lead E M q)
  lead-small q = below_more (M.rows + 1) 65535 (omega arith) (lead E M q) (lead-below E M q)

  ahead_held : (q p : ℕ) → q < n → p < n → ahead_at n s q p ≡ ahead E M q p
  unfolding ahead_at ahead
  ahead_held q p hq hp = rw (
    holds.leads_hold q hq,
    holds.leads_hold p hp,
    longer-cell (lead E M p) (lead E M q) (lead-small p) (lead-small q),
    same_cell (lead E M p) (lead E M q) (lead-small p) (lead-small q),
  )

  nearest-small : (q m : ℕ) → Below 65535 (nearest_of E M q (ahead E M q) m)
  nearest-small q m = below_more M.rows 65535 (omega arith) (nearest_of E M q (ahead E M q) m) (nearest_of-below E M q (ahead E M q) m)

  pub apart_held : (q : ℕ) → q < n → (m : ℕ) → m ≤ n → apart_at n s q m ≡ len_cell (nearest_of E M q (ahead E M q) m)
  unfolding apart_at nearest_of
  apart_held q hq zero h = refl
  apart_held q hq (suc m) h =
      rw (ahead_held q m hq (omega arith), apart_held q hq m (omega arith), holds.pairs_hold q m hq (omega arith)) (pick (ahead E M q m))
    where
      pick : (b : Bool) → cond b (min (len_cell (nearest_of E M q (ahead E M q) m)) (len_cell (distance E M q m))) (len_cell (nearest_of E M q (ahead E M q) m))
          ≡ len_cell (cond b (shorter (nearest_of E M q (ahead E M q) m) (distance E M q m)) (nearest_of E M q (ahead E M q) m))
      pick true = shorter-cell (nearest_of E M q (ahead E M q) m) (distance E M q m) (nearest-small q m) (below_more M.rows 65535 (omega arith) (distance E M q m) (distance-below E M q m))
      pick false = refl

-- What is found looks at pairs and leads alone.
module _ (n : ℕ) (s t : List ℕ) (same : (i : ℕ) → i < triangle n + n → get_or t i 0 ≡ get_or s i 0) where
  ahead-still : (q p : ℕ) → q < n → p < n → ahead_at n t q p ≡ ahead_at n s q p
  unfolding ahead_at
  ahead-still q p hq hp = rw (same (triangle n + q) (omega arith), same (triangle n + p) (omega arith))

  pub apart-still : (q : ℕ) → q < n → (m : ℕ) → m ≤ n → apart_at n t q m ≡ apart_at n s q m
  unfolding apart_at
  apart-still q hq zero h = refl
  apart-still q hq (suc m) h = rw (
    ahead-still q m hq (omega arith),
    apart-still q hq m (omega arith),
    pair_lift (λ x y. x ≡ y) n t s refl (λ i g. same i (omega arith)) q m hq (omega arith),
  )
