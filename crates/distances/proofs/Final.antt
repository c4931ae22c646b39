-- From the last level that was settled to the distances.
use mathlib.Core.Path.{◌≡◌, ap, ◌∙◌}
use mathlib.Core.List.{List}
use mathlib.Core.Logic.{◌⊎◌, inl, ⊎_elim}
use Prim.Native.Nat.{ℕ, suc, ◌+◌, ◌-◌, ◌≤◌, ◌<◌}
use native.Mathlib.Omega.{arith}
use lib.ListN.{get_or}
use Rattle.automata.specs.Runs.{Events, Machine, Sound, Light, Near, len, endless, IsDistance}
use Rattle.automata.proofs.Nearness.{near_bound}
use Rattle.tables.specs.Lengths.{distance}
use Rattle.tables.proofs.Lengths.{distance_is, distance-one}
use Rattle.pairs.specs.Pairs.{triangle, pair_at}
use Rattle.scratch.specs.Scratch.{len_cell}
use Rattle.scratch.proofs.Numbers.{lt_or_ge}
use Rattle.pairs.proofs.Pairs.{pair_lift}
use Rattle.distances.specs.Search.{Cells}
use Rattle.distances.proofs.Fits.{fits-near, rest}

module _ {E : Events} {M : Machine} (so : Sound E M) (z : Light E) (few : M.rows ≤ 1024) (level : ℕ) (s : List ℕ) (in_range : level < M.rows) (v : Cells E M (suc level) level s) where
  values : (q p : ℕ) → q < M.rows → p < M.rows → (pair_at s q p ≤ level) ⊎ (pair_at s q p ≡ 65535)
  values = pair_lift (λ x y. (x ≤ level) ⊎ (x ≡ 65535)) M.rows s s (inl (omega arith)) v.values

  near : (L q p : ℕ) → q < M.rows → p < M.rows → L ≤ level → pair_at s q p ≤ L → Near E M M L q p
  near = fits-near so level (pair_at s) v.closed

  -- Each cell is the distance, where 65,535 is endless.
  answer : ((q p : ℕ) → q < M.rows → p < M.rows → pair_at s q p ≡ 65535 → IsDistance E M q p endless)
      → (q p : ℕ) → q < M.rows → p < M.rows → pair_at s q p ≡ len_cell (distance E M q p)
  answer far q p hq hp =
      ⊎_elim
      (λ w.
      ap len_cell
      (distance-one E M q p (len (pair_at s q p)) (distance E M q p)
      (near (pair_at s q p) q p hq hp w (omega arith), λ K n. ⊎_elim (λ l. omega arith) (λ l. v.none_above K q p l hq hp n) (lt_or_ge level K))
      (distance_is so z hq hp)))
      (λ w. w ∙ ap len_cell (distance-one E M q p endless (distance E M q p) (far q p hq hp w) (distance_is so z hq hp)))
      (values q p hq hp)

  -- No pair has the level: what is near at some level is near at the one below.
  pub answer_early : 0 < level → ((k : ℕ) → k < triangle M.rows → get_or s k 0 ≡ level → ⊥)
      → (q p : ℕ) → q < M.rows → p < M.rows → pair_at s q p ≡ len_cell (distance E M q p)
  answer_early above none =
      answer
      (λ q p hq hp e L n.
      omega (arith, few, v.none_above (level - 1) q p (omega arith) hq hp (rest so z (level - 1) down L q p hq hp n)))
    where
      other : (q p : ℕ) → q < M.rows → p < M.rows → pair_at s q p ≡ level → ⊥
      other = pair_lift (λ x y. x ≡ level → ⊥) M.rows s s (λ e. omega arith) none

      down : (q p : ℕ) → q < M.rows → p < M.rows → Near E M M (level - 1 + 1) q p → Near E M M (level - 1) q p
      down q p hq hp n =
          let h = v.none_above (level - 1 + 1) q p (omega arith) hq hp n in
          near (level - 1) q p hq hp (omega arith) (⊎_elim (λ l. absurd (other q p hq hp (omega arith))) (λ l. l) (lt_or_ge (level - 1) (pair_at s q p)))

  -- Every level below the number of rows is settled, and no finite distance is above those.
  pub answer-full : level + 1 ≡ M.rows → (q p : ℕ) → q < M.rows → p < M.rows → pair_at s q p ≡ len_cell (distance E M q p)
  answer-full all =
      answer
      (λ q p hq hp e L n.
      omega (arith, few, v.none_above (M.rows - 1) q p (omega arith) hq hp (near_bound E M so z M.rows (omega arith) L q p hq hp n)))
