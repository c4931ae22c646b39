-- An offset of twice the rows or more yields the same table and records as none.
use mathlib.Core.Path.{◌≡◌, ap, ap₂, fun_ext}
use mathlib.Core.Bool.{Bool}
use mathlib.Core.List.{List, []}
use Prim.Native.Nat.{ℕ, ◌*◌, ◌≤◌, ◌<◌}
use Rattle.automata.specs.Runs.{Events, Machine}
use Rattle.tables.specs.Table.{Table, machine, events_of, offset, none}
use Rattle.tables.specs.Lists.{first, sift}
use Rattle.tables.specs.Reduction.{order, kept, fold, fate_of, reduced, records}
use Rattle.tables.proofs.Similar.{similar_none}

module _ (E : Events) (M : Machine) (k : ℕ) (pos : 0 < M.rows) (far : 2 * M.rows ≤ k) where
  pub kept_none : kept E M none ≡ kept E M (offset k)
  unfolding kept
  kept_none = ap (λ (like : ℕ → ℕ → Bool). sift like [] (order E M)) (similar_none E M k pos far)

  pub fold_none : fold E M none ≡ fold E M (offset k)
  unfolding fold
  fold_none = fun_ext (λ q. ap₂ (λ (like : ℕ → ℕ → Bool) (l : List ℕ). first (like q) q l) (similar_none E M k pos far) kept_none)

module _ (weight : ℕ → ℕ) (T : Table) (k : ℕ) (pos : 0 < T.rows) (far : 2 * T.rows ≤ k) where
  pub reduced-none : reduced weight none T ≡ reduced weight (offset k) T
  unfolding reduced
  reduced-none = rw (fold_none (events_of weight T) (machine T) k pos far)

  pub records-none : records weight none T ≡ records weight (offset k) T
  unfolding records fate_of
  records-none = rw (fold_none (events_of weight T) (machine T) k pos far, kept_none (events_of weight T) (machine T) k pos far)
