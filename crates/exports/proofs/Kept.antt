-- Promises whose answer goes out as numbers: they hold of the answer that the definition gives.
use mathlib.Core.Path.{◌≡◌, subst}
use mathlib.Core.List.{List}
use Prim.Native.Nat.{ℕ}
use lib.ListN.{length}
use Rattle.tables.specs.Table.{Table, Offset, weight_by}
use Rattle.tables.specs.Reduction.{reduced}
use Rattle.reduction_rules.specs.Checks.{answer_by}
use Rattle.reduction.specs.Reduce.{Promise}
use Rattle.chosen.specs.GivenUp.{given_up}
use Rattle.last_run_rules.specs.declared.Told.{Told}
use Rattle.last_run_rules.specs.Checks.{answer_by as told_by}
use Rattle.last_run.specs.LastRun.{last_of_all, Promise as PromiseOfRun}
use Rattle.load.specs.Load.{Promise as PromiseOfLoad}
use Rattle.std.specs.Prelude.{Result}
use Rattle.rules.specs.Rules.{Verdict}
use Rattle.rules.specs.declared.Refusal.{Refusal}

-- The reducer's, with the offset as it was given.
pub reduce_kept : (need : ℕ → ℕ) (v : Verdict) (k j : Offset) (mask : ℕ) (T : Table) (c m s : List ℕ) (r : Result ℕ Refusal) (c' m' s' : List ℕ) → k ≡ j → Promise need v k mask T c m s r c' m' s'
    → let a = answer_by v (reduced (weight_by mask) j T).rows in (r ≡ a) × Promise need v j mask T c m s a c' m' s'
reduce_kept need v k j mask T c m s r c' m' s' e p =
    let q : Promise need v j mask T c m s r c' m' s' = subst (λ (o : Offset). Promise need v o mask T c m s r c' m' s') e p in
    (q.answers, subst (λ (a : Result ℕ Refusal). Promise need v j mask T c m s a c' m' s') q.answers q)

-- That of a row's last run, likewise.
pub run_kept : (v : Verdict) (k j : Offset) (mask : ℕ) (T : Table) (row : ℕ) (b s : List ℕ) (r : Result Told Refusal) (b' s' : List ℕ) → k ≡ j → PromiseOfRun v (given_up (weight_by mask) k T row) k mask T row b s r b' s'
    → let g = given_up (weight_by mask) j T row in let a = told_by (last_of_all v g (length b)) g in (r ≡ a) × PromiseOfRun v g j mask T row b s a b' s'
run_kept v k j mask T row b s r b' s' e p =
    let q : PromiseOfRun v (given_up (weight_by mask) j T row) j mask T row b s r b' s' = subst (λ (o : Offset). PromiseOfRun v (given_up (weight_by mask) o T row) o mask T row b s r b' s') e p in
    (q.answers, subst (λ (a : Result Told Refusal). PromiseOfRun v (given_up (weight_by mask) j T row) j mask T row b s a b' s') q.answers q)

-- The generator's.
pub load_kept : (v : Verdict) (T : Table) (c m : List ℕ) (r : Verdict) (c' m' : List ℕ) → PromiseOfLoad v T c m r c' m' → (r ≡ v) × PromiseOfLoad v T c m v c' m'
load_kept v T c m r c' m' p = (p.answers, subst (λ (a : Verdict). PromiseOfLoad v T c m a c' m') p.answers p)
