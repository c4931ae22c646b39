-- How large the numbers of a reduction are, of any table whose start and targets are rows.
use mathlib.Core.Path.{◌≡◌, refl, sym, subst}
use mathlib.Core.Bool.{Bool, true, false}
use mathlib.Core.List.{[]}
use mathlib.Core.Logic.{inl, inr}
use Prim.Native.Nat.{ℕ, zero, suc, ◌≤◌, ◌<◌}
use native.Mathlib.Omega.{arith}
use lib.Dec.{eqb}
use lib.ListN.{length, get_or}
use Rattle.automata.specs.Runs.{Events, Machine}
use Rattle.automata.proofs.Lists.{Mem, few}
use Rattle.tables.specs.Lists.{tabulate, sift}
use Rattle.tables.specs.Table.{Table, Offset, machine, events_of}
use Rattle.tables.specs.Lengths.{reached}
use Rattle.tables.specs.Reduction.{Fate, kept_as, folded_into, unreached, Record, similar, order, kept, fold, met, numbering, number, renumbered, fate_by, fate_of, reduced, records}
use Rattle.tables.proofs.Lists.{tabulate-at, tabulate_read, tabulate_mem, read_below, first-all, position_le, sift-all}
use Rattle.tables.proofs.Lengths.{Below, depth_below}
use Rattle.tables.proofs.Folds.{order_mem}
use Rattle.tables.proofs.Numbering.{numbering_distinct}

-- ---- a machine whose start and targets are rows
module _ (E : Events) (M : Machine) (k : Offset) (start : M.start < M.rows) (targets : (q a : ℕ) → M.target q a < M.rows) where
  abbrev f : ℕ → ℕ
  f = fold E M k

  -- A row folds into a row.
  fold_in : (q : ℕ) → q < M.rows → f q < M.rows
  unfolding fold kept
  fold_in q h = first-all (λ x. x < M.rows) (similar E M k q) q (kept E M k) h (sift-all (similar E M k) (λ x. x < M.rows) (order E M) [] (λ x m. absurd m) (λ x m. (order_mem E M x m).0))

  met_in : (i x : ℕ) → Mem x (met E.count M f i) → x < M.rows
  unfolding met
  met_in zero x h = elim h [ inl e ↦ subst (λ (y : ℕ). y < M.rows) (sym e) (fold_in M.start start) | inr g ↦ absurd g ]
  met_in (suc i) x h = step (met_in i) x h
    where
      step : ((x : ℕ) → Mem x (met E.count M f i) → x < M.rows) → (x : ℕ)
          → Mem x (sift eqb (met E.count M f i) (tabulate E.count (λ a. f (M.target (get_or (met E.count M f i) i (f M.start)) a)))) → x < M.rows
      step ih = sift-all eqb (λ y. y < M.rows) _ (met E.count M f i) ih (λ y g.
          let t = tabulate_mem E.count (λ a. f (M.target (get_or (met E.count M f i) i (f M.start)) a)) y g in
          subst (λ (u : ℕ). u < M.rows) (sym t.2) (fold_in _ (targets _ t.0)))

  -- There are no more new numbers than rows.
  numbering_most : length (numbering E.count M f) ≤ M.rows
  unfolding numbering
  numbering_most = few (numbering E.count M f) M.rows (numbering_distinct E.count M f) (met_in M.rows)

  number_most : (q : ℕ) → number E.count M f q ≤ M.rows
  unfolding number
  number_most q = omega (arith, position_le (eqb (f q)) (numbering E.count M f), numbering_most)

-- The numbers of a fate.
abbrev pub FateWithin : ℕ → Fate → Type 0
FateWithin n (kept_as i) = i ≤ n
FateWithin n (folded_into p) = p ≤ n
FateWithin n unreached = Unit {0}

fate_within : (n : ℕ) (reached keeps : Bool) (i p : ℕ) → i ≤ n → p ≤ n → FateWithin n (fate_by reached keeps i p)
fate_within n false keeps i p h g = tt
fate_within n true true i p h g = h
fate_within n true false i p h g = g

-- A reduction has the events of the table, valid or not.
pub events_same : (weight : ℕ → ℕ) (k : Offset) (T : Table) → (reduced weight k T).events ≡ T.events
unfolding reduced renumbered
events_same weight k T = refl

-- ---- a table whose start and targets are rows
module _ (weight : ℕ → ℕ) (k : Offset) (T : Table) (start : T.start < T.rows) (cells : (i : ℕ) → i < length T.cells → get_or T.cells i 0 < T.rows) where
  abbrev E : Events
  E = events_of weight T

  abbrev M : Machine
  M = machine T

  targets : (q a : ℕ) → M.target q a < T.rows
  targets q a = read_below T.cells T.rows (omega arith) cells _

  pub rows_most : (reduced weight k T).rows ≤ T.rows
  unfolding reduced renumbered
  rows_most = numbering_most E M k start targets

  pub cells_most : (c : ℕ) → get_or (reduced weight k T).cells c 0 ≤ T.rows
  unfolding reduced renumbered
  cells_most c = tabulate_read (λ x. x ≤ T.rows) _ _ c 0 (omega arith) (λ i. number_most E M k start targets _)

  pub record_most : (q : ℕ) (d : Record) → q < T.rows → FateWithin T.rows (get_or (records weight k T) q d).fate × Below T.rows (get_or (records weight k T) q d).depth
  unfolding records fate_of
  record_most q d h = rw (tabulate-at T.rows _ q d h) (
    fate_within T.rows (reached E M q) _ _ _ (number_most E M k start targets q) (omega (arith, fold_in E M k start targets q h)),
    depth_below E M q (omega arith),
  )
