-- The theorems, for every valid table, every offset, and none.
use mathlib.Core.Path.{◌≡◌, refl, sym, ap, subst, ◌∙◌}
use mathlib.Core.Bool.{true, false}
use mathlib.Core.List.{List}
use mathlib.Core.Logic.{◌↔◌}
use Prim.Native.Nat.{ℕ, ◌+◌, ◌*◌, ◌≤◌, ◌<◌}
use native.Mathlib.Omega.{arith}
use native.Mathlib.Decide.{ℕ_discrete}
use lib.Dec.{eqb}
use lib.ListN.{length}
use Rattle.automata.specs.Runs.{Events, Machine, Run, size, after, shows, AgreeFrom, Len, IsDistance, IsDepth, Unreached}
use Rattle.tables.specs.Lengths.{distance, depth, reached}
use Rattle.automata.proofs.Lists.{Mem}
use Rattle.automata.proofs.Runs.{Reach, stay, event, ◌then◌, less, way_in, near_up}
use Rattle.tables.proofs.Lengths.{Below, distance_is, finite-distance, depth_is, finite-depth, reached_is, reached-found, unreached_is}
use Rattle.tables.specs.Table.{Table, Offset, offset, none, Valid, Agrees, Fewest, machine, events_of}
use Rattle.tables.specs.Lists.{some}
use Rattle.tables.specs.Reduction.{kept, fold, numbering, renumbered, reduced, records}
use Rattle.tables.proofs.Lists.{tabulate-length}
use Rattle.tables.proofs.Marks.{mark_small}
use Rattle.tables.proofs.Folds.{folding, kept_own}
use Rattle.tables.proofs.Reduced.{sound_of, kept_in, count_kept, reduced_valid, reduced_agrees, reduced_fewest}
use Rattle.tables.proofs.NoOffset.{kept_none, fold_none, reduced-none, records-none}
use Rattle.tables.proofs.Canonical.{reduced_same}

-- ---- over any weights of 0 and 1
module _ (weight : ℕ → ℕ) (light : (a : ℕ) → weight a ≤ 1) (T : Table) (v : Valid T) where
  abbrev E : Events
  E = events_of weight T

  abbrev M : Machine
  M = machine T

  -- With no offset, the reduced table is that of twice the rows.
  at_none : (k : ℕ) → 2 * T.rows ≤ k → reduced weight none T ≡ reduced weight (offset k) T
  at_none k h = reduced-none weight T k v.some_row h

  -- a. The reduced table is valid, over the same events, and agrees with the given one;
  pub valid : (k : Offset) → Valid (reduced weight k T)
  valid (offset k) = reduced_valid weight light T v k
  valid none = subst Valid (sym (at_none (2 * T.rows) (omega arith))) (reduced_valid weight light T v (2 * T.rows))

  pub same_events : (k : Offset) → (reduced weight k T).events ≡ T.events
  unfolding reduced renumbered
  same_events k = refl

  -- with no offset, after every run of twice the rows or more.
  pub agrees_none : AgreeFrom E (2 * T.rows) M (machine (reduced weight none T))
  agrees_none = subst (λ (U : Table). AgreeFrom E (2 * T.rows) M (machine U)) (sym (at_none (2 * T.rows) (omega arith))) (reduced_agrees weight light T v (2 * T.rows))

  pub agrees : (k : Offset) → Agrees weight k T (reduced weight k T)
  agrees (offset k) = reduced_agrees weight light T v k
  agrees none = (2 * T.rows, agrees_none)

  -- b. No valid table over the same events that agrees so has fewer rows.
  pub fewest : (k : Offset) → Fewest weight k T (reduced weight k T)
  fewest (offset k) N n e agree = reduced_fewest weight light T v k N n e agree
  fewest none N n e agree =
      let k : ℕ = 2 * T.rows + agree.0 in
      subst (λ (U : Table). U.rows ≤ N.rows) (sym (at_none k (omega arith))) (reduced_fewest weight light T v k N n e (near_up (omega arith) agree.1))

  -- c. `distance` and `depth` are document 01's, and below the number of rows where they are finite.
  pub distance_right : (q p : ℕ) → q < T.rows → p < T.rows → IsDistance E M q p (distance E M q p)
  distance_right q p hq hp = distance_is (sound_of weight T T refl v) (record { at_most = light }) hq hp

  pub distance-small : (q p : ℕ) → q < T.rows → p < T.rows → (x : Len) → IsDistance E M q p x → Below T.rows x
  distance-small q p hq hp = finite-distance (sound_of weight T T refl v) (record { at_most = light }) hq hp

  pub unreached_right : (q : ℕ) → q < T.rows → reached E M q ≡ false → Unreached E M q
  unreached_right = unreached_is (sound_of weight T T refl v) (record { at_most = light })

  pub depth_right : (q : ℕ) → q < T.rows → reached E M q ≡ true → IsDepth E M q (depth E M q)
  depth_right q hq r =
      let s = sound_of weight T T refl v in
      depth_is s (record { at_most = light }) q hq (reached_is s (record { at_most = light }) q hq r)

  pub depth_small : (q : ℕ) → q < T.rows → Reach E M q 0 → (x : Len) → IsDepth E M q x → Below T.rows x
  depth_small = finite-depth (sound_of weight T T refl v) (record { at_most = light })

  -- An offset of twice the rows or more yields the same table, and the same records, as none.
  pub far-offset : (k : ℕ) → 2 * T.rows ≤ k → (reduced weight (offset k) T ≡ reduced weight none T) × (records weight (offset k) T ≡ records weight none T)
  far-offset k h = (sym (at_none k h), sym (records-none weight T k v.some_row h))

  -- d. Every kept row is met, so the new row count is the number of kept rows; the new start is 0.
  pub kept_met : (k : Offset) (q : ℕ) → Mem q (kept E M k) → Mem q (numbering E.count M (fold E M k))
  kept_met (offset k) q h = kept_in weight light T v k q h
  kept_met none q h =
      let k : ℕ = 2 * T.rows in
      let far : 2 * T.rows ≤ k = omega arith in
      subst (λ (f : ℕ → ℕ). Mem q (numbering E.count M f)) (sym (fold_none E M k v.some_row far))
      (kept_in weight light T v k q (subst (Mem q) (kept_none E M k v.some_row far) h))

  pub rows_kept : (k : Offset) → (reduced weight k T).rows ≡ length (kept E M k)
  rows_kept (offset k) = count_kept weight light T v k
  rows_kept none = ap (λ (U : Table). U.rows) (at_none (2 * T.rows) (omega arith)) ∙ count_kept weight light T v (2 * T.rows)
      ∙ ap length (sym (kept_none E M (2 * T.rows) v.some_row (omega arith)))

  itself : (k : Offset) → Agrees weight k T T
  itself (offset k) = record { same = λ w h l. refl }
  itself none = (0, record { same = λ w h l. refl })

  -- A reduction has no more rows than the table.
  pub never-more : (k : Offset) → (reduced weight k T).rows ≤ T.rows
  never-more k = fewest k T v refl (itself k)

  -- There is a record for each row.
  pub records-length : (k : Offset) → length (records weight k T) ≡ T.rows
  unfolding records
  records-length k = tabulate-length T.rows _

  -- A reached row is kept just if it folds into itself.
  pub kept_itself : (k : Offset) (q : ℕ) → q < T.rows → reached E M q ≡ true → some (eqb q) (kept E M k) ≡ eqb (fold E M k q) q
  kept_itself (offset k) q h u = kept_own (sound_of weight T T refl v) (record { at_most = light }) k q h u
  kept_itself none q h u =
      let k : ℕ = 2 * T.rows in
      ap (some (eqb q)) (kept_none E M k v.some_row (omega arith)) ∙ kept_own (sound_of weight T T refl v) (record { at_most = light }) k q h u
      ∙ ap (λ (f : ℕ → ℕ). eqb (f q) q) (sym (fold_none E M k v.some_row (omega arith)))

  -- The start is a reached row; a reached row leads to reached rows, and folds into one.
  abbrev pub Reached : ℕ → Type 0
  Reached q = (q < T.rows) × (reached E M q ≡ true)

  found : (q : ℕ) → Reach E M q 0 → Reached q
  found q r = let h = way_in (sound_of weight T T refl v) v.start_inside r in (h, reached-found (sound_of weight T T refl v) (record { at_most = light }) q h r)

  reach : (q : ℕ) → Reached q → Reach E M q 0
  reach q h = reached_is (sound_of weight T T refl v) (record { at_most = light }) q h.0 h.1

  pub start_reached : Reached T.start
  start_reached = found T.start (stay T.start)

  pub target_reached : (q a : ℕ) → Reached q → a < T.events → Reached (M.target q a)
  target_reached q a h ha = found (M.target q a) (less (omega arith) (reach q h then event q a ha))

  folds_in : (k q : ℕ) → Reached q → Reached (fold E M (offset k) q)
  folds_in k q h = let f = folding (sound_of weight T T refl v) (record { at_most = light }) k in found _ (f.kept_reach _ (f.fold_kept q (reach q h)))

  pub fold_reached : (k : Offset) (q : ℕ) → Reached q → Reached (fold E M k q)
  fold_reached (offset k) q h = folds_in k q h
  fold_reached none q h = subst (λ (f : ℕ → ℕ). Reached (f q)) (sym (fold_none E M (2 * T.rows) v.some_row (omega arith))) (folds_in (2 * T.rows) q h)

  pub start_zero : (k : Offset) → (reduced weight k T).start ≡ 0
  unfolding reduced renumbered
  start_zero k = refl

  -- e. The row count never grows with the offset, and none comes last.
  abbrev pub NoLater : Offset → Offset → Type 0
  NoLater (offset j) (offset k) = j ≤ k
  NoLater (offset j) none = Unit {0}
  NoLater none (offset k) = ⊥
  NoLater none none = Unit {0}

  pub never_grows : (j k : Offset) → NoLater j k → (reduced weight k T).rows ≤ (reduced weight j T).rows
  never_grows j k h = fewest k (reduced weight j T) (valid j) (same_events j) (later j k h (agrees j))
    where
      later : (j k : Offset) → NoLater j k → Agrees weight j T (reduced weight j T) → Agrees weight k T (reduced weight j T)
      later (offset j) (offset k) h a = near_up h a
      later (offset j) none h a = (j, a)
      later none (offset k) h a = absurd h
      later none none h a = a

-- At offset 0 two tables that agree after all runs have the same reduction, cell for cell.
pub one_reduction : (weight : ℕ → ℕ) → ((a : ℕ) → weight a ≤ 1) → (T U : Table) → Valid T → Valid U → U.events ≡ T.events
    → Agrees weight (offset 0) T U → reduced weight (offset 0) T ≡ reduced weight (offset 0) U
one_reduction = reduced_same

-- ---- demands 2 and 3 in words: the length of a run takes in the weights of its events. With every event counted it is the number of events: Counted.antt.

-- The table shows ready after the run.
abbrev pub Ready : Table → List ℕ → Type 0
Ready T w = shows (machine T) w ≡ 1

-- U shows ready after every run of length L or more exactly when T does.
abbrev pub ReadyFrom : (ℕ → ℕ) → ℕ → Table → Table → Type 0
ReadyFrom weight L T U = (w : List ℕ) → Run (events_of weight T) w → L ≤ size (events_of weight T) w → Ready U w ↔ Ready T w

ready-from : (weight : ℕ → ℕ) (L : ℕ) (T U : Table) → AgreeFrom (events_of weight T) L (machine T) (machine U) → ReadyFrom weight L T U
ready-from weight L T U n w hw hl = let e = n.same w hw hl in (λ r. e ∙ r, λ r. sym e ∙ r)

from-ready : (weight : ℕ → ℕ) (L : ℕ) (T U : Table) → ReadyFrom weight L T U → AgreeFrom (events_of weight T) L (machine T) (machine U)
from-ready weight L T U r = record { same = λ w hw hl. pick w (r w hw hl) (ℕ_discrete (shows (machine T) w) 1) (ℕ_discrete (shows (machine U) w) 1) }
  where
    pick : (w : List ℕ) → Ready U w ↔ Ready T w → Dec (Ready T w) → Dec (Ready U w) → shows (machine T) w ≡ shows (machine U) w
    pick w r (yes t) u = t ∙ sym (r.1 t)
    pick w r (no t) (yes u) = absurd (t (r.0 u))
    pick w r (no t) (no u) = omega (arith, mark_small T.marks (after (machine T) T.start w), mark_small U.marks (after (machine U) U.start w))

module _ (weight : ℕ → ℕ) (light : (a : ℕ) → weight a ≤ 1) (T : Table) (v : Valid T) where
  pub demand_2 : (k : ℕ) → ReadyFrom weight k T (reduced weight (offset k) T)
  demand_2 k = ready-from weight k T (reduced weight (offset k) T) (agrees weight light T v (offset k))

  pub demand_2_none : ReadyFrom weight (2 * T.rows) T (reduced weight none T)
  demand_2_none = ready-from weight (2 * T.rows) T (reduced weight none T) (agrees_none weight light T v)

  pub demand_3 : (k : ℕ) (N : Table) → Valid N → N.events ≡ T.events → ReadyFrom weight k T N → (reduced weight (offset k) T).rows ≤ N.rows
  demand_3 k N n e r = fewest weight light T v (offset k) N n e (from-ready weight k T N r)

  pub demand_3_none : (L : ℕ) (N : Table) → Valid N → N.events ≡ T.events → ReadyFrom weight L T N → (reduced weight none T).rows ≤ N.rows
  demand_3_none L N n e r = fewest weight light T v none N n e (L, from-ready weight L T N r)
