-- What the cells of scratch tell of a row is what it gives up.
use mathlib.Core.Path.{◌≡◌, refl, sym, ap, ap₂, ◌∙◌}
use mathlib.Core.Bool.{Bool, true, false, not, cond}
use mathlib.Core.List.{List}
use Prim.Native.Nat.{ℕ, ◌+◌, ◌<◌}
use lib.Dec.{eqb}
use lib.ListN.{length, get_or}
use Rattle.automata.specs.Runs.{Events, Machine, Len, len, endless}
use Rattle.tables.specs.Lengths.{lead, is_zero, reached}
use Rattle.tables.specs.Reduction.{fold}
use Rattle.tables.specs.Table.{Table, Offset, Valid, machine, events_of, weight_by}
use Rattle.tables.proofs.Counted.{mask_light}
use Rattle.pairs.specs.Pairs.{pair_at, folds_start, workable}
use Rattle.pairs.proofs.Works.{workable_shape, workable_sound}
use Rattle.scratch.specs.Scratch.{len_cell}
use Rattle.chosen.specs.GivenUp.{Loss, given_up, into_of}
use Rattle.chosen.proofs.GivenUp.{into_is, into-near, given_into}
use Rattle.measures.specs.declared.Measure.{Measure}
use Rattle.measures.specs.Measures.{measure_in}
use Rattle.walks.specs.Walks.{walked}
use Rattle.walks.proofs.Meaning.{walked-chosen}
use Rattle.folding.specs.Folding.{folded_in}
use Rattle.folding.proofs.FoldedIn.{folded-fold, folded-lead, folded-pair}
use Rattle.losses.specs.Losses.{into_at, loss_to, loss_at}

-- A lead of 0 in a cell.
zero-lead : (x : Len) → eqb (len_cell x) 0 ≡ is_zero x
zero-lead (len L) = refl
zero-lead endless = refl

pick_not : (b : Bool) (x y : ℕ) → cond b x y ≡ cond (not b) y x
pick_not true x y = refl
pick_not false x y = refl

module _ (mask : ℕ) (k : Offset) (T : Table) (s : List ℕ) (w : workable T (length s) ≡ true) (v : Valid T) (q : ℕ) (hq : q < T.rows) where
  abbrev E : Events
  E = events_of (weight_by mask) T

  abbrev M : Machine
  M = machine T

  abbrev t : List ℕ
  t = folded_in mask k T s

  pub into-told : into_at T.rows t q ≡ into_of (weight_by mask) k T q
  unfolding reached
  into-told =
      ap (λ (x : ℕ). cond (eqb x 0) q (get_or t (folds_start T.rows + q) 0)) (folded-lead mask k T s w q hq)
      ∙ ap₂ (λ (b : Bool) (x : ℕ). cond b q x) (zero-lead (lead E M q)) (folded-fold mask k T s w q hq)
      ∙ pick_not (is_zero (lead E M q)) q (fold E M k q)
      ∙ sym (into_is (weight_by mask) (mask_light mask T).at_most T v k q hq)

  pub loss-told : loss_at T.rows T.events T.cells t q ≡ given_up (weight_by mask) k T q
  unfolding loss_at
  loss-told =
      let p = into_of (weight_by mask) k T q in
      let hp = (into-near (weight_by mask) (mask_light mask T).at_most T v k q hq).0 in
      let g = given_into (weight_by mask) (mask_light mask T).at_most T v k q hq in
      let m = folded-pair mask k T s w q p hq hp in
      let far : (measure_in (pair_at t q p)).distance ≡ (given_up (weight_by mask) k T q).far = ap (λ (x : Measure). x.distance) m ∙ ap len_cell g.0 in
      let run : walked T.cells T.events t T.rows q p ≡ (given_up (weight_by mask) k T q).run
      = walked-chosen (weight_by mask) T t (workable_sound T (length s) w (weight_by mask)) (mask_light mask T) (workable_shape T (length s) w).events_fit
      (λ i j hi hj. ap (λ (x : Measure). x.first) (folded-pair mask k T s w i j hi hj)) q p hq hp
      ∙ sym g.1 in
      ap (loss_to T.rows T.events T.cells t q) into-told ∙ ap₂ (λ (x : ℕ) (l : List ℕ). made x l) far run
    where
      made : ℕ → List ℕ → Loss
      made x l = record { far = x; run = l }
