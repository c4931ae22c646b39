-- What the whole search leaves in scratch, and how it is read back.
use mathlib.Core.Path.{◌≡◌, refl, sym, ap, subst, ◌∙◌}
use mathlib.Core.Bool.{Bool, true, false, not}
use mathlib.Core.List.{List, []}
use Prim.Native.Nat.{ℕ, ◌+◌, ◌-◌, ◌≤◌, ◌<◌}
use native.Mathlib.Omega.{arith}
use borrow.Author.Tests.{not-true, not-false, le-ltb}
use lib.ListN.{length, get_or, replicate, length-replicate}
use Rattle.automata.specs.Runs.{Events, Machine}
use Rattle.tables.specs.Lists.{tabulate, over}
use Rattle.tables.specs.Table.{Table, Offset, machine, events_of, weight_by}
use Rattle.tables.specs.Lengths.{lead}
use Rattle.tables.specs.Reduction.{order, kept, fold, similar}
use Rattle.tables.proofs.Lists.{tabulate-length, tabulate-at}
use Rattle.tables.proofs.Over.{over-length, over_inside, over-before, over-behind, over_again, over_swap}
use Rattle.pairs.specs.Pairs.{leads_at, queue_start, folds_start, pair_at, lead_at, workable}
use Rattle.pairs.proofs.Pairs.{pair_lift}
use Rattle.scratch.specs.Scratch.{len_cell, cleared}
use Rattle.pairs.proofs.Works.{workable_shape}
use Rattle.scratch.proofs.Order.{order_few, order_meaning}
use Rattle.measures.specs.Measures.{measure_in, measure_of}
use Rattle.lengths.specs.Lengths.{lengths_in, Holds}
use Rattle.lengths.proofs.Found.{lengths-size, lengths-not, lengths_beyond, lengths-hold}
use Rattle.folding.specs.Folding.{fold_cells, folded_in}
use Rattle.folding.specs.Found.{Room, Folded}
use Rattle.folding.proofs.Rows.{sift_few}

module _ (mask : ℕ) (k : Offset) (T : Table) (s : List ℕ) where
  abbrev n : ℕ
  n = T.rows

  abbrev E : Events
  E = events_of (weight_by mask) T

  abbrev M : Machine
  M = machine T

  abbrev lengths : List ℕ
  lengths = lengths_in mask T s

  pub folded-not : workable T (length s) ≡ false → folded_in mask k T s ≡ s
  unfolding folded_in
  folded-not e = rw e

  module _ (w : workable T (length s) ≡ true) where
    pub small : n ≤ 1024
    small = (workable_shape T (length s) w).rows_fit

    holds : Holds E M lengths
    holds = lengths-hold mask T s w

    pub lengths-room : Room n lengths
    lengths-room = record { rows_fit = small; enough = holds.room }

    -- ---- the queue is cleared

    abbrev zeros : List ℕ
    zeros = replicate n 0

    zeros-length : length zeros ≡ n
    zeros-length = length-replicate n 0

    folds-length : length (fold_cells (weight_by mask) k T) ≡ n
    unfolding fold_cells
    folds-length = tabulate-length n (fold E M k)

    order_short : length (order E M) ≤ n
    order_short = subst (λ (l : List ℕ). length l ≤ n) (order_meaning E M (lead_at lengths n) small holds.leads_hold) (order_few (lead_at lengths n) n small)

    kept-short : length (kept E M k) ≤ n
    unfolding kept
    kept-short = omega (arith, sift_few (similar E M k) (order E M) [], order_short)

    folded-is : folded_in mask k T s ≡ over (over lengths (queue_start n) zeros) (folds_start n) (fold_cells (weight_by mask) k T)
    unfolding folded_in
    folded-is = rw w

    -- What the code leaves: t after folding, u with the queue cleared.
    pub folds-cleared : (t u : List ℕ) (m from to : ℕ) → Folded E M k lengths t m → from ≡ queue_start n → to ≡ folds_start n → u ≡ cleared t from to → u ≡ folded_in mask k T s
    unfolding cleared fold_cells
    folds-cleared t u m from to f hf ht hu =
        let enough = lengths-room.enough in
        let o : List ℕ = over lengths (queue_start n) (order E M) in
        let x : List ℕ = over o (queue_start n) (kept E M k) in
        let fo : queue_start n + length (order E M) ≤ length lengths = omega (arith, order_short) in
        let lo = over-length lengths (queue_start n) (order E M) fo in
        let fk : queue_start n + length (kept E M k) ≤ length o = omega (arith, kept-short) in
        let lk = over-length o (queue_start n) (kept E M k) fk in
        let ff : folds_start n + length (tabulate n (fold E M k)) ≤ length x = omega (arith, folds-length) in
        let lt : length t ≡ length x = ap length f.cells ∙ over-length x (folds_start n) (tabulate n (fold E M k)) ff in
        let fits : folds_start n ≤ length t = omega arith in
        let many : folds_start n - queue_start n ≡ n = omega arith in
        let apart : queue_start n + length zeros ≤ folds_start n = omega (arith, zeros-length) in
        let clean : over x (queue_start n) zeros ≡ over lengths (queue_start n) zeros
        = over_again o (queue_start n) (kept E M k) fk zeros (omega (arith, zeros-length, kept-short))
        ∙ over_again lengths (queue_start n) (order E M) fo zeros (omega (arith, zeros-length, order_short)) in
        hu ∙ ap (λ (i : ℕ). cleared t i to) hf ∙ ap (cleared t (queue_start n)) ht ∙ rw (le-ltb (length t) (folds_start n) fits, many) refl
        ∙ ap (λ (l : List ℕ). over l (queue_start n) zeros) f.cells
        ∙ over_swap x (folds_start n) (tabulate n (fold E M k)) (queue_start n) zeros apart ff
        ∙ ap (λ (l : List ℕ). over l (folds_start n) (tabulate n (fold E M k))) clean
        ∙ sym folded-is

    -- ---- read back

    cleared-size : length (over lengths (queue_start n) zeros) ≡ length lengths
    cleared-size = over-length lengths (queue_start n) zeros (omega (arith, zeros-length, lengths-room.enough))

    inside : folds_start n + length (fold_cells (weight_by mask) k T) ≤ length (over lengths (queue_start n) zeros)
    inside = omega (arith, folds-length, cleared-size, lengths-room.enough)

    pub folded-size : length (folded_in mask k T s) ≡ length s
    folded-size = ap length folded-is ∙ over-length (over lengths (queue_start n) zeros) (folds_start n) (fold_cells (weight_by mask) k T) inside ∙ cleared-size ∙ lengths-size mask T s

    pub folded-fold : (q : ℕ) → q < n → get_or (folded_in mask k T s) (folds_start n + q) 0 ≡ fold E M k q
    unfolding fold_cells
    folded-fold q h =
        ap (λ (l : List ℕ). get_or l (folds_start n + q) 0) folded-is
        ∙ over_inside (over lengths (queue_start n) zeros) (folds_start n) (fold_cells (weight_by mask) k T) inside q 0 (omega (arith, folds-length))
        ∙ tabulate-at n (fold E M k) q 0 h

    pub folded-lead : (q : ℕ) → q < n → get_or (folded_in mask k T s) (leads_at n + q) 0 ≡ len_cell (lead E M q)
    folded-lead q h =
        ap (λ (l : List ℕ). get_or l (leads_at n + q) 0) folded-is
        ∙ over-before (over lengths (queue_start n) zeros) (folds_start n) (fold_cells (weight_by mask) k T) inside (leads_at n + q) 0 (omega arith)
        ∙ over-before lengths (queue_start n) zeros (omega (arith, zeros-length, lengths-room.enough)) (leads_at n + q) 0 (omega arith)
        ∙ holds.leads_hold q h

    pub folded-pair : (q p : ℕ) → q < n → p < n → measure_in (pair_at (folded_in mask k T s) q p) ≡ measure_of E M q p
    folded-pair q p hq hp =
        ap measure_in (pair_lift (λ x y. x ≡ y) n (folded_in mask k T s) lengths refl (λ i h.
        ap (λ (l : List ℕ). get_or l i 0) folded-is
        ∙ over-before (over lengths (queue_start n) zeros) (folds_start n) (fold_cells (weight_by mask) k T) inside i 0 (omega arith)
        ∙ over-before lengths (queue_start n) zeros (omega (arith, zeros-length, lengths-room.enough)) i 0 (omega arith))
        q p hq hp)
        ∙ holds.pairs_hold q p hq hp

    -- Beyond the regions nothing changes.
    pub folded-beyond : (i : ℕ) → folds_start n + n ≤ i → get_or (folded_in mask k T s) i 0 ≡ get_or s i 0
    folded-beyond i h =
        ap (λ (l : List ℕ). get_or l i 0) folded-is
        ∙ over-behind (over lengths (queue_start n) zeros) (folds_start n) (fold_cells (weight_by mask) k T) inside i 0 (omega (arith, folds-length))
        ∙ over-behind lengths (queue_start n) zeros (omega (arith, zeros-length, lengths-room.enough)) i 0 (omega (arith, zeros-length))
        ∙ lengths_beyond mask T s i (omega arith)

-- ---- what the code's tests tell
module _ (mask : ℕ) (k : Offset) (T : Table) (s l : List ℕ) (r : Bool) (test : r ≡ workable T (length s)) (found : l ≡ lengths_in mask T s) where
  pub refuses : not r ≡ true → (false ≡ workable T (length s)) × (l ≡ folded_in mask k T s)
  refuses e =
      let w = sym test ∙ not-true r e in
      (sym w, found ∙ lengths-not mask T s w ∙ sym (folded-not mask k T s w))

  module _ (e : not r ≡ false) where
    pub works : workable T (length s) ≡ true
    works = sym test ∙ not-false r e

    pub room_after : Room T.rows l
    room_after = subst (Room T.rows) (sym found) (lengths-room mask k T s works)

    pub folds-after : (t u : List ℕ) (m : ℕ) → ((E : Events) (M : Machine) → M.rows ≡ T.rows → Holds E M l → Folded E M k l t m)
        → {from to : ℕ} → from ≡ queue_start T.rows → to ≡ folds_start T.rows → u ≡ cleared t from to → u ≡ folded_in mask k T s
    folds-after t u m fold {from} {to} hf ht hu =
        let f = fold (events_of (weight_by mask) T) (machine T) refl (subst (Holds (events_of (weight_by mask) T) (machine T)) (sym found) (lengths-hold mask T s works)) in
        folds-cleared mask k T s works t u m from to (subst (λ (x : List ℕ). Folded (events_of (weight_by mask) T) (machine T) k x t m) found f) hf ht hu
