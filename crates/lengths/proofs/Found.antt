-- What both searches leave in scratch, and how it is read back.
use mathlib.Core.Path.{◌≡◌, refl, sym, ap, subst, ◌∙◌}
use mathlib.Core.Bool.{Bool, true, false, not}
use mathlib.Core.List.{List}
use Prim.Native.Nat.{ℕ, ◌+◌, ◌-◌, ◌≤◌, ◌<◌}
use native.Mathlib.Omega.{arith}
use borrow.Author.Tests.{not-true}
use lib.ListN.{length, get_or, drop}
use lib.Seq.{get_or-take, get_or-drop}
use Rattle.automata.specs.Runs.{Events, Machine}
use Rattle.tables.specs.Lengths.{distance, lead, one_less, depth}
use Rattle.tables.specs.Table.{Table, machine, events_of, weight_by}
use Rattle.tables.proofs.Lengths.{distance-below, lead-below}
use Rattle.pairs.specs.Pairs.{triangle, pair_at, workable}
use Rattle.pairs.proofs.Pairs.{pair_lift}
use Rattle.pairs.proofs.Works.{workable-fine}
use Rattle.measures.specs.declared.Measure.{Measure}
use Rattle.measures.specs.Measures.{measure_in}
use Rattle.first_events.specs.FirstEvents.{told}
use Rattle.first_events.proofs.Told.{told-not, told-pair, told-length, told-rest}
use Rattle.depths.proofs.Plumbed.{plumbed-not, plumbed-lead, plumbed-length, plumbed-pairs, plumbed-rest}
use Rattle.lengths.specs.Lengths.{lengths_in, Holds, len_of, depth_at}
use Rattle.lengths.proofs.Cells.{len-of-cell}

module _ (mask : ℕ) (T : Table) (s : List ℕ) where
  abbrev n : ℕ
  n = T.rows

  abbrev E : Events
  E = events_of (weight_by mask) T

  pub lengths-size : length (lengths_in mask T s) ≡ length s
  lengths-size = plumbed-length mask T (told mask T s) ∙ told-length mask T s

  pub lengths-not : workable T (length s) ≡ false → lengths_in mask T s ≡ s
  lengths-not w = plumbed-not mask T (told mask T s) (ap (workable T) (told-length mask T s) ∙ w) ∙ told-not mask T s w

  -- Beyond the pairs and the leads nothing changes.
  pub lengths_beyond : (i : ℕ) → triangle n + n ≤ i → get_or (lengths_in mask T s) i 0 ≡ get_or s i 0
  lengths_beyond i h =
      beyond (triangle n + n) (lengths_in mask T s) (told mask T s) (plumbed-rest mask T (told mask T s)) i h
      ∙ beyond (triangle n) (told mask T s) s (told-rest mask T s) i (omega arith)
    where
      beyond : (j : ℕ) (a b : List ℕ) → drop j a ≡ drop j b → (i : ℕ) → j ≤ i → get_or a i 0 ≡ get_or b i 0
      beyond j a b e i h =
          let g : j + (i - j) ≡ i = omega arith in
          subst (λ (x : ℕ). get_or a x 0 ≡ get_or b x 0) g (sym (get_or-drop j a (i - j) 0) ∙ ap (λ (l : List ℕ). get_or l (i - j) 0) e ∙ get_or-drop j b (i - j) 0)

  -- The leads do not touch the pairs.
  pairs_stand : (q p : ℕ) → q < n → p < n → pair_at (lengths_in mask T s) q p ≡ pair_at (told mask T s) q p
  pairs_stand =
      pair_lift ◌≡◌ n (lengths_in mask T s) (told mask T s) refl (λ i h.
      sym (get_or-take (triangle n) (lengths_in mask T s) i 0 h)
      ∙ ap (λ (l : List ℕ). get_or l i 0) (plumbed-pairs mask T (told mask T s))
      ∙ get_or-take (triangle n) (told mask T s) i 0 h)

  module _ (w : workable T (length s) ≡ true) where
    still : workable T (length (told mask T s)) ≡ true
    still = ap (workable T) (told-length mask T s) ∙ w

    pub lengths-hold : Holds E (machine T) (lengths_in mask T s)
    lengths-hold = record {
      room = omega (arith, (workable-fine T (length s) w).1, lengths-size);
      pairs_hold = λ q p hq hp. ap measure_in (pairs_stand q p hq hp) ∙ told-pair mask T s w q p hq hp;
      leads_hold = plumbed-lead mask T (told mask T s) still;
    }

-- ---- what the code's tests tell
module _ (mask : ℕ) (T : Table) (s d : List ℕ) (r : Bool) (test : r ≡ workable T (length s)) (found : d ≡ told mask T s) where
  pub refuses : not r ≡ true → (false ≡ workable T (length s)) × (d ≡ lengths_in mask T s)
  refuses e =
      let w = sym test ∙ not-true r e in
      (sym w, found ∙ told-not mask T s w ∙ sym (lengths-not mask T s w))

-- ---- what is read back
module _ {E : Events} {M : Machine} {s : List ℕ} (small : M.rows ≤ 1024) (holds : Holds E M s) where
  pub distance_held : (q p : ℕ) → q < M.rows → p < M.rows → len_of (measure_in (pair_at s q p)).distance ≡ distance E M q p
  distance_held q p hq hp =
      ap (λ (m : Measure). len_of m.distance) (holds.pairs_hold q p hq hp) ∙ len-of-cell M.rows (omega arith) (distance E M q p) (distance-below E M q p)

  pub depth_held : (q : ℕ) → q < M.rows → depth_at M.rows s q ≡ depth E M q
  unfolding depth
  depth_held q h = ap (λ (c : ℕ). one_less (len_of c)) (holds.leads_hold q h) ∙ ap one_less (len-of-cell (M.rows + 1) (omega arith) (lead E M q) (lead-below E M q))
