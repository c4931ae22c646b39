-- What stands in scratch after the search: the leads in their place, and all else as before.
use mathlib.Core.Path.{◌≡◌, ap, subst, sym, ◌∙◌}
use mathlib.Core.Bool.{Bool, true, false}
use mathlib.Core.List.{List}
use mathlib.Core.Logic.{inl, inr}
use Prim.Native.Nat.{ℕ, ◌+◌, ◌≤◌, ◌<◌}
use native.Mathlib.Omega.{arith}
use lib.ListN.{length, get_or, take, drop}
use Rattle.automata.proofs.Tests.{either}
use Rattle.tables.specs.Lists.{over}
use Rattle.tables.specs.Lengths.{lead}
use Rattle.tables.specs.Table.{Table, machine, events_of, weight_by}
use Rattle.tables.proofs.Lists.{tabulate-length, tabulate-at}
use Rattle.tables.proofs.Over.{over-length, over_inside, take-before-over, drop-over, rest, with_rest, rest_over}
use Rattle.pairs.specs.Pairs.{triangle, leads_at, workable}
use Rattle.scratch.specs.Scratch.{len_cell}
use Rattle.pairs.proofs.Works.{workable-fine}
use Rattle.depths.specs.Depths.{lead_cells, plumbed}

module _ (mask : ℕ) (T : Table) (s : List ℕ) where
  abbrev leads : List ℕ
  leads = lead_cells (weight_by mask) T

  pub plumbed-not : workable T (length s) ≡ false → plumbed mask T s ≡ s
  unfolding plumbed
  plumbed-not e = rw e

  pub plumbed-over : workable T (length s) ≡ true → plumbed mask T s ≡ over s (leads_at T.rows) leads
  unfolding plumbed
  plumbed-over e = rw e

  -- As the code answers, by r: whether the table can be worked on.
  pub plumbed-refused : {r : Bool} → r ≡ workable T (length s) → r ≡ false → (false ≡ workable T (length s)) × (s ≡ plumbed mask T s)
  plumbed-refused e t = (sym t ∙ e, sym (plumbed-not (sym e ∙ t)))

  pub plumbed_done : {r : Bool} {s' : List ℕ} → r ≡ workable T (length s) → r ≡ true → s' ≡ over s (leads_at T.rows) leads
      → (true ≡ workable T (length s)) × (s' ≡ plumbed mask T s)
  plumbed_done e t g = (sym t ∙ e, g ∙ sym (plumbed-over (sym e ∙ t)))

  -- The search is lent the scratch from the leads on, and leaves b there.
  pub plumbed_lent : {at : ℕ} {b : List ℕ} → at ≡ leads_at T.rows → b ≡ over (rest s at) 0 leads → with_rest s at b ≡ over s (leads_at T.rows) leads
  plumbed_lent {at} place e = ap (with_rest s at) e ∙ rest_over s at leads ∙ ap (λ (k : ℕ). over s k leads) place

  leads-length : length leads ≡ T.rows
  unfolding lead_cells
  leads-length = tabulate-length T.rows (λ q. len_cell (lead (events_of (weight_by mask) T) (machine T) q))

  module _ (e : workable T (length s) ≡ true) where
    fits : leads_at T.rows + length leads ≤ length s
    fits = omega (arith, leads-length, (workable-fine T (length s) e).1)

    pub plumbed-lead : (q : ℕ) → q < T.rows → get_or (plumbed mask T s) (leads_at T.rows + q) 0 ≡ len_cell (lead (events_of (weight_by mask) T) (machine T) q)
    unfolding lead_cells
    plumbed-lead q h =
        ap (λ (t : List ℕ). get_or t (leads_at T.rows + q) 0) (plumbed-over e)
        ∙ over_inside s (leads_at T.rows) leads fits q 0 (omega (arith, leads-length))
        ∙ tabulate-at T.rows (λ r. len_cell (lead (events_of (weight_by mask) T) (machine T) r)) q 0 h

  -- The rest, whether the table could be worked on or not.
  pub plumbed-length : length (plumbed mask T s) ≡ length s
  plumbed-length = elim (either (workable T (length s))) [
    | inl e ↦ ap length (plumbed-over e) ∙ over-length s (leads_at T.rows) leads (fits e)
    | inr e ↦ ap length (plumbed-not e)
  ]

  pub plumbed-pairs : take (triangle T.rows) (plumbed mask T s) ≡ take (triangle T.rows) s
  plumbed-pairs = elim (either (workable T (length s))) [
    | inl e ↦ ap (take (triangle T.rows)) (plumbed-over e) ∙ take-before-over s (leads_at T.rows) leads (fits e)
    | inr e ↦ ap (take (triangle T.rows)) (plumbed-not e)
  ]

  pub plumbed-rest : drop (triangle T.rows + T.rows) (plumbed mask T s) ≡ drop (triangle T.rows + T.rows) s
  plumbed-rest = elim (either (workable T (length s))) [
    | inl e ↦ ap (drop (triangle T.rows + T.rows)) (plumbed-over e)
        ∙ subst (λ (n : ℕ). drop (triangle T.rows + n) (over s (leads_at T.rows) leads) ≡ drop (triangle T.rows + n) s) leads-length
        (drop-over s (leads_at T.rows) leads (fits e))
    | inr e ↦ ap (drop (triangle T.rows + T.rows)) (plumbed-not e)
  ]
