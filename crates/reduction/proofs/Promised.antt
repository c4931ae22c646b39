-- The promise, from what the work and the clearing leave.
use mathlib.Core.Path.{◌≡◌, refl, sym, ap, subst, ◌∙◌}
use mathlib.Core.List.{List}
use Prim.Native.Nat.{ℕ, ◌+◌, ◌*◌, ◌≤◌}
use native.Mathlib.Nat.{mul-le-mul_right}
use native.Mathlib.Omega.{arith}
use lib.ListN.{length, take, replicate}
use Rattle.automata.specs.Runs.{AgreeFrom}
use Rattle.tables.specs.Lists.{over}
use Rattle.tables.specs.Table.{Table, Offset, offset, none, Valid, mark_byte_count, machine, events_of, weight_by, Fewest}
use Rattle.tables.specs.Reduction.{reduced}
use Rattle.tables.proofs.Over.{take-over}
use Rattle.tables.proofs.Counted.{mask_light}
use Rattle.tables.proofs.Theorems.{never-more, valid, agrees, agrees_none, fewest, same_events, start_zero}
use Rattle.rules.specs.Rules.{Verdict, sound, left_by}
use Rattle.std.specs.Prelude.{Result, Ok, Err}
use Rattle.rules.specs.declared.Refusal.{Refusal}
use Rattle.scratch.specs.Scratch.{cleared}
use Rattle.scratch.proofs.Cells.{clear_work}
use Rattle.reduction.specs.declared.Done.{Done}
use Rattle.reduction_rules.specs.Checks.{verdict, answer_by}
use Rattle.reduction.specs.Reduce.{from, written, Promise}
use Rattle.reduction.specs.Working.{work_by, Worked}
use Rattle.reduction_rules.proofs.Room.{Roomy, fine-roomy}

-- An answer with a row count is given where no rule is broken.
counted : (v : Verdict) (m n : ℕ) → answer_by v m ≡ Ok n → (v ≡ sound) × (m ≡ n)
counted (Ok u) m n e = (refl, cc)
counted (Err r) m n e = let z : ◌≡◌ {A = ℕ} 0 1 = cc in absurd (omega arith)

-- What the work answers tells its verdict.
module _ (need : ℕ → ℕ) (v : Verdict) (k : Offset) (mask : ℕ) (T : Table) where
  pub done : (d : Done) → Ok d ≡ work_by need v k mask T → (v ≡ sound) × (d.left ≡ (reduced (weight_by mask) k T).rows) × (d.rows ≡ T.rows) × (d.used ≡ need T.rows)
  done d h = pick v h
    where
      pick : (u : Verdict) → Ok d ≡ work_by need u k mask T → (u ≡ sound) × (d.left ≡ (reduced (weight_by mask) k T).rows) × (d.rows ≡ T.rows) × (d.used ≡ need T.rows)
      pick (Ok u) e = (refl, cc, cc, cc)
      pick (Err r) e = let z : ◌≡◌ {A = ℕ} 0 1 = cc in absurd (omega arith)

  pub undone : (r : Refusal) → Err r ≡ work_by need v k mask T → v ≡ Err r
  undone r h = pick v h
    where
      pick : (u : Verdict) → Err r ≡ work_by need u k mask T → u ≡ Err r
      pick (Ok u) e = let z : ◌≡◌ {A = ℕ} 0 1 = cc in absurd (omega arith)
      pick (Err s) e = let same : s ≡ r = cc in ap Err same

-- A table from its parts.
table : (U : Table) {c m : List ℕ} {e s : ℕ} → c ≡ U.cells → m ≡ U.marks → e ≡ U.events → s ≡ U.start
    → ◌≡◌ {A = Table} (record { rows = U.rows; events = e; start = s; cells = c; marks = m }) U
table U hc hm he hs = rw (hc, hm, he, hs)

module _ (need : ℕ → ℕ) (k : Offset) (mask : ℕ) (T : Table) (cells marks scratch : List ℕ) (records : ℕ) (valid_if : verdict need mask T (length cells) (length marks) records (length scratch) ≡ sound → Valid T) where
  abbrev v : Verdict
  v = verdict need mask T (length cells) (length marks) records (length scratch)

  abbrev U : Table
  U = reduced (weight_by mask) k T

  -- What stands in the buffers is the reduced table.
  written_is : Roomy need T (length cells) (length marks) records (length scratch) → written U.rows T.events (over cells 0 U.cells) (over marks 0 U.marks) ≡ U
  written_is r =
      let w = valid (weight_by mask) (mask_light mask T).at_most T r.valid k in
      let rows = never-more (weight_by mask) (mask_light mask T).at_most T r.valid k in
      let e = same_events (weight_by mask) (mask_light mask T).at_most T r.valid k in
      let wide : U.rows * T.events ≡ 0 + length U.cells = omega (arith, w.all_cells, ap (λ (m : ℕ). U.rows * m) e) in
      let bytes : mark_byte_count U.rows ≡ 0 + length U.marks = omega (arith, w.all_marks) in
      let cells_fit : 0 + length U.cells ≤ length cells = omega (arith, r.cells_fit, mul-le-mul_right T.events rows) in
      let marks_fit : 0 + length U.marks ≤ length marks = omega (arith, r.marks_fit) in
      table U (ap (λ (m : ℕ). take m (over cells 0 U.cells)) wide ∙ take-over cells 0 U.cells cells_fit)
      (ap (λ (m : ℕ). take m (over marks 0 U.marks)) bytes ∙ take-over marks 0 U.marks marks_fit) (sym e) (sym (start_zero (weight_by mask) (mask_light mask T).at_most T r.valid k))

  agrees_from : Valid T → AgreeFrom (events_of (weight_by mask) T) (from k T) (machine T) (machine U)
  agrees_from h = pick k
    where
      pick : (j : Offset) → AgreeFrom (events_of (weight_by mask) T) (from j T) (machine T) (machine (reduced (weight_by mask) j T))
      pick (offset j) = agrees (weight_by mask) (mask_light mask T).at_most T h (offset j)
      pick none = agrees_none (weight_by mask) (mask_light mask T).at_most T h

  -- Demands 2 and 3 of what was written.
  module _ (r : Result ℕ Refusal) (cells' marks' : List ℕ) (hr : r ≡ answer_by v U.rows) (hc : cells' ≡ left_by v cells U.cells) (hm : marks' ≡ left_by v marks U.marks) (n : ℕ) (e : r ≡ Ok n) where
    fine : v ≡ sound
    fine = (counted v U.rows n (sym hr ∙ e)).0

    roomy : Roomy need T (length cells) (length marks) records (length scratch)
    roomy = fine-roomy need mask T (length cells) (length marks) records (length scratch) fine (valid_if fine)

    stands : written n T.events cells' marks' ≡ U
    stands =
        ap (λ (m : ℕ). written m T.events cells' marks') (sym (counted v U.rows n (sym hr ∙ e)).1)
        ∙ ap (λ (c : List ℕ). written U.rows T.events c marks') (hc ∙ ap (λ (u : Verdict). left_by u cells U.cells) fine)
        ∙ ap (written U.rows T.events (over cells 0 U.cells)) (hm ∙ ap (λ (u : Verdict). left_by u marks U.marks) fine)
        ∙ written_is roomy

    keeps-2 : AgreeFrom (events_of (weight_by mask) T) (from k T) (machine T) (machine (written n T.events cells' marks'))
    keeps-2 = subst (λ (N : Table). AgreeFrom (events_of (weight_by mask) T) (from k T) (machine T) (machine N)) (sym stands) (agrees_from roomy.valid)

    keeps-3 : Fewest (weight_by mask) k T (written n T.events cells' marks')
    keeps-3 = subst (Fewest (weight_by mask) k T) (sym stands) (fewest (weight_by mask) (mask_light mask T).at_most T roomy.valid k)

    keeps-valid : let N = written n T.events cells' marks' in Valid N × (N.events ≡ T.events)
    keeps-valid = (subst Valid (sym stands) (valid (weight_by mask) (mask_light mask T).at_most T roomy.valid k), refl)

  -- The promise, however the answer and the scratch came about.
  module _ (cells' marks' : List ℕ) (hc : cells' ≡ left_by v cells U.cells) (hm : marks' ≡ left_by v marks U.marks) where
    kept : (r : Result ℕ Refusal) (scratch' : List ℕ) → r ≡ answer_by v U.rows → scratch' ≡ left_by v scratch (replicate (need T.rows) 0)
        → Promise need v k mask T cells marks scratch r cells' marks' scratch'
    kept r scratch' hr hs = record {
      answers = hr;
      cells_after = hc;
      marks_after = hm;
      scratch_after = hs;
      demand_2 = keeps-2 r cells' marks' hr hc hm;
      demand_3 = keeps-3 r cells' marks' hr hc hm;
      one_of_those = keeps-valid r cells' marks' hr hc hm;
    }

    module _ (t : List ℕ) (w : Worked need v k mask T scratch t) where
      -- The work refuses, and leaves the scratch t.
      pub promised_refused : {x : Result Done Refusal} {r : Refusal} → x ≡ work_by need v k mask T → x ≡ Err r → Promise need v k mask T cells marks scratch (Err r) cells' marks' t
      promised_refused {x} {r} h was =
          let e = undone need v k mask T r (sym was ∙ h) in
          kept (Err r) t (sym (ap (λ (u : Verdict). answer_by u U.rows) e)) (w.refused r e ∙ sym (ap (λ (u : Verdict). left_by u scratch (replicate (need T.rows) 0)) e))

      -- It is done, and the scratch is cleared after it.
      pub promised : {x : Result Done Refusal} {d : Done} {scratch' : List ℕ} → x ≡ work_by need v k mask T → x ≡ Ok d → scratch' ≡ cleared t 0 d.used
          → Promise need v k mask T cells marks scratch (Ok d.left) cells' marks' scratch'
      promised {x} {d} {scratch'} h was hs =
          let e = done need v k mask T d (sym was ∙ h) in
          let r = fine-roomy need mask T (length cells) (length marks) records (length scratch) e.0 (valid_if e.0) in
          kept (Ok d.left) scratch' (ap Ok e.1 ∙ sym (ap (λ (u : Verdict). answer_by u U.rows) e.0))
          (hs ∙ ap (cleared t 0) e.3 ∙ clear_work (need T.rows) scratch t r.scratch_fits w.size w.beyond ∙ sym (ap (λ (u : Verdict). left_by u scratch (replicate (need T.rows) 0)) e.0))
