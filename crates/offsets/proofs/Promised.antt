-- The promise, from what the searches and the counting leave.
use mathlib.Core.Path.{◌≡◌, refl, sym, ap, ◌∙◌}
use mathlib.Core.List.{List}
use Prim.Native.Nat.{ℕ, suc, ◌+◌, ◌-◌, ◌*◌, ◌≤◌, ◌<◌}
use native.Mathlib.Omega.{arith}
use lib.ListN.{length, get_or, replicate}
use Rattle.tables.specs.Lists.{tabulate, over}
use Rattle.tables.specs.Table.{Table, offset, none, Valid, Agrees, machine, events_of, weight_by}
use Rattle.tables.specs.Reduction.{reduced}
use Rattle.tables.proofs.Lists.{tabulate-same}
use Rattle.tables.proofs.Over.{front_at}
use Rattle.tables.proofs.Reduced.{sound_of}
use Rattle.tables.proofs.Counted.{mask_light}
use Rattle.tables.proofs.Theorems.{rows_kept, never_grows, far-offset, fewest}
use Rattle.rules.specs.Rules.{Verdict, sound, left_by}
use Rattle.std.specs.Prelude.{Result, Ok, Err}
use Rattle.rules.specs.declared.Refusal.{Refusal}
use Rattle.pairs.specs.Pairs.{needed}
use Rattle.scratch.specs.Scratch.{scratch_cells, cleared}
use Rattle.pairs.proofs.Triangle.{needed-value}
use Rattle.scratch.proofs.Cells.{clear_work}
use Rattle.pairs.proofs.Works.{valid_workable}
use Rattle.quick_folding.specs.Parting.{Aparts}
use Rattle.apart.specs.Finding.{leads_from, FoundAt, Finding}
use Rattle.apart.proofs.Found.{from_low}
use Rattle.sheet_rules.specs.Checks.{entries, verdict}
use Rattle.sheet_rules.proofs.Room.{Roomy, fine-roomy}
use Rattle.sheet_counts.specs.Steps.{kept_at, filled}
use Rattle.sheet_counts.proofs.Filled.{filled-all}
use Rattle.offsets.specs.Sheet.{sheet, answer_by, Promise}
use Rattle.offsets.proofs.Meaning.{kept_held}

-- What is counted in the scratch of a valid table is the sheet.
sheet-found : (mask : ℕ) (T : Table) (from : ℕ) (s : List ℕ) → Valid T → Aparts (events_of (weight_by mask) T) (machine T) from s
    → tabulate (entries T.rows) (kept_at from T.rows s) ≡ sheet (weight_by mask) T
unfolding sheet
sheet-found mask T from s v a =
    let z = mask_light mask T in
    tabulate-same (entries T.rows) (kept_at from T.rows s) (λ k. (reduced (weight_by mask) (offset k) T).rows) (λ k h.
    kept_held v.rows_fit a (sound_of (weight_by mask) T T refl v) z k (omega (arith, v.rows_fit))
    ∙ sym (rows_kept (weight_by mask) z.at_most T v (offset k)))

-- An answer with entries is given where no rule is broken.
wrote : (v : Verdict) (m n : ℕ) → answer_by v m ≡ Ok n → (v ≡ sound) × (m ≡ n)
wrote (Ok u) m n e = (refl, cc)
wrote (Err r) m n e = let z : ◌≡◌ {A = ℕ} 0 1 = cc in absurd (omega arith)

module _ (mask : ℕ) (T : Table) (bytes : (i : ℕ) → get_or T.marks i 0 < 256) (list scratch : List ℕ) where
  abbrev v : Verdict
  v = verdict mask T (length list) (length scratch)

  -- What the entries say, once they are the sheet's.
  module _ (list' : List ℕ) (h : list' ≡ left_by v list (sheet (weight_by mask) T)) (e : v ≡ sound) where
    roomy : Roomy T (length list) (length scratch)
    roomy = fine-roomy mask T (length list) (length scratch) bytes e

    entry_is : (k : ℕ) → k < entries T.rows → get_or list' k 0 ≡ (reduced (weight_by mask) (offset k) T).rows
    unfolding sheet
    entry_is k g =
        ap (λ (l : List ℕ). get_or l k 0) (h ∙ ap (λ (u : Verdict). left_by u list (sheet (weight_by mask) T)) e)
        ∙ front_at list (entries T.rows) (λ i. (reduced (weight_by mask) (offset i) T).rows) roomy.list_fits k g

    entry-falls : (k : ℕ) → suc k < entries T.rows → get_or list' (suc k) 0 ≤ get_or list' k 0
    entry-falls k g =
        let less : k ≤ suc k = omega arith in
        omega (arith, entry_is k (omega arith), entry_is (suc k) g, never_grows (weight_by mask) (mask_light mask T).at_most T roomy.valid (offset k) (offset (suc k)) less)

    last-is : get_or list' (2 * T.rows) 0 ≡ (reduced (weight_by mask) none T).rows
    last-is = entry_is (2 * T.rows) (omega arith) ∙ ap (λ (U : Table). U.rows) (far-offset (weight_by mask) (mask_light mask T).at_most T roomy.valid (2 * T.rows) (omega arith)).0

    entry-fewest : (k : ℕ) → k < entries T.rows → (N : Table) → Valid N → N.events ≡ T.events → Agrees (weight_by mask) (offset k) T N → get_or list' k 0 ≤ N.rows
    entry-fewest k g N w same a = omega (arith, entry_is k g, fewest (weight_by mask) (mask_light mask T).at_most T roomy.valid (offset k) N w same a)

  promise : (r : Result ℕ Refusal) (list' scratch' : List ℕ) → r ≡ answer_by v (entries T.rows) → list' ≡ left_by v list (sheet (weight_by mask) T)
      → scratch' ≡ left_by v scratch (replicate (scratch_cells T.rows) 0) → Promise v mask T list scratch r list' scratch'
  promise r list' scratch' hr hl hs =
      let fine : (n : ℕ) → r ≡ Ok n → (v ≡ sound) × (entries T.rows ≡ n) = λ n e. wrote v (entries T.rows) n (sym hr ∙ e) in
      record {
        answers = hr;
        list_after = hl;
        scratch_after = hs;
        entry = λ n e k g. entry_is list' hl (fine n e).0 k (omega (arith, (fine n e).1));
        falls = λ n e k g. entry-falls list' hl (fine n e).0 k (omega (arith, (fine n e).1));
        last = λ n e. (let g : n - 1 ≡ 2 * T.rows = omega (arith, (fine n e).1) in ap (λ (k : ℕ). get_or list' k 0) g ∙ last-is list' hl (fine n e).0);
        demand_3 = λ n e k g. entry-fewest list' hl (fine n e).0 k (omega (arith, (fine n e).1));
      }

  -- The code's verdict u is the verdict.
  module _ {u : Verdict} (hu : u ≡ v) where
    pub promised-refused : (r : Refusal) → u ≡ Err r → Promise v mask T list scratch (Err r) list scratch
    promised-refused r e =
        let w : v ≡ Err r = sym hu ∙ e in
        promise (Err r) list scratch (sym (ap (λ (x : Verdict). answer_by x (entries T.rows)) w)) (sym (ap (λ (x : Verdict). left_by x list (sheet (weight_by mask) T)) w))
        (sym (ap (λ (x : Verdict). left_by x scratch (replicate (scratch_cells T.rows) 0)) w))

    module _ (e : u ≡ sound) where
      pub fine-rows : T.rows ≤ 1024
      fine-rows = (fine-roomy mask T (length list) (length scratch) bytes (sym hu ∙ e)).valid.rows_fit

      fine-list : entries T.rows ≤ length list
      fine-list = (fine-roomy mask T (length list) (length scratch) bytes (sym hu ∙ e)).list_fits

      -- What was found is in the scratch s, from a cell on that is one of those needed.
      module _ {from : ℕ} {s : List ℕ} (told : (from ≡ leads_from T.rows) × Finding (leads_from T.rows) mask T scratch s) where
        found : FoundAt (leads_from T.rows) mask T scratch s
        found =
            let r = fine-roomy mask T (length list) (length scratch) bytes (sym hu ∙ e) in
            told.1.found (valid_workable T (length scratch) r.valid r.scratch_fits)

        fine-from : from ≤ length s
        fine-from = omega (arith, told.0, from_low T.rows, found.size, (fine-roomy mask T (length list) (length scratch) bytes (sym hu ∙ e)).scratch_fits)

        pub promised-fine : (list' : List ℕ) {to : ℕ} {scratch' : List ℕ} → list' ≡ filled from T.rows s list
            → to ≡ needed T.rows → scratch' ≡ cleared s 0 to → Promise v mask T list scratch (Ok (2 * T.rows + 1)) list' scratch'
        promised-fine list' {to} {scratch'} hl ht hc =
            let w : v ≡ sound = sym hu ∙ e in
            let r = fine-roomy mask T (length list) (length scratch) bytes w in
            promise (Ok (2 * T.rows + 1)) list' scratch' (sym (ap (λ (x : Verdict). answer_by x (entries T.rows)) w))
            (hl ∙ filled-all from T.rows s list fine-list fine-from
            ∙ ap (λ (x : ℕ). over list 0 (tabulate (entries T.rows) (kept_at x T.rows s))) told.0
            ∙ ap (over list 0) (sheet-found mask T (leads_from T.rows) s r.valid found.aparts)
            ∙ sym (ap (λ (x : Verdict). left_by x list (sheet (weight_by mask) T)) w))
            (hc ∙ ap (cleared s 0) ht
            ∙ clear_work (needed T.rows) scratch s r.scratch_fits found.size found.beyond
            ∙ ap (λ (m : ℕ). over scratch 0 (replicate m 0)) (sym (needed-value T.rows))
            ∙ sym (ap (λ (x : Verdict). left_by x scratch (replicate (scratch_cells T.rows) 0)) w))
