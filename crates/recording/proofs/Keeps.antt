-- What the work, the records and the clearing leave is what the reducer promises.
use mathlib.Core.Path.{◌≡◌, sym, ap, ◌∙◌}
use mathlib.Core.List.{List, ◌++◌, map}
use Prim.Native.Nat.{ℕ, min}
use native.Mathlib.Omega.{arith}
use lib.ListN.{length, drop}
use Rattle.tables.specs.Table.{Table, Offset, Valid, weight_by}
use Rattle.tables.specs.Reduction.{reduced, records as records_of}
use Rattle.tables.proofs.Counted.{mask_light}
use Rattle.tables.proofs.Theorems.{records-length}
use Rattle.scratch.specs.Scratch.{cleared}
use Rattle.records.specs.declared.Record.{Record}
use Rattle.records.specs.Records.{written}
use Rattle.records.proofs.Written.{written_is}
use Rattle.rules.specs.Rules.{Verdict, sound, left_by}
use Rattle.std.specs.Prelude.{Result, Ok, Err}
use Rattle.rules.specs.declared.Refusal.{Refusal}
use Rattle.reduction_rules.specs.Checks.{verdict}
use Rattle.reduction.specs.Reduce.{Promise}
use Rattle.reduction.specs.Working.{work_by, Worked}
use Rattle.reduction.specs.declared.Done.{Done}
use Rattle.reduction_rules.proofs.Room.{Roomy, fine-roomy}
use Rattle.reduction.proofs.Promised.{done, undone, promised_refused, promised}
use Rattle.recording.specs.Recorded.{record_of, records_by}
use Rattle.recording.proofs.Told.{all_told}

-- The offset and the table; the lent cells, mark bytes, records and scratch at entry; the cells, mark bytes and scratch after the work.
module _ (need : ℕ → ℕ) (k : Offset) (mask : ℕ) (T : Table) (cells marks : List ℕ) (records : List Record) (scratch : List ℕ) (cells' marks' worked' : List ℕ)
    (valid_if : verdict need mask T (length cells) (length marks) (length records) (length scratch) ≡ sound → Valid T) where
  abbrev v : Verdict
  v = verdict need mask T (length cells) (length marks) (length records) (length scratch)

  -- The records, where no rule is broken.
  recorded : v ≡ sound → Worked need v k mask T scratch worked' → written records worked' T.rows (min T.rows (length records)) ≡ records_by v records (records_of (weight_by mask) k T)
  recorded e h =
      let r : Roomy need T (length cells) (length marks) (length records) (length scratch)
      = fine-roomy need mask T (length cells) (length marks) (length records) (length scratch) e (valid_if e) in
      let n : ℕ = T.rows in
      let all : min n (length records) ≡ n = omega (arith, r.records_fit) in
      let size : length (records_of (weight_by mask) k T) ≡ n = records-length (weight_by mask) (mask_light mask T).at_most T r.valid k in
      ap (written records worked' n) all ∙ written_is records worked' n n r.records_fit
      ∙ ap (λ (l : List Record). l ++ drop n records) (all_told k mask T r.valid worked' (h.told e))
      ∙ ap (λ (m : ℕ). map record_of (records_of (weight_by mask) k T) ++ drop m records) (sym size)
      ∙ sym (ap (λ (u : Verdict). records_by u records (records_of (weight_by mask) k T)) e)

  module _ (hc : cells' ≡ left_by v cells (reduced (weight_by mask) k T).cells) (hm : marks' ≡ left_by v marks (reduced (weight_by mask) k T).marks) (w : Worked need v k mask T scratch worked') where
    -- The work refuses.
    pub keeps_refused : {x : Result Done Refusal} {r : Refusal} → x ≡ work_by need v k mask T → x ≡ Err r
        → Promise need v k mask T cells marks scratch (Err r) cells' marks' worked' × (records ≡ records_by v records (records_of (weight_by mask) k T))
    keeps_refused {x} {r} e was = (
      promised_refused need k mask T cells marks scratch (length records) valid_if cells' marks' hc hm worked' w e was,
      sym (ap (λ (u : Verdict). records_by u records (records_of (weight_by mask) k T)) (undone need v k mask T r (sym was ∙ e))),
    )

    -- It is done; then the records are written, and the scratch is cleared.
    pub keeps : {x : Result Done Refusal} {d : Done} {records' : List Record} {scratch' : List ℕ} → x ≡ work_by need v k mask T → x ≡ Ok d
        → records' ≡ written records worked' d.rows (min d.rows (length records))
        → scratch' ≡ cleared worked' 0 d.used
        → Promise need v k mask T cells marks scratch (Ok d.left) cells' marks' scratch' × (records' ≡ records_by v records (records_of (weight_by mask) k T))
    keeps {x} {d} {records'} {scratch'} e was hr hs =
        let known = done need v k mask T d (sym was ∙ e) in (
          promised need k mask T cells marks scratch (length records) valid_if cells' marks' hc hm worked' w e was hs,
          hr ∙ ap (λ (n : ℕ). written records worked' n (min n (length records))) known.2 ∙ recorded known.0 w,
        )
