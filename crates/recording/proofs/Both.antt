-- "Its table, records and refusals equal the first way's": where both ways have room, they leave the same answer, cells, mark bytes and records.
use mathlib.Core.Path.{◌≡◌, sym, ap, ◌∙◌}
use mathlib.Core.List.{List}
use Prim.Native.Nat.{ℕ, ◌≤◌}
use lib.ListN.{length}
use Rattle.tables.specs.Table.{Table, Offset, weight_by}
use Rattle.tables.specs.Reduction.{reduced, records as records_of}
use Rattle.rules.specs.Rules.{Verdict, left_by}
use Rattle.std.specs.Prelude.{Result}
use Rattle.rules.specs.declared.Refusal.{Refusal}
use Rattle.scratch.specs.Scratch.{scratch_cells, few_cells}
use Rattle.records.specs.declared.Record.{Record}
use Rattle.reduction_rules.specs.Checks.{verdict, answer_by}
use Rattle.reduction.specs.Reduce.{Promise}
use Rattle.reduction_rules.proofs.Room.{same_verdict}
use Rattle.recording.specs.Recorded.{records_by}

-- What a call of a way promises, given the lent cells, mark bytes, records and scratch, its answer, and what stands in them afterwards.
abbrev Kept : (ℕ → ℕ) → Offset → ℕ → Table → List ℕ → List ℕ → List Record → List ℕ → Result ℕ Refusal → List ℕ → List ℕ → List Record → List ℕ → Type 0
Kept need k mask T cells marks records scratch r cells' marks' records' scratch' =
    let v = verdict need mask T (length cells) (length marks) (length records) (length scratch) in
    Promise need v k mask T cells marks scratch r cells' marks' scratch' × (records' ≡ records_by v records (records_of (weight_by mask) k T))

pub both_ways : (k : Offset) (mask : ℕ) (T : Table) (cells marks : List ℕ) (records : List Record) (s t : List ℕ) → scratch_cells T.rows ≤ length s → few_cells T.rows ≤ length t
    → (a b : Result ℕ Refusal) (c d m n : List ℕ) (x y : List Record) (s' t' : List ℕ) → Kept scratch_cells k mask T cells marks records s a c m x s' → Kept few_cells k mask T cells marks records t b d n y t'
    → (a ≡ b) × (c ≡ d) × (m ≡ n) × (x ≡ y)
both_ways k mask T cells marks records s t hs ht a b c d m n x y s' t' p q =
    let e = same_verdict scratch_cells few_cells mask T (length cells) (length marks) (length records) (length s) (length t) hs ht in (
      p.0.answers ∙ ap (λ (v : Verdict). answer_by v (reduced (weight_by mask) k T).rows) e ∙ sym q.0.answers,
      p.0.cells_after ∙ ap (λ (v : Verdict). left_by v cells (reduced (weight_by mask) k T).cells) e ∙ sym q.0.cells_after,
      p.0.marks_after ∙ ap (λ (v : Verdict). left_by v marks (reduced (weight_by mask) k T).marks) e ∙ sym q.0.marks_after,
      p.1 ∙ ap (λ (v : Verdict). records_by v records (records_of (weight_by mask) k T)) e ∙ sym q.1,
    )
