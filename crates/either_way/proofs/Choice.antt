-- Either way of folding meets the contract of both.
use mathlib.Core.Path.{◌≡◌, sym, ap, ◌∙◌}
use mathlib.Core.Bool.{Bool, true, false, cond}
use mathlib.Core.List.{List}
use Prim.Native.Nat.{ℕ, ◌≤◌}
use native.Mathlib.Omega.{arith}
use lib.Dec.{leb}
use lib.ListN.{length, get_or}
use Rattle.automata.proofs.Tests.{clash}
use Rattle.tables.specs.Table.{Table, Offset, machine, events_of, weight_by}
use Rattle.rules.specs.Rules.{judged, winch, table_checks}
use Rattle.pairs.specs.Pairs.{needed, workable}
use Rattle.scratch.specs.Scratch.{scratch_cells, few_cells, fine, workable_in}
use Rattle.scratch.specs.Folds.{Folds}
use Rattle.pairs.proofs.Triangle.{needed-value}
use Rattle.pairs.proofs.Figures.{few_fit, same_works}
use Rattle.folding.specs.Folding.{folded_in}
use Rattle.folding.proofs.FoldedIn.{folded-not}
use Rattle.either_way.specs.Folding.{FoldedBy, Folding}

-- The figure as the document has it, and as the triangle has it.
figures : (T : Table) (room : ℕ) → workable_in scratch_cells T room ≡ workable T room
unfolding workable_in
figures T room = ap (λ (x : ℕ). cond (fine (judged (table_checks winch T))) (leb x room) false) (needed-value T.rows)

module _ (mask : ℕ) (k : Offset) (T : Table) (s t : List ℕ) where
  -- Nothing is done where nothing can be.
  pub not-folded : (need : ℕ → ℕ) → workable_in need T (length s) ≡ false → t ≡ s → Folding need mask k T s t
  not-folded need h e = record { folded = λ w. clash w h; unchanged = λ w. e }

  -- By pairs.
  pub pairs-not : workable T (length s) ≡ false → t ≡ folded_in mask k T s → Folding scratch_cells mask k T s t
  pairs-not h e = not-folded scratch_cells (figures T (length s) ∙ h) (e ∙ folded-not mask k T s h)

  pub pairs_done : workable T (length s) ≡ true → FoldedBy scratch_cells mask k T s t → Folding scratch_cells mask k T s t
  pairs_done h f = record { folded = λ w. f; unchanged = λ w. clash h (sym (figures T (length s)) ∙ w) }

  -- By levels.
  module _ (r : Bool) (works : r ≡ workable_in few_cells T (length s)) (folds : r ≡ true → Folds (events_of (weight_by mask) T) (machine T) k t) (same : r ≡ false → t ≡ s)
      (size : length t ≡ length s) (beyond : (i : ℕ) → few_cells T.rows ≤ i → get_or t i 0 ≡ get_or s i 0) where
    pub few-done : Folding few_cells mask k T s t
    few-done = record { folded = λ w. record { size = size; folds = folds (works ∙ w); beyond = beyond }; unchanged = λ w. same (works ∙ w) }

    -- On the first way's scratch.
    pub levels-done : 17 ≤ T.rows → needed T.rows ≤ length s → Folding scratch_cells mask k T s t
    levels-done many room =
        let few = few_fit T.rows many in
        let both = same_works few_cells scratch_cells T (length s) (omega arith) (omega (arith, needed-value T.rows)) in
        record {
          folded = λ w. record { size = size; folds = folds (works ∙ both ∙ w); beyond = λ i h. beyond i (omega (arith, needed-value T.rows)) };
          unchanged = λ w. same (works ∙ both ∙ w);
        }
