-- The folds by pairs, once they have been moved to the front.
use mathlib.Core.Path.{◌≡◌, sym, ap, ◌∙◌}
use mathlib.Core.Bool.{true}
use mathlib.Core.List.{List}
use Prim.Native.Nat.{ℕ, ◌+◌, ◌-◌, ◌*◌, ◌≤◌, ◌<◌}
use native.Mathlib.Omega.{arith}
use native.Mathlib.Nat.{add_assoc}
use lib.ListN.{length, get_or}
use Rattle.std.specs.List.{CopiedTo, SameFrom}
use Rattle.tables.specs.Table.{Table, Offset}
use Rattle.pairs.specs.Pairs.{triangle, workable}
use Rattle.scratch.specs.Scratch.{scratch_cells}
use Rattle.pairs.proofs.Triangle.{needed-value}
use Rattle.pairs.proofs.Works.{workable-fine}
use Rattle.folding.specs.Folding.{folded_in}
use Rattle.folding.proofs.FoldedIn.{folded-size, folded-fold, folded-lead, folded-beyond}
use Rattle.either_way.specs.Folding.{FoldedBy}

module _ (mask : ℕ) (k : Offset) (T : Table) (s : List ℕ) (w : workable T (length s) ≡ true) (t : List ℕ) (e : t ≡ folded_in mask k T s) where
  abbrev n : ℕ
  n = T.rows

  size : length t ≡ length s
  size = ap length e ∙ folded-size mask k T s w

  pub pairs_fit : triangle n + 3 * n ≤ length t
  pairs_fit = omega (arith, size, (workable-fine T (length s) w).1)

  module _ (u : List ℕ) (from count : ℕ) (hf : from ≡ triangle n) (hc : count ≡ 3 * n) (long : length u ≡ length t) (copied : CopiedTo t u from 0 count) (rest : SameFrom t u (0 + count)) where
    moved : (i : ℕ) → i < 3 * n → get_or u i 0 ≡ get_or t (triangle n + i) 0
    moved i h = let at : from + (i - 0) ≡ triangle n + i = omega arith in
        copied i 0 (omega arith) (omega arith) ∙ ap (λ (x : ℕ). get_or t x 0) at

    pub pairs-folded : FoldedBy scratch_cells mask k T s u
    pairs-folded = record {
      size = long ∙ size;
      folds = record {
        leads = λ q h. moved q (omega arith) ∙ ap (λ (l : List ℕ). get_or l (triangle n + q) 0) e ∙ folded-lead mask k T s w q h;
        folds = λ q h r. moved (2 * n + q) (omega arith) ∙ ap (λ (x : ℕ). get_or t x 0) (sym (add_assoc (triangle n) (2 * n) q)) ∙ ap (λ (l : List ℕ). get_or l (triangle n + 2 * n + q) 0) e ∙ folded-fold mask k T s w q h;
      };
      beyond = λ i h. rest i 0 (omega (arith, needed-value n)) ∙ ap (λ (l : List ℕ). get_or l i 0) e ∙ folded-beyond mask k T s w i (omega (arith, needed-value n));
    }
