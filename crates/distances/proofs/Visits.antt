-- One pair's turn, at the place that the code computes for its cell.
use mathlib.Core.Path.{◌≡◌, sym, ap, ◌∙◌}
use mathlib.Core.Bool.{true, false}
use mathlib.Core.List.{List}
use Prim.Native.Nat.{ℕ, ◌+◌, ◌<◌}
use lib.ListN.{get_or, set}
use Rattle.automata.specs.Runs.{Events, Machine}
use Rattle.pairs.specs.Pairs.{triangle, pair_at}
use Rattle.pairs.proofs.Cells.{pair_greater}
use Rattle.distances.specs.Search.{Fits, Begun, Visited}
use Rattle.distances.proofs.Moves.{turned_none, raised}

module _ {E : Events} {M : Machine} {level : ℕ} {s : List ℕ} (b : Begun E M level s) (q p : ℕ) where
  -- The pair does not have the level.
  pub visit_other : (at x : ℕ) → at ≡ triangle q + p → x ≡ get_or s at 0 → p < q → (x ≡ level → ⊥) → Visited E M level q p s s false
  visit_other at x ha hx hp other =
      turned_none b (λ e. absurd (other (hx ∙ ap (λ (k : ℕ). get_or s k 0) ha ∙ sym (pair_greater s q p hp) ∙ e)))

  -- The level fits.
  pub visit_fits : Fits E M (pair_at s) level q p → Visited E M level q p s s false
  visit_fits f = turned_none b (λ e. f)

  -- It does not.
  pub visit_raised : (at x : ℕ) (t : List ℕ) → at ≡ triangle q + p → x ≡ get_or s at 0 → q < M.rows → p < q → x ≡ level → (Fits E M (pair_at s) level q p → ⊥)
      → t ≡ set s at 65535 → Visited E M level q p s t true
  visit_raised at x t ha hx hq hp e bad ht =
      rw (ht, ha) (raised s q p b hq hp (sym (ap (λ (k : ℕ). get_or s k 0) ha) ∙ sym hx ∙ e) bad)
