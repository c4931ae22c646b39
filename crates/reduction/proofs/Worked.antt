-- Rows that were folded and numbered: what was written is the reduction, and the scratch tells each row's depth and fate.
use mathlib.Core.Path.{◌≡◌, refl, sym, ap, subst, ◌∙◌}
use mathlib.Core.List.{List}
use Prim.Native.Nat.{ℕ, ◌+◌, ◌*◌, ◌≤◌, ◌<◌}
use native.Mathlib.Omega.{arith}
use borrow.Author.Tests.{lt-ltb, eq-eqb}
use lib.ListN.{length, get_or}
use Rattle.automata.specs.Runs.{Events, Machine}
use Rattle.automata.proofs.Lists.{Mem}
use Rattle.tables.specs.Lists.{place}
use Rattle.tables.specs.Table.{Table, Offset, Valid, machine, events_of, weight_by}
use Rattle.tables.specs.Reduction.{kept, fold, number, numbering, reduced}
use Rattle.tables.proofs.Counted.{mask_light}
use Rattle.tables.proofs.Lists.{some_mem}
use Rattle.tables.proofs.Numbering.{numbering_same, renumbered_same}
use Rattle.tables.proofs.Theorems.{Reached, start_reached, target_reached, fold_reached, kept_itself, kept_met}
use Rattle.scratch.specs.Folds.{Folds}
use Rattle.renumbering.specs.Line.{fold_row}
use Rattle.renumbering.specs.Renumber.{line, left, Numbered}
use Rattle.renumbering.proofs.Lines.{line_fits}
use Rattle.renumbering.proofs.Left.{line-number}
use Rattle.reduction.specs.Working.{Told}

module _ (k : Offset) (mask : ℕ) (T : Table) (v : Valid T) (s : List ℕ) (F : Folds (events_of (weight_by mask) T) (machine T) k s) where
  abbrev n : ℕ
  n = T.rows

  abbrev E : Events
  E = events_of (weight_by mask) T

  abbrev M : Machine
  M = machine T

  light : (a : ℕ) → weight_by mask a ≤ 1
  light = (mask_light mask T).at_most

  abbrev Here : ℕ → Type 0
  Here = Reached (weight_by mask) light T v

  folds_are : (q : ℕ) → Here q → fold_row n s q ≡ fold E M k q
  folds_are q h =
      let e = F.folds q h.0 h.1 in
      let low : get_or s (2 * n + q) 0 < n = omega (arith, e, (fold_reached (weight_by mask) light T v k q h).0) in
      rw (lt-ltb (get_or s (2 * n + q) 0) n low) e

  at_target : (x a : ℕ) → Here x → a < T.events → fold_row n s (M.target x a) ≡ fold E M k (M.target x a)
  at_target x a h ha = folds_are (M.target x a) (target_reached (weight_by mask) light T v x a h ha)

  next_here : (x a : ℕ) → Here x → a < T.events → Here (fold E M k (M.target x a))
  next_here x a h ha = fold_reached (weight_by mask) light T v k (M.target x a) (target_reached (weight_by mask) light T v x a h ha)

  -- The table that is left is the reduction.
  pub left-reduced : left T s ≡ reduced (weight_by mask) k T
  unfolding left reduced
  left-reduced =
      renumbered_same T.events M (fold_row n s) (fold E M k) Here (folds_are T.start (start_reached (weight_by mask) light T v))
      (fold_reached (weight_by mask) light T v k T.start (start_reached (weight_by mask) light T v)) at_target next_here

  line_is : line T s ≡ numbering T.events M (fold E M k)
  unfolding line
  line_is =
      numbering_same T.events M (fold_row n s) (fold E M k) Here (folds_are T.start (start_reached (weight_by mask) light T v))
      (fold_reached (weight_by mask) light T v k T.start (start_reached (weight_by mask) light T v)) at_target next_here

  -- A kept row is in line.
  in_line_lem : (q : ℕ) → Here q → fold E M k q ≡ q → Mem q (line T s)
  in_line_lem q h e =
      subst (Mem q) (sym line_is) (kept_met (weight_by mask) light T v k q (some_mem q (kept E M k) (kept_itself (weight_by mask) light T v k q h.0 h.1 ∙ eq-eqb (fold E M k q) q e)))

  -- What the scratch tells once the rows have their numbers.
  pub told : (t : List ℕ) → Numbered T s t → Told E M k t
  unfolding number
  told t g =
      let short = line_fits n (line T s) t g.0 in
      record {
        leads = λ q h. g.1.leads q h ∙ F.leads q h;
        folds = λ q h u. g.1.rest (2 * n + q) (omega (arith, short)) (omega arith) ∙ F.folds q h u;
        numbers = λ q h u e.
            line-number T v s t g (length (line T s)) refl q (in_line_lem q (h, u) e) ∙ ap (place q) line_is
            ∙ ap (λ (x : ℕ). place x (numbering T.events M (fold E M k))) (sym e);
      }
