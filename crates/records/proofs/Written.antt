-- Records written one after the other, as one list.
use mathlib.Core.Path.{◌≡◌, refl, sym, ap, ◌∙◌}
use mathlib.Core.List.{List, ◌∷◌, ◌++◌}
use Prim.Native.Nat.{ℕ, zero, suc, ◌+◌, ◌≤◌}
use native.Mathlib.Omega.{arith}
use lib.ListN.{length, take, drop, set, length-set}
use lib.Seq.{take_at, drop_at, drop-drop, set_split, append_snoc}
use Rattle.tables.specs.Lists.{tabulate}
use Rattle.tables.proofs.Lists.{tabulate-length, tabulate-more}
use Rattle.records.specs.Records.{record_at_row, written}
use Rattle.records.specs.declared.Record.{Record}

pub written-length : (xs : List Record) (s : List ℕ) (n i : ℕ) → length (written xs s n i) ≡ length xs
written-length xs s n zero = refl
written-length xs s n (suc i) = simp length-set (written-length xs s n i)

-- One element more of a list that is written from the front.
module _ (xs : List Record) (f : ℕ → Record) (i : ℕ) where
  abbrev front : List Record
  front = tabulate i f

  rest : drop (suc i) (front ++ drop i xs) ≡ drop (suc i) xs
  rest =
      let e : i + 1 ≡ suc i = omega arith in
      ap (λ (k : ℕ). drop k (front ++ drop i xs)) (sym e) ∙ sym (drop-drop 1 i (front ++ drop i xs))
      ∙ ap (drop 1) (drop_at front (drop i xs) i (tabulate-length i f)) ∙ drop-drop 1 i xs ∙ ap (λ (k : ℕ). drop k xs) e

  one_more : (ys : List Record) → ys ≡ front ++ drop i xs → suc i ≤ length ys → set ys i (f i) ≡ tabulate (suc i) f ++ drop (suc i) xs
  one_more ys e h =
      set_split ys i (f i) h ∙ ap (λ (l : List Record). take i l ++ f i ∷ drop (suc i) l) e
      ∙ ap (λ (l : List Record). l ++ f i ∷ drop (suc i) (front ++ drop i xs)) (take_at front (drop i xs) i (tabulate-length i f))
      ∙ ap (λ (l : List Record). front ++ f i ∷ l) rest
      ∙ sym (append_snoc front (f i) (drop (suc i) xs)) ∙ ap (λ (l : List Record). l ++ drop (suc i) xs) (sym (tabulate-more i f))

-- The records of the first i rows in front, and what was there beyond them.
pub written_is : (xs : List Record) (s : List ℕ) (n i : ℕ) → i ≤ length xs → written xs s n i ≡ tabulate i (record_at_row s n) ++ drop i xs
unfolding tabulate
written_is xs s n zero h = refl
written_is xs s n (suc i) h = one_more xs (record_at_row s n) i (written xs s n i) (written_is xs s n i (omega arith)) (omega (arith, written-length xs s n i))
