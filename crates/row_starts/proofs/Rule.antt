-- The rule of the stored table, at each of its entries.
use Prim.Native.Nat.{ℕ, zero, suc, ◌+◌, ◌-◌, ◌*◌, ◌/◌, ◌<◌}
use mathlib.Core.Path.{◌≡◌, refl, sym, ap, ap₂, ◌∙◌}
use mathlib.Core.Bool.{Bool, true, ◌&&◌}
use mathlib.Core.List.{List, [], ◌∷◌}
use native.Mathlib.Nat.{add-zero, zero-add, mul_comm, mul-suc}
use native.Mathlib.Omega.{arith}
use borrow.Author.Tests.{eqb-true}
use lib.Dec.{eqb}
use lib.ListN.{length, get_or}
use Rattle.automata.proofs.Tests.{and_left, and_right}
use Rattle.tables.specs.Lists.{tabulate}
use Rattle.tables.proofs.Lists.{tabulate-length, tabulate-at, tabulate-same}
use Rattle.row_starts.specs.RowStarts.{row_start, starts_of_rows}

-- Whether the members of a list are f of i, i + 1, ..: the test that the checker computes over the whole table.
abbrev pub follows : (ℕ → ℕ) → ℕ → List ℕ → Bool
follows f i [] = true
follows f i (x ∷ l) = eqb x (f i) && follows f (suc i) l

follows-all : (f : ℕ → ℕ) (i : ℕ) (l : List ℕ) → follows f i l ≡ true → l ≡ tabulate (length l) (λ k. f (i + k))
unfolding tabulate
follows-all f i [] t = refl
follows-all f i (x ∷ l) t =
    ap₂ ◌∷◌
    (eqb-true x (f i) (and_left (eqb x (f i)) (follows f (suc i) l) t) ∙ ap f (sym (add-zero i)))
    (follows-all f (suc i) l (and_right (eqb x (f i)) (follows f (suc i) l) t)
    ∙ tabulate-same (length l) (λ k. f (suc i + k)) (λ k. f (i + suc k)) (λ k h. ap f (omega arith)))

-- A list of 1,024 that passes is the table.
pub ruled : (l : List ℕ) → length l ≡ 1024 → follows row_start 0 l ≡ true → l ≡ starts_of_rows
unfolding starts_of_rows
ruled l n t =
    follows-all row_start 0 l t
    ∙ ap (λ (m : ℕ). tabulate m (λ k. row_start (0 + k))) n
    ∙ tabulate-same 1024 (λ k. row_start (0 + k)) row_start (λ k h. ap row_start (zero-add k))

pub entries : length starts_of_rows ≡ 1024
unfolding starts_of_rows
entries = tabulate-length 1024 row_start

-- "Every entry i is i × (i − 1) / 2."
pub entry : (i : ℕ) → i < 1024 → get_or starts_of_rows i 0 ≡ i * (i - 1) / 2
unfolding starts_of_rows
entry i h = tabulate-at 1024 row_start i 0 h

-- "Entry 0 is 0, and each next entry is the previous one plus the previous row's number."
pub start_next : (i : ℕ) → row_start (suc i) ≡ row_start i + i
start_next zero = refl
start_next (suc i) =
    let one : suc i - 1 ≡ i = omega arith in
    let two : suc (suc i) - 1 ≡ suc i = omega arith in
    rw (one, two, mul_comm (suc (suc i)) (suc i)) (omega (arith, mul-suc (suc i) (suc i), mul-suc (suc i) i))

pub entry_first : get_or starts_of_rows 0 0 ≡ 0
entry_first = entry 0 (omega arith)

pub entry_next : (i : ℕ) → suc i < 1024 → get_or starts_of_rows (suc i) 0 ≡ get_or starts_of_rows i 0 + i
entry_next i h = entry (suc i) h ∙ start_next i ∙ ap (λ (x : ℕ). x + i) (sym (entry i (omega arith)))
