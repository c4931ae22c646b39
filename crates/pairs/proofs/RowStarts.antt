-- Looking up where a row begins: in any table of row starts, and in the stored one.
use Prim.Native.Nat.{ℕ, ◌+◌, ◌-◌, ◌*◌, ◌/◌, ◌≤◌, ◌<◌}
use mathlib.Core.Path.{◌≡◌, sym, ap, subst, ◌∙◌}
use mathlib.Core.Logic.{⊎_elim}
use mathlib.Core.List.{List}
use native.Mathlib.Omega.{arith}
use lib.ListN.{length, get_or, get_or-eq_default}
use Rattle.tables.proofs.Lists.{read_same}
use Rattle.row_starts.specs.RowStarts.{starts_of_rows}
use Rattle.row_starts.proofs.Rule.{entries, entry}
use Rattle.pairs.specs.Pairs.{triangle, start_in, pair_from, pair_at}
use Rattle.pairs.proofs.Cells.{from_greater, from_less, from_same, pair_greater, pair_less, pair_same}
use Rattle.scratch.proofs.Numbers.{lt_or_ge}
use Rattle.pairs.proofs.Triangle.{triangle_product, triangle_bound, triangle-next, triangle-one}

pub start_stored : (starts : List ℕ) (i : ℕ) → i < length starts → start_in starts i ≡ get_or starts i 0
unfolding start_in
start_stored starts i h = read_same starts i (triangle i) 0 h

pub start_beyond : (starts : List ℕ) (i : ℕ) → length starts ≤ i → start_in starts i ≡ triangle i
unfolding start_in
start_beyond starts i h = get_or-eq_default starts (triangle i) h

-- Entries of 32 bits are starts of 32 bits.
pub start_bound : (starts : List ℕ) → ((i : ℕ) → get_or starts i 0 < 4294967296) → (i : ℕ) → i ≤ 65535 → start_in starts i < 4294967296
start_bound starts known i h =
    ⊎_elim
    (λ l. subst (λ (x : ℕ). x < 4294967296) (sym (start_stored starts i l)) (known i))
    (λ l. omega (arith, start_beyond starts i l, triangle_bound i h))
    (lt_or_ge i (length starts))

-- ---- the stored table

stored_start : (i : ℕ) → i < 1024 → get_or starts_of_rows i 0 ≡ triangle i
stored_start i h = entry i h ∙ triangle_product i

-- By it each row begins where it does in the triangle,
pub start_right : (starts : List ℕ) → starts ≡ starts_of_rows → (i : ℕ) → start_in starts i ≡ triangle i
start_right starts e i =
    ⊎_elim
    (λ h. start_stored starts i h ∙ ap (λ (l : List ℕ). get_or l i 0) e ∙ stored_start i (omega (arith, ap length e, entries)))
    (λ h. start_beyond starts i h)
    (lt_or_ge i (length starts))

-- and what is read by it of two rows is read from their own cell.
pub pair_right : (starts s : List ℕ) (q p : ℕ) {x : ℕ} → starts ≡ starts_of_rows → x ≡ pair_from (start_in starts) s q p → x ≡ pair_at s q p
pair_right starts s q p e known =
    known
    ∙ ⊎_elim
    (λ l. from_greater (start_in starts) s q p l ∙ ap (λ (t : ℕ). get_or s (t + p) 0) (start_right starts e q) ∙ sym (pair_greater s q p l))
    (λ g.
    ⊎_elim
    (λ l. from_less (start_in starts) s q p l ∙ ap (λ (t : ℕ). get_or s (t + q) 0) (start_right starts e p) ∙ sym (pair_less s q p l))
    (λ k. let z : q ≡ p = omega arith in from_same (start_in starts) s q p z ∙ sym (pair_same s q p z))
    (lt_or_ge q p))
    (lt_or_ge p q)

-- "Rows i and lower j have their distance at entry i plus j;
pub pair_at_entry : (s : List ℕ) (i j : ℕ) → i < 1024 → j < i → pair_at s i j ≡ get_or s (get_or starts_of_rows i 0 + j) 0
pair_at_entry s i j h l = pair_greater s i j l ∙ ap (λ (t : ℕ). get_or s (t + j) 0) (sym (stored_start i h))

-- no two pairs share a cell,
pub no_shared_cell : (i j k l : ℕ) → i < 1024 → j < i → k < 1024 → l < k → get_or starts_of_rows i 0 + j ≡ get_or starts_of_rows k 0 + l → (i ≡ k) × (j ≡ l)
no_shared_cell i j k l hi hj hk hl e = triangle-one i j k l hj hl (omega (arith, stored_start i hi, stored_start k hk))

-- and all lie below rows × (rows − 1) / 2."
pub all-below : (rows i j : ℕ) → rows ≤ 1024 → i < rows → j < i → get_or starts_of_rows i 0 + j < rows * (rows - 1) / 2
all-below rows i j h l m =
    rw (triangle_product rows) (omega (arith, stored_start i (omega arith), triangle-next i rows l))
