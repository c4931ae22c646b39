-- The triangle of pairs: where its rows begin, and that no two pairs share a cell.
use Prim.Native.Nat.{ℕ, zero, suc, ◌+◌, ◌-◌, ◌*◌, ◌/◌, ◌≤◌, ◌<◌}
use mathlib.Core.Path.{◌≡◌, refl, ap, ◌∙◌}
use mathlib.Core.Logic.{⊎_elim}
use native.Mathlib.Nat.{mul-suc, suc-mul, eq-or-lt_of_le, le_of_eq}
use native.Mathlib.Omega.{arith}
use Rattle.row_starts.proofs.Rule.{start_next}
use Rattle.scratch.specs.Scratch.{scratch_cells}
use Rattle.scratch.proofs.Numbers.{lt_or_ge, product_bound}
use Rattle.pairs.specs.Pairs.{triangle, needed}

pub triangle_square : (i : ℕ) → i * i ≡ 2 * triangle i + i
unfolding triangle
triangle_square zero = refl
triangle_square (suc i) = rw (mul-suc (suc i) i, suc-mul i i) (omega (arith, triangle_square i))

-- As document 01 says it.
pub triangle_product : (i : ℕ) → i * (i - 1) / 2 ≡ triangle i
unfolding triangle
triangle_product zero = refl
triangle_product (suc i) = start_next i ∙ ap (λ (t : ℕ). t + i) (triangle_product i)

pub needed-value : (n : ℕ) → scratch_cells n ≡ needed n
needed-value n = ap (λ (t : ℕ). t + 4 * n) (triangle_product n)

pub triangle_bound : (i : ℕ) → i ≤ 65535 → triangle i ≤ 2147450880
triangle_bound i h = omega (arith, triangle_square i, product_bound i i h h)

pub triangle_le : (i j : ℕ) → i ≤ j → triangle i ≤ triangle j
unfolding triangle
triangle_le i zero h = let e : i ≡ 0 = omega arith in le_of_eq (ap triangle e)
triangle_le i (suc j) h = ⊎_elim (λ e. le_of_eq (ap triangle e)) (λ l. omega (arith, triangle_le i j (omega arith))) (eq-or-lt_of_le h)

-- A row ends where a later row begins, or before.
pub triangle-next : (i n : ℕ) → i < n → triangle i + i ≤ triangle n
unfolding triangle
triangle-next i n h = triangle_le (suc i) n h

-- No two pairs share a cell.
pub triangle-one : (i j k l : ℕ) → j < i → l < k → triangle i + j ≡ triangle k + l → (i ≡ k) × (j ≡ l)
triangle-one i j k l h g e =
    ⊎_elim
    (λ s. absurd (omega (arith, triangle-next i k s)))
    (λ s.
    ⊎_elim
    (λ t. absurd (omega (arith, triangle-next k i t)))
    (λ t. let m : i ≡ k = omega arith in (m, omega (arith, ap triangle m)))
    (lt_or_ge k i))
    (lt_or_ge i k)
