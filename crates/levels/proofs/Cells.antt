-- Levels by cells, case by case.
use mathlib.Core.Path.{◌≡◌, refl, sym}
use Prim.Native.Nat.{ℕ, suc, ◌+◌, ◌-◌, ◌<◌}
use native.Mathlib.Omega.{arith}
use borrow.Author.Tests.{eq-eqb, ne_eqb}
use Rattle.levels.specs.Cells.{need_cell, far_cell}

-- ---- the level that a row needs
pub need-endless : (k c : ℕ) → c ≡ 65535 → need_cell k c ≡ 0
need-endless k c e = rw (eq-eqb c 65535 e)

need_is : (k c : ℕ) → (c ≡ 65535 → ⊥) → need_cell k c ≡ suc k - c
need_is k c ne = rw (ne_eqb c 65535 ne)

pub need-none : (k c : ℕ) → (c ≡ 65535 → ⊥) → k < c → need_cell k c ≡ 0
need-none k c ne h = omega (arith, need_is k c ne)

pub need-some : (k c : ℕ) → (c ≡ 65535 → ⊥) → k + 1 - c ≡ need_cell k c
need-some k c ne = omega (arith, need_is k c ne)

-- ---- how far a row is
pub far_none : (x : ℕ) → x ≡ 0 → 65535 ≡ far_cell x
far_none x e = sym (rw (eq-eqb x 0 e) refl)

pub far_some : (x : ℕ) → (x ≡ 0 → ⊥) → x ≡ far_cell x
far_some x ne = sym (rw (ne_eqb x 0 ne) refl)
