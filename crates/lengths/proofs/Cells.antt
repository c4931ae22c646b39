-- Lengths in cells.
use mathlib.Core.Path.{◌≡◌}
use Prim.Native.Nat.{ℕ, ◌≤◌}
use native.Mathlib.Omega.{arith}
use borrow.Author.Tests.{eq-eqb, ne_eqb}
use Rattle.automata.specs.Runs.{Len, len, endless}
use Rattle.tables.proofs.Lengths.{Below}
use Rattle.scratch.specs.Scratch.{len_cell}
use Rattle.lengths.specs.Lengths.{len_of}

pub cell-endless : (x : ℕ) → x ≡ 65535 → len_of x ≡ endless
cell-endless x e = rw (eq-eqb x 65535 e)

pub cell-finite : (x : ℕ) → (x ≡ 65535 → ⊥) → len_of x ≡ len x
cell-finite x h = rw (ne_eqb x 65535 h)

-- A length of less than 65,535 is read back from its cell.
pub len-of-cell : (n : ℕ) → n ≤ 65535 → (x : Len) → Below n x → len_of (len_cell x) ≡ x
len-of-cell n h (len L) b = cell-finite L (λ e. omega arith)
len-of-cell n h endless b = cell-endless 65535 (omega arith)
