-- What is drawn, as the code draws it.
use mathlib.Core.Path.{◌≡◌, ap, ◌∙◌}
use mathlib.Core.Bool.{cond}
use Prim.Native.Nat.{ℕ, ◌-◌, ◌*◌, ◌/◌, ◌%◌, ◌≤◌, ◌<◌}
use native.Mathlib.Nat.{mod-lt, div-lt_iff_lt-mul, mul-le-mul}
use native.Mathlib.Omega.{arith}
use native.Mathlib.Decide.{dec_lt}
use borrow.Author.Tests.{lt-ltb, le-ltb}
use lib.Dec.{ltb}
use Rattle.xorshift.specs.Xorshift.{step, state, draw}
use Rattle.tables.specs.Lists.{tabulate}
use Rattle.tables.proofs.Lists.{tabulate-same}
use Rattle.load.specs.Load.{target_by, load_cell}

-- ---- targets

pub row_in : (rows events c : ℕ) → 1 ≤ events → c < rows * events → c / events < rows
row_in rows events c some h = (div-lt_iff_lt-mul some).1 h

pub count_small : (rows events : ℕ) → rows ≤ 1024 → events ≤ 32 → rows * events ≤ 32768
count_small rows events hr he = mul-le-mul hr he

pub cell_is : (seed rows events c : ℕ) {st d x : ℕ} → st ≡ state seed c → d ≡ step st → x ≡ target_by rows (c / events) d → x ≡ load_cell seed rows events c
cell_is seed rows events c hs hd hx = hx ∙ ap (target_by rows (c / events)) (hd ∙ ap step hs)

pub target_inside : (rows r d : ℕ) → r < rows → target_by rows r d < rows
target_inside rows r d h = elim (dec_lt r (rows / 4)) [
  | yes g ↦ rw (lt-ltb r (rows / 4) g) (omega (arith, mod-lt d {m = rows - r - 1} (omega arith)))
  | no g ↦ rw (le-ltb r (rows / 4) (omega arith)) (mod-lt d (omega arith))
]

-- ---- marks

-- The mark of row i; none beyond the rows.
abbrev pub mark_at : ℕ → ℕ → ℕ → ℕ
mark_at seed rows i = cond (ltb i rows) (draw seed i % 2) 0

pub mark_small : (seed rows i : ℕ) → mark_at seed rows i ≤ 1
mark_small seed rows i = elim (dec_lt i rows) [
  | yes h ↦ rw (lt-ltb i rows h) (omega arith)
  | no h ↦ rw (le-ltb i rows (omega arith)) (omega arith)
]

pub mark_none : (seed rows i : ℕ) → rows ≤ i → mark_at seed rows i ≡ 0
mark_none seed rows i h = rw (le-ltb i rows h)

pub mark_is : (seed rows i : ℕ) {st d x : ℕ} → st ≡ state seed i → d ≡ step st → x ≡ cond (ltb i rows) (d % 2) 0 → x ≡ mark_at seed rows i
mark_is seed rows i hs hd hx = hx ∙ ap (λ (y : ℕ). cond (ltb i rows) (y % 2) 0) (hd ∙ ap step hs)

pub marks_same : (seed rows : ℕ) → tabulate rows (mark_at seed rows) ≡ tabulate rows (λ i. draw seed i % 2)
marks_same seed rows = tabulate-same rows _ _ (λ i h. rw (lt-ltb i rows h))
