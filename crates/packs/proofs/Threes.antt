-- A list with three entries a table, gone through from a place on.
use mathlib.Core.Path.{◌≡◌, refl, ap, ◌∙◌}
use mathlib.Core.List.{List, [], ◌∷◌}
use Prim.Native.Nat.{ℕ, suc, ◌+◌, ◌*◌, ◌≤◌, ◌<◌}
use native.Mathlib.Nat.{mul-suc}
use native.Mathlib.Omega.{arith}
use lib.ListN.{length, get_or, take, drop, length-drop}
use lib.Seq.{drop-cons}
use Rattle.tables.specs.Table.{Table, mark_byte_count}
use Rattle.rules.specs.Rules.{table_of}
use Rattle.packs.specs.Pack.{tables_in, total}

-- The table at a place of the list, in the cells and mark bytes from here on.
abbrev pub table_at : List ℕ → ℕ → List ℕ → List ℕ → Table
table_at list at cells marks =
    let rows = get_or list at 0 in
    let events = get_or list (at + 1) 0 in
    table_of rows events (get_or list (at + 2) 0) (take (rows * events) cells) (take (mark_byte_count rows) marks)

module _ (list : List ℕ) (at : ℕ) where
  three : at + 3 ≤ length list → drop at list ≡ get_or list at 0 ∷ get_or list (at + 1) 0 ∷ get_or list (at + 2) 0 ∷ drop (at + 3) list
  three h =
      let one : at + 1 ≡ suc at = omega arith in
      let two : at + 2 ≡ suc (suc at) = omega arith in
      let next : at + 3 ≡ suc (suc (suc at)) = omega arith in
      rw (one, two, next) (drop-cons list at 0 (omega arith) ∙ ap (λ (l : List ℕ). get_or list at 0 ∷ l) (drop-cons list (suc at) 0 (omega arith)
      ∙ ap (λ (l : List ℕ). get_or list (suc at) 0 ∷ l) (drop-cons list (suc (suc at)) 0 (omega arith))))

  -- One table more.
  pub total-next : (f : ℕ → ℕ → ℕ) → at + 3 ≤ length list → total f (drop at list) ≡ f (get_or list at 0) (get_or list (at + 1) 0) + total f (drop (at + 3) list)
  unfolding total
  total-next f h = ap (total f) (three h)

  pub tables-next : (cells marks : List ℕ) → at + 3 ≤ length list
      → tables_in (drop at list) cells marks
      ≡ table_at list at cells marks ∷ tables_in (drop (at + 3) list) (drop (get_or list at 0 * get_or list (at + 1) 0) cells) (drop (mark_byte_count (get_or list at 0)) marks)
  unfolding tables_in
  tables-next cells marks h = ap (λ (l : List ℕ). tables_in l cells marks) (three h)

-- No table more: fewer than three entries are left.
none-total : (f : ℕ → ℕ → ℕ) (l : List ℕ) → length l < 3 → total f l ≡ 0
unfolding total
none-total f [] h = refl
none-total f (x ∷ []) h = refl
none-total f (x ∷ y ∷ []) h = refl
none-total f (x ∷ y ∷ z ∷ l) h = absurd (omega arith)

none-tables : (l cells marks : List ℕ) → length l < 3 → tables_in l cells marks ≡ []
unfolding tables_in
none-tables [] cells marks h = refl
none-tables (x ∷ []) cells marks h = refl
none-tables (x ∷ y ∷ []) cells marks h = refl
none-tables (x ∷ y ∷ z ∷ l) cells marks h = absurd (omega arith)

module _ (list : List ℕ) (at : ℕ) (h : length list < at + 3) (begun : at ≤ length list) where
  short : length (drop at list) < 3
  short = omega (arith, length-drop at list)

  pub total-none : (f : ℕ → ℕ → ℕ) → total f (drop at list) ≡ 0
  total-none f = none-total f (drop at list) short

  pub tables-none : (cells marks : List ℕ) → tables_in (drop at list) cells marks ≡ []
  tables-none cells marks = none-tables (drop at list) cells marks short

-- A sum of numbers that are at most m each.
pub total_most : (f : ℕ → ℕ → ℕ) (m : ℕ) → ((rows events : ℕ) → rows ≤ 65535 → events ≤ 65535 → f rows events ≤ m)
    → (l : List ℕ) → ((i : ℕ) → get_or l i 0 ≤ 65535) → total f l ≤ m * length l
unfolding total
total_most f m each (x ∷ y ∷ z ∷ l) low =
    omega (arith, each x y (low 0) (low 1), total_most f m each l (λ i. low (suc (suc (suc i)))), mul-suc m (suc (suc (length l))), mul-suc m (suc (length l)), mul-suc m (length l))
total_most f m each [] low = omega arith
total_most f m each (x ∷ []) low = omega arith
total_most f m each (x ∷ y ∷ []) low = omega arith
