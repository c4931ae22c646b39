-- How the figure of all pairs and that of 12 cells a row compare.
use mathlib.Core.Path.{◌≡◌}
use mathlib.Core.Bool.{false}
use Prim.Native.Nat.{ℕ, ◌*◌, ◌≤◌, ◌<◌}
use native.Mathlib.Omega.{arith}
use native.Mathlib.Decide.{le_ind}
use borrow.Author.Tests.{le-leb}
use Rattle.automata.proofs.Tests.{not_true}
use Rattle.tables.specs.Table.{Table}
use Rattle.scratch.specs.Scratch.{few_cells, workable_in}
use Rattle.scratch.proofs.Soundness.{within_shape}
use Rattle.scratch.proofs.Works.{within_fine}
use Rattle.pairs.specs.Pairs.{triangle, needed}

-- From 17 rows on the scratch for all pairs holds 12 cells a row.
many_pairs : (n : ℕ) → 17 ≤ n → 8 * n ≤ triangle n
unfolding triangle
many_pairs n h = (le_ind (λ m. (8 * m ≤ triangle m) × (17 ≤ m)) (omega arith, omega arith) (λ m l g. (omega (arith, g.0, g.1), omega (arith, g.1))) n h).0

pub few_fit : (n : ℕ) → 17 ≤ n → few_cells n ≤ needed n
few_fit n h = omega (arith, many_pairs n h)

-- Where two figures both fit, the table alone decides.
pub same_works : (need more : ℕ → ℕ) (T : Table) (room : ℕ) → need T.rows ≤ room → more T.rows ≤ room → workable_in need T room ≡ workable_in more T room
unfolding workable_in
same_works need more T room h g = rw (le-leb (need T.rows) room h, le-leb (more T.rows) room g)

module _ (need : ℕ → ℕ) (T : Table) (room : ℕ) where
  -- Too many rows, or too little room.
  pub many_rows : 1024 < T.rows → workable_in need T room ≡ false
  many_rows h = not_true _ (λ w. absurd (omega (arith, (within_shape need T room w).rows_fit)))

  pub short_room : room < need T.rows → workable_in need T room ≡ false
  short_room h = not_true _ (λ w. absurd (omega (arith, (within_fine need T room w).1)))
