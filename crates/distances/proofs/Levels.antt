-- From one level to the next: all 0 before the first, and the cells that are left after each.
use mathlib.Core.Path.{◌≡◌, refl}
use mathlib.Core.List.{List}
use mathlib.Core.Logic.{◌⊎◌, inl, inr, ⊎_elim}
use Prim.Native.Nat.{ℕ, ◌≤◌, ◌<◌}
use native.Mathlib.Nat.{eq-or-lt_of_le}
use native.Mathlib.Omega.{arith}
use lib.ListN.{get_or}
use Rattle.automata.specs.Runs.{Events, Machine, Near}
use Rattle.pairs.specs.Pairs.{triangle, pair_at}
use Rattle.pairs.proofs.Pairs.{pair_lift}
use Rattle.distances.specs.Search.{Fits, Given, Begun, Ready, Lowered}
use Rattle.distances.proofs.Moves.{given_same}

module _ {E : Events} {M : Machine} where
  pub start : (s : List ℕ) → Given E M s → ((k : ℕ) → k < triangle M.rows → get_or s k 0 ≡ 0) → Begun E M 0 s
  start s g z =
      record {
        given = g;
        in_range = omega (arith, g.sound.start_inside);
        cells =
            record {
              closed = λ q p hq hp h. absurd (omega arith);
              none_above = λ L q p l hq hp n. omega (arith, pair_lift (λ x y. x ≡ 0) M.rows s s refl z q p hq hp);
              values = λ k l. inl (omega (arith, z k l));
            };
      }

  module _ (level : ℕ) (s t : List ℕ) (b : Ready E M level s) (low : Lowered (triangle M.rows) level s t) where
    -- a cell was below the level and is the same, or was 65,535 and is the level
    Change : ℕ → ℕ → Type 0
    Change x y = ((x < level) × (y ≡ x)) ⊎ ((x ≡ 65535) × (y ≡ level))

    cell : (k : ℕ) → k < triangle M.rows → Change (get_or s k 0) (get_or t k 0)
    unfolding Change
    cell k h =
        ⊎_elim
        (λ w. inl (omega (arith, b.above), low.kept k (omega (arith, b.in_range, b.given.few))))
        (λ w. inr (w, low.left k h w))
        (b.cells.values k h)

    pair : (q p : ℕ) → q < M.rows → p < M.rows → Change (pair_at s q p) (pair_at t q p)
    unfolding Change
    pair = pair_lift Change M.rows s t (inl (b.above, refl)) cell

    closed : (q p : ℕ) → q < M.rows → p < M.rows → pair_at t q p < level → Fits E M (pair_at t) (pair_at t q p) q p
    unfolding Change
    closed q p hq hp h =
        ⊎_elim
        (λ w.
        let f : Fits E M (pair_at s) (pair_at s q p) q p = b.cells.closed q p hq hp w.0 in
        record {
          marks = λ z. f.marks (omega arith);
          targets = λ a l.
              ⊎_elim
              (λ u. omega (arith, u.1, f.targets a l))
              (λ u. absurd (omega (arith, u.0, f.targets a l, b.in_range, b.given.few)))
              (pair (M.target q a) (M.target p a) (b.given.sound.target_inside q a hq l) (b.given.sound.target_inside p a hp l));
        })
        (λ w. absurd (omega arith))
        (pair q p hq hp)

    none_above : (L q p : ℕ) → L ≤ level → q < M.rows → p < M.rows → Near E M M L q p → pair_at t q p ≤ L
    unfolding Change
    none_above L q p l hq hp n =
        ⊎_elim
        (λ e. ⊎_elim (λ w. omega arith) (λ w. omega arith) (pair q p hq hp))
        (λ g.
        let h = b.cells.none_above L q p (omega arith) hq hp n in
        ⊎_elim (λ w. omega arith) (λ w. absurd (omega (arith, b.in_range, b.given.few))) (pair q p hq hp))
        (eq-or-lt_of_le l)

    pub lowered : Begun E M level t
    unfolding Change
    lowered =
        record {
          given = given_same b.given low.size;
          in_range = b.in_range;
          cells = record { closed = closed; none_above = none_above; values = λ k h. ⊎_elim (λ w. inl (omega arith)) (λ w. inl (omega arith)) (cell k h) };
        }
