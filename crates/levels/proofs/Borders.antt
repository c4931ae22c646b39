-- The first rows of the order that need no more than a level: no event leads out of them, and a counted one leads to those of the level before.
use mathlib.Core.Path.{◌≡◌, sym, subst}
use mathlib.Core.Bool.{true}
use Prim.Native.Nat.{ℕ, suc, ◌-◌, ◌≤◌, ◌<◌}
use native.Mathlib.Omega.{arith}
use native.Mathlib.Decide.{dec_lt}
use lib.ListN.{length}
use Rattle.automata.specs.Runs.{Events, Machine, Sound, Light}
use Rattle.tables.specs.Lengths.{reached}
use Rattle.tables.specs.Reduction.{order}
use Rattle.levels.specs.Levels.{row_at, need_at}
use Rattle.levels.specs.Sweep.{Placed, Border}
use Rattle.levels.proofs.Closure.{Closed}
use Rattle.levels.proofs.Need.{target_reached, target_need}
use Rattle.levels.proofs.Order.{at_row, at-reached, place_of, need_rises}

module _ (E : Events) (M : Machine) (k : ℕ) where
  -- A border is found by looking at the rows on both sides of it, since the need rises.
  pub border : (L i : ℕ) → i ≤ length (order E M)
      → (0 < i → need_at E M k (row_at E M (i - 1)) ≤ L) → (i < length (order E M) → L < need_at E M k (row_at E M i)) → Border E M k L i
  border L i fit left right = record {
    within = fit;
    low = λ j h. omega (arith, left (omega arith), need_rises E M k j (i - 1) (omega arith) (omega arith));
    high = λ j h g. omega (arith, right (omega arith), need_rises E M k i j h g);
  }

  -- Where no row needs a level between, one border serves both levels.
  pub border_jump : (L K i : ℕ) → L ≤ K → Border E M k L i → (i < length (order E M) → K < need_at E M k (row_at E M i)) → Border E M k K i
  border_jump L K i h b g = border K i b.within (λ p. omega (arith, b.low (i - 1) (omega arith))) g

  -- Between the borders of neighbouring levels all rows need the upper one.
  pub border_needs : (L u e : ℕ) → Border E M k L u → Border E M k (suc L) e → (j : ℕ) → u ≤ j → j < e → need_at E M k (row_at E M j) ≡ suc L
  border_needs L u e b f j h g = omega (arith, f.within, f.low j g, b.high j h (omega (arith, f.within)))

module _ {E : Events} {M : Machine} (s : Sound E M) (z : Light E) (k L i : ℕ) (b : Border E M k L i) where
  -- A reached row that needs no more than L is one of the first i.
  placed_low : (q : ℕ) → q < M.rows → reached E M q ≡ true → need_at E M k q ≤ L → Placed E M i q
  placed_low q h u n =
      let p = place_of E M q h u in
      elim (dec_lt p.0 i) [
        | yes g ↦ (p.0, g, p.2)
        | no g ↦ absurd (omega (arith, b.high p.0 (omega arith) p.1, subst (λ (x : ℕ). need_at E M k x ≤ L) (sym p.2) n))
      ]

  -- So is the target of one of the first e, where those need so little more that the event's weight makes up for it.
  placed_target : (K e : ℕ) → Border E M k K e → (q a : ℕ) → Placed E M e q → a < E.count → K - E.weight a ≤ L → Placed E M i (M.target q a)
  placed_target K e f q a p ha h =
      let fit = f.within in
      let t = subst (λ (x : ℕ). (x < M.rows) × (reached E M x ≡ true) × (need_at E M k x ≤ K)) p.2
      (at_row E M p.0 (omega (arith, p.1)), at-reached E M p.0 (omega (arith, p.1)), f.low p.0 p.1) in
      placed_low (M.target q a) (s.target_inside q a t.0 ha) (target_reached s z q a t.0 t.1 ha) (omega (arith, target_need s z q a t.0 t.1 ha k, t.2))

  pub placed_closed : Closed E M (Placed E M i)
  placed_closed = record { leads = λ q a p ha. placed_target L i b q a p ha (omega arith) }

  pub placed_into : (e : ℕ) → Border E M k (suc L) e → (q a : ℕ) → Placed E M e q → a < E.count → E.weight a ≡ 1 → Placed E M i (M.target q a)
  placed_into e f q a p ha c = placed_target (suc L) e f q a p ha (omega arith)
