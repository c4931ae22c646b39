-- A level while it is being settled: pairs that do not fit leave it, until those that are left all fit.
use mathlib.Core.Path.{◌≡◌, refl, sym, subst, ◌∙◌}
use mathlib.Core.Bool.{Bool, true, false, true≢false, false≢true}
use mathlib.Core.List.{List, [], ◌∷◌}
use mathlib.Core.Logic.{◌⊎◌, inr, ⊎_elim}
use Prim.Native.Nat.{ℕ, zero, suc, ◌+◌, ◌≤◌, ◌<◌}
use native.Mathlib.Nat.{eq-or-lt_of_le}
use native.Mathlib.Omega.{arith}
use borrow.Author.Tests.{eq-eqb, ne_eqb}
use lib.ListN.{length, get_or, set, drop, length-set}
use lib.Seq.{get_or-set_same, get_or-set_other, drop-set-lt}
use Rattle.automata.specs.Runs.{Events, Machine, Near}
use Rattle.automata.proofs.Runs.{near_up, near_sym}
use Rattle.pairs.specs.Pairs.{triangle, pair_at}
use Rattle.scratch.proofs.Numbers.{lt_or_ge, eq_or_ne}
use Rattle.pairs.proofs.Triangle.{triangle-next}
use Rattle.pairs.proofs.Cells.{pair_greater}
use Rattle.pairs.proofs.Pairs.{pair_sym, pair_set}
use Rattle.distances.specs.Search.{Fits, Cells, Given, Begun, Moved, Turned, QuietRows, Visited, Swept, Settled, occurrences}
use Rattle.distances.proofs.Fits.{near_fits, fits_self, fits_turn}

-- A store over a cell that was v, of something else, leaves one fewer of them.
occurrences-set : (v : ℕ) (s : List ℕ) (k x : ℕ) → k < length s → get_or s k 0 ≡ v → (x ≡ v → ⊥) → occurrences v (set s k x) < occurrences v s
unfolding occurrences
occurrences-set v [] k x h e ne = absurd (omega arith)
occurrences-set v (y ∷ s) zero x h e ne = rw (eq-eqb y v e, ne_eqb x v ne) (omega arith)
occurrences-set v (y ∷ s) (suc k) x h e ne = omega (arith, occurrences-set v s k x (omega arith) e ne)

-- Sweeps from s on have come to t.
pub record Settling (E : Events) (M : Machine) (level : ℕ) (s t : List ℕ) : Type 0 where
  pub begun : Begun E M level t
  pub size : length t ≡ length s
  pub rest : drop (triangle M.rows) t ≡ drop (triangle M.rows) s

pub given_same : {E : Events} {M : Machine} {s t : List ℕ} → Given E M s → length t ≡ length s → Given E M t
given_same g e = record { sound = g.sound; few = g.few; room = omega (arith, g.room) }

module _ {E : Events} {M : Machine} {level : ℕ} where
  unmoved : {s : List ℕ} → Begun E M level s → Moved E M level s s false
  unmoved b = record { cells = b.cells; size = refl; rest = refl; kept = λ e. refl; fewer = λ e. absurd (false≢true e) }

  pub turned_none : {P : List ℕ → Type 0} {s : List ℕ} → Begun E M level s → P s → Turned E M P level s s false
  turned_none b h = record { moved = unmoved b; quiet = λ e. h }

  -- ---- a store over the cell of a pair that does not fit
  module _ (s : List ℕ) (q p : ℕ) (b : Begun E M level s) (hq : q < M.rows) (hp : p < q) (e : get_or s (triangle q + p) 0 ≡ level)
      (bad : Fits E M (pair_at s) level q p → ⊥) where
    after : List ℕ
    after = set s (triangle q + p) 65535

    inside : triangle q + p < length s
    inside = omega (arith, triangle-next q M.rows hq, b.given.room)

    far : Near E M M level q p → ⊥
    far n = bad (near_fits level (pair_at s) b.given.sound b.cells.none_above q p hq (omega arith) n)

    here : pair_at s q p ≡ level
    here = pair_greater s q p hp ∙ e

    -- each pair is as it was, or is that one
    change : (x y : ℕ) → (pair_at after x y ≡ pair_at s x y) ⊎ ((pair_at after x y ≡ 65535) × ((pair_at s x y ≡ level) × (Near E M M level x y → ⊥)))
    unfolding after
    change x y =
        pair_set s q p 65535 (λ i j. (pair_at s i j ≡ level) × (Near E M M level i j → ⊥)) x y inside hp (here, far)
        (pair_sym s p q ∙ here, λ n. far (near_sym n))

    after-none-above : (L x y : ℕ) → L ≤ level → x < M.rows → y < M.rows → Near E M M L x y → pair_at after x y ≤ L
    after-none-above L x y l hx hy n =
        ⊎_elim
        (λ g. omega (arith, g, b.cells.none_above L x y l hx hy n))
        (λ g. absurd (g.1.1 (near_up l n)))
        (change x y)

    after-closed : (x y : ℕ) → x < M.rows → y < M.rows → pair_at after x y < level → Fits E M (pair_at after) (pair_at after x y) x y
    after-closed x y hx hy h =
        ⊎_elim
        (λ g.
        let f : Fits E M (pair_at s) (pair_at s x y) x y = b.cells.closed x y hx hy (omega arith) in
        record {
          marks = λ z. f.marks (omega arith);
          targets = λ a l.
              ⊎_elim
              (λ k. omega (arith, k, f.targets a l))
              (λ k. absurd (omega (arith, k.1.0, f.targets a l)))
              (change (M.target x a) (M.target y a));
        })
        (λ g. absurd (omega (arith, g.0, b.in_range, b.given.few)))
        (change x y)

    after-values : (k : ℕ) → k < triangle M.rows → (get_or after k 0 ≤ level) ⊎ (get_or after k 0 ≡ 65535)
    unfolding after
    after-values k l =
        ⊎_elim
        (λ z. inr (rw z (get_or-set_same s (triangle q + p) 65535 0 inside)))
        (λ z. rw (get_or-set_other s (triangle q + p) k 65535 0 z) (b.cells.values k l))
        (eq_or_ne k (triangle q + p))

    pub raised : Visited E M level q p s (set s (triangle q + p) 65535) true
    unfolding after
    raised =
        record {
          moved =
              record {
                cells = record { closed = after-closed; none_above = after-none-above; values = after-values };
                size = length-set s (triangle q + p) 65535;
                rest = drop-set-lt (triangle M.rows) s (triangle q + p) 65535 (omega (arith, triangle-next q M.rows hq));
                kept = λ z. absurd (true≢false z);
                fewer = λ z. occurrences-set level s (triangle q + p) 65535 inside e (omega (arith, b.in_range, b.given.few));
              };
          quiet = λ z. absurd (true≢false z);
        }

  -- ---- sweeps until nothing changes
  -- A sweep that changed nothing settles the level.
  settled : {s : List ℕ} → Cells E M level level s → QuietRows E M level M.rows s → Cells E M (suc level) level s
  settled {s} v quiet =
      record {
        closed = λ q p hq hp h. ⊎_elim (λ e. subst (λ (L : ℕ). Fits E M (pair_at s) L q p) (sym e) (at_level q p hq hp e)) (λ l. v.closed q p hq hp l) (eq-or-lt_of_le (omega arith));
        none_above = v.none_above;
        values = v.values;
      }
    where
      at_level : (q p : ℕ) → q < M.rows → p < M.rows → pair_at s q p ≡ level → Fits E M (pair_at s) level q p
      at_level q p hq hp e =
          ⊎_elim
          (λ l. quiet q hq p l e)
          (λ g.
          ⊎_elim
          (λ l. fits_turn s level q p (quiet p hp q l (pair_sym s p q ∙ e)))
          (λ k. fits_self s level q p (omega arith))
          (lt_or_ge q p))
          (lt_or_ge p q)

  pub settling_end : {s t u : List ℕ} {r : Bool} → Settling E M level s t → Swept E M level t u r → r ≡ false → Settled E M level s u
  settling_end g n e =
      record {
        cells = settled n.moved.cells (subst (QuietRows E M level M.rows) (sym (n.moved.kept e)) (n.quiet e));
        size = n.moved.size ∙ g.size;
        rest = n.moved.rest ∙ g.rest;
      }
