-- The events of a pair, followed one by one.
use mathlib.Core.Path.{◌≡◌, sym, ap, ap₂, subst, subst₂, ◌∙◌}
use mathlib.Core.List.{List}
use Prim.Native.Nat.{ℕ, suc, ◌+◌, ◌*◌, ◌/◌, ◌%◌, ◌<◌}
use native.Mathlib.Omega.{arith}
use native.Mathlib.Numerals.{add-one}
use lib.Arith.{digits_div, digits_mod}
use lib.ListN.{get_or, set}
use Rattle.automata.specs.Runs.{Events, Machine}
use Rattle.ordering.specs.Order.{by_marks}
use Rattle.ordering.specs.Found.{number_of, pairs_of}
use Rattle.ordering.proofs.Pairs.{other_in, pairs_inside}
use Rattle.order.specs.Cells.{met_with, raised, tells}
use Rattle.order.specs.Search.{Given, Spreading, Going}
use Rattle.order.proofs.Spreads.{spread-event}

-- Where event a leads from pair k: to rows x and y, as the code reads them.
module _ (E : Events) (M N : Machine) (k a : ℕ) {q p x y : ℕ} (hq : q ≡ k / N.rows) (hp : p ≡ k % N.rows) (hx : x ≡ M.target q a) (hy : y ≡ N.target p a) where
  step-to : (pairs_of E M N).step k a ≡ x * N.rows + y
  step-to = ap₂ (λ (i j : ℕ). i * N.rows + j) (ap (λ (i : ℕ). M.target i a) (sym hq) ∙ sym hx) (ap (λ (j : ℕ). N.target j a) (sym hp) ∙ sym hy)

  -- What is told there, as the code reads it.
  pub tells-step : (s : List ℕ) (level : ℕ) {at c r : ℕ} → at ≡ x * N.rows + y → c ≡ get_or s at 0 → r ≡ tells (level + 1) c → r ≡ tells (suc level) (get_or s ((pairs_of E M N).step k a) 0)
  tells-step s level hat hc hr = hr ∙ ap₂ tells (add-one level) (hc ∙ ap (λ (i : ℕ). get_or s i 0) (hat ∙ sym step-to))

module _ {E : Events} {M N : Machine} {t : List ℕ} (g : Given E M N t) {level k most : ℕ} (hk : k < M.rows * N.rows) where
  pub going_event : {i q p x y found r : ℕ} {u v : List ℕ} → i < E.count → q ≡ k / N.rows → p ≡ k % N.rows → x ≡ M.target q i → y ≡ N.target p i → Going (pairs_of E M N) level k t most i u found
      → (let at = x * N.rows + y in let m = number_of (by_marks (M.mark x) (N.mark y)) in (r ≡ raised found m (get_or u at 0)) × (v ≡ set u at (met_with m (suc level) (get_or u at 0)))) → Going (pairs_of E M N) level k t most (i + 1) v r
  going_event {i} {q} {p} {x} {y} {found} {r} {u} {v} hi hq hp hx hy go did s pos e w =
      subst (λ (n : ℕ). Spreading (pairs_of E M N) level k n s v r) (sym (add-one i))
      (subst₂ (λ (z : List ℕ) (n : ℕ). Spreading (pairs_of E M N) level k (suc i) s z n) (sym did.1) (sym did.0)
      (spread-event (pairs_inside g.first g.second) (omega (arith, g.room, w.framed.size)) pos (go s pos e w) hk hi e (step-to E M N k i hq hp hx hy) marked))
    where
      y-in : y < N.rows
      y-in = omega (arith, hy, ap (λ (j : ℕ). N.target j i) hp, g.second.target_inside (k % N.rows) i (other_in g.first g.second k) hi)

      marked : (pairs_of E M N).mark (x * N.rows + y) ≡ number_of (by_marks (M.mark x) (N.mark y))
      marked = ap₂ (λ (b c : ℕ). number_of (by_marks (M.mark b) (N.mark c))) (digits_div x y-in) (digits_mod x y-in)
