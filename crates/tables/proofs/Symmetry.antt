-- Distance does not mind the order of two rows, is 0 of a row and itself, and does not look at the start.
use mathlib.Core.Path.{◌≡◌, refl, sym, ap, ◌∙◌}
use mathlib.Core.List.{List, [], ◌∷◌}
use Prim.Native.Nat.{ℕ, ◌<◌}
use native.Mathlib.Omega.{arith}
use Rattle.automata.specs.Runs.{Events, Machine, Sound, Light, after, Near, Len, len, endless, IsDistance}
use Rattle.automata.proofs.Runs.{near_refl, near_sym}
use Rattle.tables.specs.Lengths.{distance}
use Rattle.tables.proofs.Lengths.{distance_is, distance-one}

module _ {E : Events} {M : Machine} (s : Sound E M) (z : Light E) where
  turned : (q p : ℕ) (x : Len) → IsDistance E M q p x → IsDistance E M p q x
  turned q p (len L) h = (near_sym h.0, λ K n. h.1 K (near_sym n))
  turned q p endless h = λ L n. h L (near_sym n)

  pub distance_turn : (q p : ℕ) → q < M.rows → p < M.rows → distance E M q p ≡ distance E M p q
  distance_turn q p hq hp = distance-one E M p q (distance E M q p) (distance E M p q) (turned q p (distance E M q p) (distance_is s z hq hp)) (distance_is s z hp hq)

  pub distance_self : (q : ℕ) → q < M.rows → distance E M q q ≡ len 0
  distance_self q hq = distance-one E M q q (distance E M q q) (len 0) (distance_is s z hq hq) (near_refl, λ K n. omega arith)

-- Two machines that differ in their start only.
module _ {E : Events} {M N : Machine} (s : Sound E M) (t : Sound E N) (z : Light E) (rows : M.rows ≡ N.rows)
    (target : (q a : ℕ) → M.target q a ≡ N.target q a) (mark : (q : ℕ) → M.mark q ≡ N.mark q) where
  after_same : (w : List ℕ) (q : ℕ) → after M q w ≡ after N q w
  after_same [] q = refl
  after_same (a ∷ w) q = after_same w (M.target q a) ∙ ap (λ (p : ℕ). after N p w) (target q a)

  pub shows_same : (w : List ℕ) (q : ℕ) → M.mark (after M q w) ≡ N.mark (after N q w)
  shows_same w q = mark (after M q w) ∙ ap N.mark (after_same w q)

  to : {L q p : ℕ} → Near E M M L q p → Near E N N L q p
  to {q} {p} n = record { same = λ w hw l. sym (shows_same w q) ∙ n.same w hw l ∙ shows_same w p }

  from : {L q p : ℕ} → Near E N N L q p → Near E M M L q p
  from {q} {p} n = record { same = λ w hw l. shows_same w q ∙ n.same w hw l ∙ sym (shows_same w p) }

  moved : (q p : ℕ) (x : Len) → IsDistance E M q p x → IsDistance E N q p x
  moved q p (len L) h = (to h.0, λ K n. h.1 K (from n))
  moved q p endless h = λ L n. h L (from n)

  pub distance_same : (q p : ℕ) → q < M.rows → p < M.rows → distance E M q p ≡ distance E N q p
  distance_same q p hq hp =
      distance-one E N q p (distance E M q p) (distance E N q p) (moved q p (distance E M q p) (distance_is s z hq hp)) (distance_is t z (omega arith) (omega arith))
