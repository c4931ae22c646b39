-- The order of runs: of two runs one comes before the other or they are one, and the order is passed on.
use mathlib.Core.Path.{◌≡◌, sym, ◌∙◌}
use mathlib.Core.List.{List, [], ◌∷◌}
use mathlib.Core.Logic.{◌⊎◌, inl, inr}
use Prim.Native.Nat.{ℕ}
use native.Mathlib.Omega.{arith}
use lib.ListN.{length}
use Rattle.chosen.specs.Choice.{Lower}
use Rattle.chosen.proofs.Orders.{compare, lower_cases}
use Rattle.ordering.specs.Order.{Sooner}

pub sooner_cases : (v w : List ℕ) → Sooner v w ⊎ ((v ≡ w) ⊎ Sooner w v)
sooner_cases v w = elim (compare (length v) (length w)) [
  | inl h ↦ inl (inl h)
  | inr r ↦ elim r [
    | inl e ↦ elim (lower_cases v w e) [
      | inl h ↦ inl (inr (e, h))
      | inr t ↦ elim t [ inl g ↦ inr (inl g) | inr h ↦ inr (inr (inr (sym e, h))) ]
    ]
    | inr h ↦ inr (inr (inl h))
  ]
]

lower_trans : (u v w : List ℕ) → Lower u v → Lower v w → Lower u w
lower_trans [] [] w h k = absurd h
lower_trans [] (b ∷ v) w h k = absurd h
lower_trans (a ∷ u) [] w h k = absurd h
lower_trans (a ∷ u) (b ∷ v) [] h k = absurd k
lower_trans (a ∷ u) (b ∷ v) (c ∷ w) h k = pick h k (lower_trans u v w)
  where
    pick : Lower (a ∷ u) (b ∷ v) → Lower (b ∷ v) (c ∷ w) → (Lower u v → Lower v w → Lower u w) → Lower (a ∷ u) (c ∷ w)
    pick (inl x) (inl y) ih = inl (omega arith)
    pick (inl x) (inr y) ih = inl (omega (arith, y.0))
    pick (inr x) (inl y) ih = inl (omega (arith, x.0))
    pick (inr x) (inr y) ih = inr (x.0 ∙ y.0, ih x.1 y.1)

pub sooner_trans : (u v w : List ℕ) → Sooner u v → Sooner v w → Sooner u w
sooner_trans u v w (inl h) (inl k) = inl (omega arith)
sooner_trans u v w (inl h) (inr k) = inl (omega (arith, k.0))
sooner_trans u v w (inr h) (inl k) = inl (omega (arith, h.0))
sooner_trans u v w (inr h) (inr k) = inr (h.0 ∙ k.0, lower_trans u v w h.1 k.1)
