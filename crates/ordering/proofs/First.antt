-- The first of several numbers that is not 0; and so the first of several orders that is not equal.
use mathlib.Core.Path.{◌≡◌, refl, sym, ap, ◌∙◌}
use mathlib.Core.Logic.{◌⊎◌, inl, inr}
use Prim.Native.Nat.{ℕ, zero, suc, ◌<◌}
use native.Mathlib.Omega.{arith}
use Rattle.automata.proofs.Tests.{last_or_less}
use Rattle.ordering.specs.Order.{or_else, first_told}
use Rattle.ordering.specs.Found.{number_of, order_of, nonzero, first_found}
use Rattle.ordering.specs.declared.Order.{Order}
use Rattle.ordering.specs.declared.Order.TheVariants.{First, Equal, Second}

-- ---- the first that is not 0

pub found_none : (c : ℕ) (f : ℕ → ℕ) → ((a : ℕ) → a < c → f a ≡ 0) → first_found c f ≡ 0
unfolding first_found
found_none zero f h = refl
found_none (suc c) f h = rw (found_none c f (λ a l. h a (omega arith))) (h c (omega arith))

pub found_same : (c : ℕ) (f g : ℕ → ℕ) → ((a : ℕ) → a < c → f a ≡ g a) → first_found c f ≡ first_found c g
unfolding first_found
found_same zero f g h = refl
found_same (suc c) f g h = rw (found_same c f g (λ a l. h a (omega arith)), h c (omega arith)) refl

-- One more that is not 0, or that comes behind one that is not.
pub found_some : (c : ℕ) (f : ℕ → ℕ) (a : ℕ) → a < c → ¬ (f a ≡ 0) → ¬ (first_found c f ≡ 0)
unfolding first_found
found_some zero f a h n = absurd (omega arith)
found_some (suc c) f a h n = pick (first_found c f) (last_or_less a c h) (λ l. found_some c f a l n)
  where
    pick : (x : ℕ) → (a ≡ c) ⊎ (a < c) → (a < c → ¬ (x ≡ 0)) → ¬ (nonzero x (f c) ≡ 0)
    pick (suc x) d ih e = omega arith
    pick zero (inl e) ih g = n (ap f e ∙ g)
    pick zero (inr l) ih g = ih l refl

pub found_at : (c : ℕ) (f : ℕ → ℕ) (a : ℕ) → a < c → ((b : ℕ) → b < a → f b ≡ 0) → ¬ (f a ≡ 0) → first_found c f ≡ f a
unfolding first_found
found_at zero f a h low n = absurd (omega arith)
found_at (suc c) f a h low n = pick (last_or_less a c h) (λ l. found_at c f a l low n)
  where
    on : (x y z : ℕ) → x ≡ z → ¬ (z ≡ 0) → nonzero x y ≡ z
    on zero y z e t = absurd (t (sym e))
    on (suc x) y z e t = e

    pick : (a ≡ c) ⊎ (a < c) → (a < c → first_found c f ≡ f a) → nonzero (first_found c f) (f c) ≡ f a
    pick (inl e) ih = rw (found_none c f (λ b l. low b (omega arith))) (ap f (sym e))
    pick (inr l) ih = on (first_found c f) (f c) (f a) (ih l) n

-- ---- orders as numbers

pub order-number : (x : Order) → order_of (number_of x) ≡ x
order-number First = refl
order-number Equal = refl
order-number Second = refl

pub number_small : (x : Order) → number_of x < 3
number_small First = omega arith
number_small Equal = omega arith
number_small Second = omega arith

pub equal_zero : (x : Order) → number_of x ≡ 0 → x ≡ Equal
equal_zero x e = sym (order-number x) ∙ ap order_of e

number_else : (x y : Order) → number_of (or_else x y) ≡ nonzero (number_of x) (number_of y)
number_else First y = refl
number_else Equal y = refl
number_else Second y = refl

pub number-told : (c : ℕ) (f : ℕ → Order) → number_of (first_told c f) ≡ first_found c (λ a. number_of (f a))
unfolding first_told first_found
number-told zero f = refl
number-told (suc c) f = number_else (first_told c f) (f c) ∙ ap (λ (x : ℕ). nonzero x (number_of (f c))) (number-told c f)

-- ---- the first that is not equal

pub told_none : (f : ℕ → Order) (c : ℕ) → ((b : ℕ) → b < c → f b ≡ Equal) → first_told c f ≡ Equal
told_none f c h = equal_zero (first_told c f) (number-told c f ∙ found_none c (λ a. number_of (f a)) (λ b l. ap number_of (h b l)))

pub told_at : (f : ℕ → Order) (a c : ℕ) → a < c → ((b : ℕ) → b < a → f b ≡ Equal) → ¬ (f a ≡ Equal) → first_told c f ≡ f a
told_at f a c h low tell =
    let e = number-told c f ∙ found_at c (λ b. number_of (f b)) a h (λ b l. ap number_of (low b l)) (λ z. tell (equal_zero (f a) z)) in
    sym (order-number (first_told c f)) ∙ ap order_of e ∙ order-number (f a)
