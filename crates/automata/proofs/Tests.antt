-- Laws of the tests that the definitions compute with.
use mathlib.Core.Path.{◌≡◌, refl, sym, ◌∙◌, subst}
use mathlib.Core.Bool.{Bool, true, false, not, ◌&&◌, ◌||◌, true≢false, false≢true}
use mathlib.Core.Logic.{◌⊎◌, inl, inr}
use Prim.Native.Nat.{ℕ, zero, suc, ◌<◌}
use native.Mathlib.Omega.{arith}
use native.Mathlib.Decide.{ℕ_discrete}
use Rattle.automata.specs.Nearness.{every}

pub either : (b : Bool) → (b ≡ true) ⊎ (b ≡ false)
either true = inl refl
either false = inr refl

pub clash : {A : Type 0} {b : Bool} → b ≡ true → b ≡ false → A
clash t f = absurd (true≢false (sym t ∙ f))

pub not_true : (b : Bool) → (b ≡ true → ⊥) → b ≡ false
not_true true h = absurd (h refl)
not_true false h = refl

pub flip_true : (b : Bool) → not b ≡ true → b ≡ false
flip_true true e = sym e
flip_true false e = refl

pub and_left : (a b : Bool) → (a && b) ≡ true → a ≡ true
and_left true b e = refl
and_left false b e = e

pub and_right : (a b : Bool) → (a && b) ≡ true → b ≡ true
and_right true b e = e
and_right false b e = absurd (false≢true e)

pub and_make : (a b : Bool) → a ≡ true → b ≡ true → (a && b) ≡ true
and_make true b ha hb = hb
and_make false b ha hb = ha

pub and_cases : (a b : Bool) → (a && b) ≡ false → (a ≡ false) ⊎ (b ≡ false)
and_cases true b e = inr e
and_cases false b e = inl refl

pub or_cases : (a b : Bool) → (a || b) ≡ true → (a ≡ true) ⊎ (b ≡ true)
or_cases true b e = inl refl
or_cases false b e = inr e

pub or_left : (a b : Bool) → a ≡ true → (a || b) ≡ true
or_left true b e = refl
or_left false b e = absurd (false≢true e)

pub or_right : (a b : Bool) → b ≡ true → (a || b) ≡ true
or_right true b e = refl
or_right false b e = e

-- What `if b then x else true` tells, and what `if b then true else x` does.
pub if_true : (b x : Bool) → (elim b [ true ↦ x | false ↦ true ]) ≡ true → b ≡ true → x ≡ true
if_true true x e h = e
if_true false x e h = absurd (false≢true h)

pub if_false : (b x : Bool) → (elim b [ true ↦ x | false ↦ true ]) ≡ false → (b ≡ true) × (x ≡ false)
if_false true x e = (refl, e)
if_false false x e = absurd (true≢false e)

pub unless_true : (b x : Bool) → (elim b [ true ↦ true | false ↦ x ]) ≡ true → b ≡ false → x ≡ true
unless_true true x e h = absurd (true≢false h)
unless_true false x e h = e

pub unless_false : (b x : Bool) → (elim b [ true ↦ true | false ↦ x ]) ≡ false → (b ≡ false) × (x ≡ false)
unless_false true x e = absurd (true≢false e)
unless_false false x e = (refl, e)

-- q is one of the numbers below c, or c itself
pub last_or_less : (q c : ℕ) → q < suc c → (q ≡ c) ⊎ (q < c)
last_or_less q c h = pick (ℕ_discrete q c)
  where
    pick : Dec (q ≡ c) → (q ≡ c) ⊎ (q < c)
    pick (yes e) = inl e
    pick (no ne) = inr (omega arith)

pub every-at : (n : ℕ) (f : ℕ → Bool) → every n f ≡ true → (i : ℕ) → i < n → f i ≡ true
unfolding every
every-at zero f e i h = absurd (omega arith)
every-at (suc n) f e i h = pick (last_or_less i n h) (every-at n f (and_right (f n) (every n f) e))
  where
    pick : (i ≡ n) ⊎ (i < n) → ((i : ℕ) → i < n → f i ≡ true) → f i ≡ true
    pick (inl g) ih = subst (λ (j : ℕ). f j ≡ true) (sym g) (and_left (f n) (every n f) e)
    pick (inr g) ih = ih i g

pub every_make : (n : ℕ) (f : ℕ → Bool) → ((i : ℕ) → i < n → f i ≡ true) → every n f ≡ true
unfolding every
every_make zero f h = refl
every_make (suc n) f h = and_make (f n) (every n f) (h n (omega arith)) (every_make n f (λ i g. h i (omega arith)))

pub every_fails : (n : ℕ) (f : ℕ → Bool) → every n f ≡ false → (i : ℕ) × (i < n) × (f i ≡ false)
unfolding every
every_fails zero f e = absurd (true≢false e)
every_fails (suc n) f e = pick (and_cases (f n) (every n f) e) (every_fails n f)
  where
    pick : (f n ≡ false) ⊎ (every n f ≡ false) → (every n f ≡ false → (i : ℕ) × (i < n) × (f i ≡ false)) → (i : ℕ) × (i < suc n) × (f i ≡ false)
    pick (inl g) ih = (n, omega arith, g)
    pick (inr g) ih = let x = ih g in (x.0, omega (arith, x.1), x.2)
