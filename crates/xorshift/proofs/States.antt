-- States, one after another.
use mathlib.Core.Path.{◌≡◌, refl, sym, ap, ◌∙◌}
use Prim.Native.Nat.{ℕ, zero, suc, ◌+◌}
use native.Mathlib.Nat.{add-suc, add-zero}
use native.Mathlib.Numerals.{add-one}
use Rattle.xorshift.specs.Xorshift.{step, state}

pub state-first : (seed : ℕ) → seed ≡ state seed 0
unfolding state
state-first seed = refl

pub state-next : (seed i x y : ℕ) → x ≡ state seed i → y ≡ step x → y ≡ state seed (i + 1)
unfolding state
state-next seed i x y hx hy = hy ∙ ap step hx ∙ ap (state seed) (sym (add-one i))

pub state-add : (seed n i : ℕ) → state (state seed n) i ≡ state seed (n + i)
unfolding state
state-add seed n zero = ap (state seed) (sym (add-zero n))
state-add seed n (suc i) = ap step (state-add seed n i) ∙ ap (state seed) (sym (add-suc n i))
