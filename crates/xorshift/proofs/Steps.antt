-- No two states step to the same state, and none but 0 steps to 0.
use mathlib.Core.Path.{◌≡◌, refl, sym, ap, ◌∙◌}
use mathlib.Core.Logic.{◌≢◌}
use Prim.Native.Nat.{ℕ, zero, suc, ◌/◌, ◌^◌, ◌<◌}
use native.Mathlib.Nat.{lt_of_le_of_lt}
use native.Mathlib.Omega.{arith}
use lib.Bits.{xor_lt}
use lib.Pow.{pow_pos, shr_le}
use Rattle.xorshift.specs.Xorshift.{xor_left, xor_right, step, state}
use Rattle.xorshift.specs.Back.{left_back, right_back, step_back}
use Rattle.xorshift.proofs.Xor.{right_undone, left_undone, left-small}

right_small : (w k x : ℕ) → x < 2 ^ w → xor_right k x < 2 ^ w
right_small w k x h = xor_lt w x (x / 2 ^ k) h (lt_of_le_of_lt (shr_le x k) h)

pub step_small : (x : ℕ) → x < 2 ^ 32 → step x < 2 ^ 32
unfolding step
step_small x h = left-small 32 5 _ (right_small 32 17 _ (left-small 32 13 x h))

pub back_step : (x : ℕ) → x < 2 ^ 32 → step_back (step x) ≡ x
unfolding step step_back
back_step x h =
    let a : ℕ = xor_left 32 13 x in
    let b : ℕ = xor_right 17 a in
    let ha : a < 2 ^ 32 = left-small 32 13 x h in
    let hb : b < 2 ^ 32 = right_small 32 17 a ha in
    ap (λ (y : ℕ). left_back 32 13 3 (right_back 17 2 y)) (left_undone 32 5 b 6 hb (omega arith))
    ∙ ap (left_back 32 13 3) (right_undone 17 a 32 2 ha (omega arith)) ∙ left_undone 32 13 x 2 h (omega arith)

-- No two states step to the same state.
pub step_injective : (x y : ℕ) → x < 2 ^ 32 → y < 2 ^ 32 → step x ≡ step y → x ≡ y
step_injective x y hx hy e = sym (back_step x hx) ∙ ap step_back e ∙ back_step y hy

step-zero : step 0 ≡ 0
unfolding step
step-zero = refl

pub step-some : (x : ℕ) → x < 2 ^ 32 → x ≢ 0 → step x ≢ 0
step-some x h some e = some (step_injective x 0 h (pow_pos 32) (e ∙ sym step-zero))

-- Every state drawn from a nonzero seed of 32 bits is such a number again.
pub state-some : (seed : ℕ) → seed < 2 ^ 32 → seed ≢ 0 → (i : ℕ) → (state seed i < 2 ^ 32) × (state seed i ≢ 0)
unfolding state
state-some seed h some zero = (h, some)
state-some seed h some (suc i) =
    let s = state-some seed h some i in
    (step_small (state seed i) s.0, step-some (state seed i) s.0 s.1)
