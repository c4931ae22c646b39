-- Cells that are cleared.
use Prim.Native.Nat.{ℕ, zero, suc, ◌+◌, ◌-◌, ◌≤◌, ◌<◌}
use mathlib.Core.Path.{◌≡◌, refl, sym, ap, subst, ◌∙◌}
use mathlib.Core.List.{List, [], ◌∷◌, ◌++◌}
use native.Mathlib.Nat.{zero-add}
use native.Mathlib.Omega.{arith}
use native.Mathlib.Decide.{dec_lt}
use borrow.Author.Tests.{lt-ltb, le-ltb}
use lib.ListN.{length, get_or, take, drop, set, replicate, length-replicate, get_or-replicate}
use lib.Seq.{ext_get_or}
use Rattle.tables.specs.Lists.{over}
use Rattle.tables.proofs.Over.{over-length, over-set, over-over, over-before, over_inside, over-behind, take-before-over, drop-over}
use Rattle.scratch.specs.Scratch.{cleared}

pub clear_short : (s : List ℕ) (from to : ℕ) → length s < to → cleared s from to ≡ s
unfolding cleared
clear_short s from to h = rw (lt-ltb (length s) to h)

-- One zero more at the end.
zeros_snoc : (n : ℕ) → ◌++◌ {A = ℕ} (replicate n 0) (0 ∷ []) ≡ replicate (suc n) 0
zeros_snoc zero = refl
zeros_snoc (suc n) = ap (λ (l : List ℕ). 0 ∷ l) (zeros_snoc n)

pub clear_next : (s : List ℕ) (from : ℕ) (t : List ℕ) (i : ℕ) → t ≡ over s from (replicate (i - from) 0) → from ≤ i → i < length s
    → set t i 0 ≡ over s from (replicate (i + 1 - from) 0)
clear_next s from t i e h room =
    let z : List ℕ = replicate (i - from) 0 in
    let n : length z ≡ i - from = length-replicate (i - from) 0 in
    let at : i ≡ from + length z = omega arith in
    let more : suc (i - from) ≡ i + 1 - from = omega arith in
    let fits : from + length z ≤ length s = omega arith in
    ap (λ (u : List ℕ). set u i 0) e
    ∙ over-set (over s from z) i 0 (omega (arith, over-length s from z fits))
    ∙ ap (λ (k : ℕ). over (over s from z) k (0 ∷ [])) at
    ∙ over-over s from z fits (0 ∷ [])
    ∙ ap (over s from) (zeros_snoc (i - from) ∙ ap (λ (k : ℕ). replicate k 0) more)

pub clear_all : (s : List ℕ) (from to i : ℕ) (t : List ℕ) → t ≡ over s from (replicate (i - from) 0) → i - from ≡ to - from → to ≤ length s
    → t ≡ cleared s from to
unfolding cleared
clear_all s from to i t e h room = rw (le-ltb (length s) to room) (e ∙ ap (λ (k : ℕ). over s from (replicate k 0)) h)

-- What stands in, before and behind cells that are cleared.
module _ (s : List ℕ) (from to : ℕ) (le : from ≤ to) (room : to ≤ length s) where
  abbrev zeros : List ℕ
  zeros = replicate (to - from) 0

  fits : from + length zeros ≤ length s
  fits = omega (arith, length-replicate {A = ℕ} (to - from) 0)

  pub cleared-over : cleared s from to ≡ over s from (replicate (to - from) 0)
  unfolding cleared
  cleared-over = rw (le-ltb (length s) to room)

  pub cleared-length : length (cleared s from to) ≡ length s
  cleared-length = ap length cleared-over ∙ over-length s from zeros fits

  pub cleared-before : (k : ℕ) → k < from → get_or (cleared s from to) k 0 ≡ get_or s k 0
  cleared-before k h = ap (λ (x : List ℕ). get_or x k 0) cleared-over ∙ over-before s from zeros fits k 0 h

  pub cleared-behind : (k : ℕ) → to ≤ k → get_or (cleared s from to) k 0 ≡ get_or s k 0
  cleared-behind k h = ap (λ (x : List ℕ). get_or x k 0) cleared-over ∙ over-behind s from zeros fits k 0 (omega (arith, length-replicate {A = ℕ} (to - from) 0))

  pub cleared_inside : (k : ℕ) → from ≤ k → k < to → get_or (cleared s from to) k 0 ≡ 0
  cleared_inside k l h =
      let e : k ≡ from + (k - from) = omega arith in
      ap (λ (x : List ℕ). get_or x k 0) cleared-over
      ∙ ap (λ (x : ℕ). get_or (over s from zeros) x 0) e
      ∙ over_inside s from zeros fits (k - from) 0 (omega (arith, length-replicate {A = ℕ} (to - from) 0))
      ∙ get_or-replicate (to - from) (k - from) 0 0 (omega arith)

  -- The same of the lists before and behind.
  pub cleared-take : take from (cleared s from to) ≡ take from s
  cleared-take = ap (take from) cleared-over ∙ take-before-over s from zeros fits

  pub cleared-drop : drop to (cleared s from to) ≡ drop to s
  cleared-drop =
      let e : to ≡ from + length zeros = omega (arith, length-replicate {A = ℕ} (to - from) 0) in
      ap (drop to) cleared-over ∙ subst (λ (k : ℕ). drop k (over s from zeros) ≡ drop k s) (sym e) (drop-over s from zeros fits)

-- Cells in front that are cleared.
pub clear_front : (s : List ℕ) (count : ℕ) → count ≤ length s → cleared s 0 count ≡ over s 0 (replicate count 0)
unfolding cleared
clear_front s count h =
    let e : count - 0 ≡ count = omega arith in
    rw (le-ltb (length s) count h, e)

-- Once s has been worked in (t), clearing the cells in front leaves s but for the zeros there.
pub clear_work : (count : ℕ) (s t : List ℕ) → count ≤ length s → length t ≡ length s → ((i : ℕ) → count ≤ i → get_or t i 0 ≡ get_or s i 0) → cleared t 0 count ≡ over s 0 (replicate count 0)
clear_work count s t room size beyond =
    let z : List ℕ = replicate count 0 in
    let zl : length z ≡ count = length-replicate count 0 in
    let ft : 0 + length z ≤ length t = omega arith in
    let fs : 0 + length z ≤ length s = omega arith in
    clear_front t count (omega arith)
    ∙ ext_get_or 0 (over t 0 z) (over s 0 z) (over-length t 0 z ft ∙ size ∙ sym (over-length s 0 z fs)) (λ i h. elim (dec_lt i count) [
      | yes l ↦ inside i z t ft (omega arith) ∙ sym (inside i z s fs (omega arith))
      | no l ↦ over-behind t 0 z ft i 0 (omega arith) ∙ beyond i (omega arith) ∙ sym (over-behind s 0 z fs i 0 (omega arith))
    ])
  where
    inside : (i : ℕ) (z d : List ℕ) → 0 + length z ≤ length d → i < length z → get_or (over d 0 z) i 0 ≡ get_or z i 0
    inside i z d f h = ap (λ (j : ℕ). get_or (over d 0 z) j 0) (sym (zero-add i)) ∙ over_inside d 0 z f i 0 h
