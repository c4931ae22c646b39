-- Targets in bytes, in either form: one target, then one after the other.
use mathlib.Core.Path.{◌≡◌, refl, sym, ap, ◌∙◌}
use mathlib.Core.Bool.{false}
use mathlib.Core.List.{List, [], ◌∷◌, ◌++◌}
use Prim.Native.Nat.{ℕ, zero, suc, ◌+◌, ◌*◌, ◌≤◌, ◌<◌}
use native.Mathlib.Nat.{add-zero}
use native.Mathlib.Numerals.{add-one}
use native.Mathlib.Omega.{arith}
use lib.ListN.{length, get_or, drop}
use lib.IntN.{ℤ}
use lib.Seq.{drop-cons, get_or-drop}
use Rattle.steps.specs.Steps.{step_of, byte_of_step, step_of_byte, landing}
use Rattle.std.specs.Prelude.{Option, Some, None}
use Rattle.steps.proofs.Steps.{leads, step_back_lem, byte_back, step_byte}
use Rattle.automata.proofs.Tests.{clash}
use Rattle.images.specs.Image.{width, step_bytes, target_bytes, target_at, far, too_far}
use Rattle.images.specs.declared.Form.{Form}
use Rattle.images.specs.declared.Form.TheVariants.{Plain, Radio}
use Rattle.images.proofs.Numbers.{Bytes, number_bytes, number-at, number-on}

-- ---- one target

-- A step that is not too far.
near : (P : Option ℤ → Type 0) (s : Option ℤ) → ((d : ℤ) → s ≡ Some d → P (Some d)) → far s ≡ false → P s
near P (Some d) h e = h d refl
near P None h e = clash refl e

pub target_length : (F : Form) (row target : ℕ) → too_far F row target ≡ false → length (target_bytes F row target) ≡ width F
target_length Plain row target e = refl
target_length Radio row target e = near (λ s. length (step_bytes s) ≡ 1) (step_of row target) (λ d h. refl) e

one_byte : (x : ℕ) → x < 256 → Bytes (x ∷ [])
one_byte x h zero = h
one_byte x h (suc i) = omega arith

step_bytes_lem : (row target : ℕ) (s : Option ℤ) → step_of row target ≡ s → Bytes (step_bytes s)
step_bytes_lem row target (Some d) e = one_byte (byte_of_step d) (step_byte row target d e)
step_bytes_lem row target None e = λ i. omega arith

pub target_bytes_lem : (F : Form) (row target : ℕ) → Bytes (target_bytes F row target)
target_bytes_lem Plain row target = number_bytes target
target_bytes_lem Radio row target = step_bytes_lem row target (step_of row target) refl

-- What is written is read.
pub target_at_lem : (F : Form) (b : List ℕ) (row target at : ℕ) (r : List ℕ) → drop at b ≡ target_bytes F row target ++ r → target < 65536
    → too_far F row target ≡ false → target_at F b row at ≡ target
target_at_lem Plain b row target at r e h f = number-at b at target r e h
target_at_lem Radio b row target at r e h f =
    near (λ s. drop at b ≡ step_bytes s ++ r → landing row (step_of_byte (get_or b at 0)) ≡ target) (step_of row target)
    (λ d g on. let here : get_or b at 0 ≡ byte_of_step d = ap (λ (k : ℕ). get_or b k 0) (sym (add-zero at)) ∙ sym (get_or-drop at b 0 0) ∙ ap (λ (l : List ℕ). get_or l 0 0) on in
    ap (λ (x : ℕ). landing row (step_of_byte x)) here ∙ leads row target d g) f e

-- What is read, if it can be a row, is what stands there.
module _ (b : List ℕ) (bytes : Bytes b) where
  pub target_near : (F : Form) (row at : ℕ) → target_at F b row at < 65535 → too_far F row (target_at F b row at) ≡ false
  target_near Plain row at h = refl
  target_near Radio row at h = ap far (step_back_lem row (get_or b at 0) (bytes at) h)

  pub target_on : (F : Form) (row at : ℕ) → at + width F ≤ length b → target_at F b row at < 65535
      → drop at b ≡ target_bytes F row (target_at F b row at) ++ drop (at + width F) b
  target_on Plain row at h g = number-on b bytes at h
  target_on Radio row at h g =
      let x : ℕ = get_or b at 0 in
      let same : step_bytes (step_of row (landing row (step_of_byte x))) ≡ x ∷ [] = ap step_bytes (step_back_lem row x (bytes at) g) ∙ ap (λ (y : ℕ). y ∷ []) (byte_back x (bytes at)) in
      drop-cons b at 0 (omega arith) ∙ ap (λ (k : ℕ). x ∷ drop k b) (sym (add-one at)) ∙ ap (λ (l : List ℕ). l ++ drop (at + 1) b) (sym same)

-- A target has at most two bytes.
pub width_most : (F : Form) (n : ℕ) → width F * n ≤ 2 * n
width_most Plain n = omega arith
width_most Radio n = omega arith

-- The bytes of a target and of those before it are among those of all.
pub width-below : (F : Form) (i n : ℕ) → i < n → width F * i + width F ≤ width F * n
width-below Plain i n h = omega arith
width-below Radio i n h = omega arith
