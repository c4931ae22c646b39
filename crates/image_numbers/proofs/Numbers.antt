-- What a number that was got, or not, says of the bytes.
use mathlib.Core.Path.{◌≡◌, refl, sym, ap}
use mathlib.Core.Bool.{Bool, true, false}
use mathlib.Core.List.{List}
use Prim.Native.Nat.{ℕ, ◌+◌, ◌≤◌, ◌<◌}
use native.Mathlib.Omega.{arith}
use borrow.Author.Tests.{ltb-true, ltb-false}
use lib.Dec.{ltb}
use lib.ListN.{length}
use Rattle.rules.specs.Rules.{rule}
use Rattle.images.specs.Image.{number_at}
use Rattle.image_numbers.specs.Numbers.{got, checked, number_section}
use Rattle.std.specs.Prelude.{Err}
use Rattle.rules.specs.declared.Rule.TheVariants.{Short}
use Rattle.rules.specs.declared.Refusal.{Refusal}

-- Where two sections give the same, so do their parts.
pub got-same : {v n value next : ℕ} → got v n ≡ got value next → (v ≡ value) × (n ≡ next)
got-same {v} {n} {value} {next} e =
    let pair : ◌≡◌ {A = ℕ × ℕ} (v, n) (value, next) = cc in
    (ap (λ (p : ℕ × ℕ). p.0) pair, ap (λ (p : ℕ × ℕ). p.1) pair)

-- A number that was got stands at the place, and the image has it.
pub record Number (b : List ℕ) (at value next : ℕ) : Type 0 where
  pub value_is : value ≡ number_at b at
  pub next_is : next ≡ at + 2
  pub inside : at + 2 ≤ length b

pub number_got : (b : List ℕ) (at value next : ℕ) → number_section b at ≡ got value next → Number b at value next
unfolding number_section
number_got b at value next e = pick (ltb (length b) (at + 2)) refl e
  where
    pick : (c : Bool) → ltb (length b) (at + 2) ≡ c → checked (rule Short c (length b)) (got (number_at b at) (at + 2)) ≡ got value next → Number b at value next
    pick true t g = let z : ◌≡◌ {A = ℕ} 0 1 = cc in absurd (omega arith)
    pick false t g = let same = got-same (sym g) in record { value_is = same.0; next_is = same.1; inside = ltb-false (length b) (at + 2) t }

-- A number that was not got is cut short.
pub number_cut : (b : List ℕ) (at : ℕ) (r : Refusal) → number_section b at ≡ Err r → length b < at + 2
unfolding number_section
number_cut b at r e = pick (ltb (length b) (at + 2)) refl e
  where
    pick : (c : Bool) → ltb (length b) (at + 2) ≡ c → checked (rule Short c (length b)) (got (number_at b at) (at + 2)) ≡ Err r → length b < at + 2
    pick true t g = ltb-true (length b) (at + 2) t
    pick false t g = let z : ◌≡◌ {A = ℕ} 0 1 = cc in absurd (omega arith)
