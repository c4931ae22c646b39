-- Laws of checks in a row.
use mathlib.Core.Path.{◌≡◌, refl, sym, ap, ◌∙◌}
use mathlib.Core.Bool.{Bool, true, false, not, ◌&&◌}
use mathlib.Core.List.{List, [], ◌∷◌, ◌++◌}
use Prim.Native.Nat.{ℕ, ◌%◌}
use native.Mathlib.Nat.{zero-div}
use lib.Dec.{eqb}
use Rattle.marks.specs.Marks.{spare_bits_set}
use Rattle.rules.specs.Rules.{Verdict, sound, and_then, judged}
use Rattle.std.specs.Prelude.{Ok, Err}
use Rattle.rules.specs.declared.Refusal.{Refusal}

-- Two rows of checks, one after the other.
pub judged-append : (l m : List Verdict) → judged (l ++ m) ≡ and_then (judged l) (judged m)
judged-append [] m = refl
judged-append (Ok u ∷ l) m = judged-append l m
judged-append (Err r ∷ l) m = refl

pub then_fine : (v : Verdict) → and_then v sound ≡ v
then_fine (Ok u) = refl
then_fine (Err r) = refl

-- What the first row of checks says, and what follows of both.
pub refused-first : (l m : List Verdict) (v : Verdict) (r : Refusal) → v ≡ judged l → v ≡ Err r → Err r ≡ judged (l ++ m)
refused-first l m v r e g = sym (judged-append l m ∙ ap (λ (u : Verdict). and_then u (judged m)) (sym e ∙ g))

pub fine-first : (l m : List Verdict) (v : Verdict) → v ≡ judged l → v ≡ sound → judged m ≡ judged (l ++ m)
fine-first l m v e r = sym (judged-append l m ∙ ap (λ (u : Verdict). and_then u (judged m)) (sym e ∙ r))

-- A byte of 0 has no spare bit set.
pub spare-zero : (rows : ℕ) → spare_bits_set rows 0 ≡ false
unfolding spare_bits_set
spare-zero rows = rw zero-div (pick (not (eqb (rows % 8) 0)))
  where
    pick : (b : Bool) → (b && false) ≡ false
    pick true = refl
    pick false = refl
