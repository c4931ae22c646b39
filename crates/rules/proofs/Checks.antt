-- What it tells that checks find nothing broken.
use mathlib.Core.Path.{◌≡◌, refl}
use mathlib.Core.Bool.{Bool, true, false, ◌||◌}
use mathlib.Core.List.{List, [], ◌∷◌}
use mathlib.Core.Logic.{◌↔◌, ⊎_elim}
use Prim.Native.Nat.{ℕ, zero, suc, ◌≤◌, ◌<◌}
use native.Mathlib.Omega.{arith}
use lib.Dec.{eqb, leb, ltb}
use lib.ListN.{length, get_or, drop}
use borrow.Author.Tests.{eqb-false, leb-false, ltb-false, ne_eqb, lt-leb, le-ltb}
use Rattle.automata.proofs.Tests.{either, clash}
use Rattle.tables.specs.Lists.{position}
use Rattle.tables.proofs.Lists.{at_mem, position_in, position_is}
use Rattle.rules.specs.Rules.{Verdict, sound, rule, judged, outside}
use Rattle.std.specs.Prelude.{Ok, Err}
use Rattle.rules.specs.declared.Rule.{Rule}
use Rattle.rules.specs.declared.Refusal.{Refusal}

refused : {A : Type 0} {r : Refusal} → Err r ≡ sound → A
refused e = let z : ◌≡◌ {A = ℕ} 0 1 = cc in absurd (omega arith)

pub unbroken : (r : Rule) (t : Bool) (place : ℕ) → rule r t place ≡ sound → t ≡ false
unbroken r true place e = refused e
unbroken r false place e = refl

-- Each of the checks in a row finds nothing.
pub passed : (l : List Verdict) → judged l ≡ sound → (i : ℕ) → get_or l i sound ≡ sound
passed [] e i = refl
passed (Ok u ∷ l) e zero = refl
passed (Ok u ∷ l) e (suc i) = passed l e i
passed (Err r ∷ l) e i = refused e

-- So do those behind the first n.
pub passed-behind : (n : ℕ) (l : List Verdict) → judged l ≡ sound → judged (drop n l) ≡ sound
passed-behind zero l e = e
passed-behind (suc n) [] e = refl
passed-behind (suc n) (Ok u ∷ l) e = passed-behind n l e
passed-behind (suc n) (Err r ∷ l) e = refused e

pub neither : (a b : Bool) → (a || b) ≡ false → (a ≡ false) × (b ≡ false)
neither true b e = clash refl e
neither false b e = (refl, e)

pub inside : (most n : ℕ) → (outside most n ≡ false) ↔ ((1 ≤ n) × (n ≤ most))
inside most n = (
  λ e. let t = neither (eqb n 0) (ltb most n) e in (omega (arith, eqb-false n 0 t.0), ltb-false most n t.1),
  λ h. rw (ne_eqb n 0 (omega arith)) (le-ltb most n h.1),
)

-- No member passes the test.
pub none_passes : (f : ℕ → Bool) (l : List ℕ) (n : ℕ) → length l ≡ n → (ltb (position f l) n ≡ false) ↔ ((i : ℕ) → i < n → f (get_or l i 0) ≡ false)
none_passes f l n len = (
  λ e i h. ⊎_elim (λ t. absurd (omega (arith, ltb-false _ n e, position_in f l _ (at_mem l i 0 (omega arith)) t))) (λ t. t) (either (f (get_or l i 0))),
  λ h. le-ltb _ n (omega (arith, position_is f l n 0 (omega arith) h (λ g. absurd (omega arith)))),
)

-- No member is outside.
pub all_inside : (rows : ℕ) (l : List ℕ) (n : ℕ) → length l ≡ n → (ltb (position (leb rows) l) n ≡ false) ↔ ((i : ℕ) → i < n → get_or l i 0 < rows)
all_inside rows l n len =
    let p = none_passes (leb rows) l n len in
    (λ e i h. leb-false rows _ (p.0 e i h), λ h. p.1 (λ i g. lt-leb rows _ (h i g)))
