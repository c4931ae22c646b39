-- Lists of rows: the few functions that the rules of reduction are written with.
use Rattle.std.specs.Prelude.{Bool, true, false, ◌||◌, List, [], ◌∷◌, ◌++◌, ℕ, zero, suc, ◌+◌, eqb, length, take, drop}

-- f 0, f 1, .. f (n - 1)
unfoldable pub tabulate {ℓ} : {A : Type ℓ} → ℕ → (ℕ → A) → List A
tabulate zero f = []
tabulate (suc n) f = f 0 ∷ tabulate n (λ i. f (suc i))

-- The members that pass the test.
unfoldable pub filter : (ℕ → Bool) → List ℕ → List ℕ
filter f [] = []
filter f (x ∷ l) = elim (f x) [ true ↦ x ∷ filter f l | false ↦ filter f l ]

-- Whether some member passes the test.
unfoldable pub some : (ℕ → Bool) → List ℕ → Bool
some f [] = false
some f (x ∷ l) = f x || some f l

-- The first member that passes the test; d if none does.
unfoldable pub first : (ℕ → Bool) → ℕ → List ℕ → ℕ
first f d [] = d
first f d (x ∷ l) = elim (f x) [ true ↦ x | false ↦ first f d l ]

-- The place of the first member that passes the test, counted from 0; the length if none does.
unfoldable pub position : (ℕ → Bool) → List ℕ → ℕ
position f [] = 0
position f (x ∷ l) = elim (f x) [ true ↦ 0 | false ↦ suc (position f l) ]

-- The place of x.
abbrev pub place : ℕ → List ℕ → ℕ
place x l = position (eqb x) l

-- l, and behind it each row in turn that is `like` none before it.
unfoldable pub sift : (ℕ → ℕ → Bool) → List ℕ → List ℕ → List ℕ
sift like l [] = l
sift like l (x ∷ rest) = elim (some (like x) l) [ true ↦ sift like l rest | false ↦ sift like (l ++ (x ∷ [])) rest ]

-- d with s written over it from place `at` on; the rest is untouched.
unfoldable pub over : List ℕ → ℕ → List ℕ → List ℕ
over d at s = take at d ++ s ++ drop (at + length s) d
