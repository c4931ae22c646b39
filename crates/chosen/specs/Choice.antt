-- "The last run that differs": the run that is chosen for two rows of finite distance above 0, and its first event.
use Rattle.std.specs.Prelude.{◌≡◌, List, [], ◌∷◌, ◌⊎◌, cond, ℕ, zero, suc, ◌-◌, ◌≤◌, ◌<◌, eqb, length}
use Rattle.std.proofs.Math.Option.{Option, some, none}
use Rattle.automata.specs.Runs.{Events, Machine, Run, size, after, Len, len, endless, IsDistance}
use Rattle.tables.specs.Lengths.{distance}
use Rattle.chosen.specs.declared.First.{First}
use Rattle.chosen.specs.declared.First.TheVariants.{Unsettled, End, Event}

-- Of two runs, v has the lower event at the first place where they differ.
abbrev pub Lower : List ℕ → List ℕ → Type 0
Lower [] [] = ⊥
Lower [] (b ∷ w) = ⊥
Lower (a ∷ v) [] = ⊥
Lower (a ∷ v) (b ∷ w) = (a < b) ⊎ ((a ≡ b) × Lower v w)

-- Begun at rows q and p, the marks after v are equal.
abbrev pub SameAfter : Machine → ℕ → ℕ → List ℕ → Type 0
SameAfter M q p v = M.mark (after M q v) ≡ M.mark (after M p v)

-- The run w differs in mark, begun at q and at p, and has D - 1 counted events.
pub record Tells (E : Events) (M : Machine) (q p D : ℕ) (w : List ℕ) : Type 0 where
  pub run : Run E w
  pub differ : ¬ SameAfter M q p w
  pub counted : suc (size E w) ≡ D

-- "The chosen run" of rows q and p at distance D: it differs in mark, has D - 1 counted events, is the shortest such in all its events,
-- then the lowest by events.
pub record IsChosen (E : Events) (M : Machine) (q p D : ℕ) (w : List ℕ) : Type 0 where
  pub tells : Tells E M q p D w
  pub shortest : (v : List ℕ) → Tells E M q p D v → length w ≤ length v
  pub lowest : (v : List ℕ) → Tells E M q p D v → length v ≡ length w → ¬ Lower v w

-- The chosen run of rows q and p at distance D is event a and then v: the targets of a have distance D less the weight of a, and v is their
-- chosen run. Of all events with such targets, none has a shorter chosen run after it, and no lower one has one as short.
pub record Begins (E : Events) (M : Machine) (q p D a : ℕ) (v : List ℕ) : Type 0 where
  pub not_end : ¬ ((D ≡ 1) × (¬ (M.mark q ≡ M.mark p)))
  pub is_event : a < E.count
  pub distant : IsDistance E M (M.target q a) (M.target p a) (len (D - E.weight a))
  pub rest : IsChosen E M (M.target q a) (M.target p a) (D - E.weight a) v
  pub none_shorter : (b : ℕ) (u : List ℕ) → b < E.count → IsDistance E M (M.target q b) (M.target p b) (len (D - E.weight b))
      → IsChosen E M (M.target q b) (M.target p b) (D - E.weight b) u → length v ≤ length u
  pub none_lower : (b : ℕ) (u : List ℕ) → b < a → IsDistance E M (M.target q b) (M.target p b) (len (D - E.weight b))
      → IsChosen E M (M.target q b) (M.target p b) (D - E.weight b) u → length v < length u

-- How a run begins: with an event, or at its end.
abbrev pub head_of : List ℕ → First
head_of [] = End
head_of (a ∷ w) = Event a

-- ---- the same as a function that computes

-- The first of f 0, .. f (n - 1) that is something.
unfoldable pub first_some : ℕ → (ℕ → Option (List ℕ)) → Option (List ℕ)
first_some zero f = none
first_some (suc n) f = elim (first_some n f) [ some w ↦ some w | none ↦ f n ]

-- Event a in front of the run, if there is one.
abbrev pub push : ℕ → Option (List ℕ) → Option (List ℕ)
push a (some w) = some (a ∷ w)
push a none = none

-- The lowest run of i events, D - 1 of them counted, that tells q from p.
unfoldable pub look_at : Events → Machine → ℕ → ℕ → ℕ → ℕ → Option (List ℕ)
look_at E M zero D q p = cond (eqb D 1) (cond (eqb (M.mark q) (M.mark p)) none (some [])) none
look_at E M (suc i) D q p = first_some E.count (λ a. push a (look_at E M i (D - E.weight a) (M.target q a) (M.target p a)))

-- The shortest, then lowest. It has fewer events than there are rows.
unfoldable pub chosen_at : Events → Machine → ℕ → ℕ → Len → Option (List ℕ)
chosen_at E M q p (len D) = first_some M.rows (λ i. look_at E M i D q p)
chosen_at E M q p endless = none

-- The chosen run of rows q and p; none if their distance is 0 or endless.
unfoldable pub chosen : Events → Machine → ℕ → ℕ → Option (List ℕ)
chosen E M q p = chosen_at E M q p (distance E M q p)

-- Its first event or its end; unsettled if there is none.
abbrev pub head_or : Option (List ℕ) → First
head_or (some w) = head_of w
head_or none = Unsettled

-- The run, empty if there is none.
abbrev pub run_or : Option (List ℕ) → List ℕ
run_or (some w) = w
run_or none = []
