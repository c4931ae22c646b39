-- The chosen run does not look at the start.
use mathlib.Core.Path.{◌≡◌, refl, sym, ◌∙◌}
use mathlib.Core.List.{List}
use mathlib.Core.Option.{Option, some, none}
use mathlib.Core.Logic.{◌⊎◌, inl, inr}
use Prim.Native.Nat.{ℕ, ◌<◌}
use native.Mathlib.Omega.{arith}
use Rattle.automata.specs.Runs.{Events, Machine, Sound, Light, len, endless}
use Rattle.tables.specs.Lengths.{distance}
use Rattle.tables.proofs.Symmetry.{shows_same, distance_same}
use Rattle.chosen.specs.Choice.{Tells, IsChosen, chosen}
use Rattle.chosen.proofs.Theorems.{Is, chosen_is, chosen_none, none-chosen, is_chosen_at}

-- Two machines that differ in their start only.
module _ {E : Events} {M N : Machine} (s : Sound E M) (t : Sound E N) (z : Light E) (rows : M.rows ≡ N.rows)
    (target : (q a : ℕ) → M.target q a ≡ N.target q a) (mark : (q : ℕ) → M.mark q ≡ N.mark q) where
  tells-to : {q p D : ℕ} {w : List ℕ} → Tells E M q p D w → Tells E N q p D w
  tells-to {q} {p} {D} {w} x = record {
    run = x.run;
    differ = λ e. x.differ (shows_same s t z rows target mark w q ∙ e ∙ sym (shows_same s t z rows target mark w p));
    counted = x.counted;
  }

  tells-from : {q p D : ℕ} {w : List ℕ} → Tells E N q p D w → Tells E M q p D w
  tells-from {q} {p} {D} {w} x = record {
    run = x.run;
    differ = λ e. x.differ (sym (shows_same s t z rows target mark w q) ∙ e ∙ shows_same s t z rows target mark w p);
    counted = x.counted;
  }

  is_from : {q p D : ℕ} {w : List ℕ} → IsChosen E N q p D w → IsChosen E M q p D w
  is_from x = record { tells = tells-from x.tells; shortest = λ v y. x.shortest v (tells-to y); lowest = λ v y. x.lowest v (tells-to y) }

  pub chosen_same : (q p : ℕ) → q < M.rows → p < M.rows → chosen E M q p ≡ chosen E N q p
  chosen_same q p hq hp = pick (chosen E N q p) (chosen_is t z gq gp) (chosen_none t z gq gp)
    where
      gq : q < N.rows
      gq = omega arith

      gp : p < N.rows
      gp = omega arith

      far : distance E M q p ≡ distance E N q p
      far = distance_same s t z rows target mark q p hq hp

      pick : (y : Option (List ℕ)) → ((w : List ℕ) → y ≡ some w → Is E N q p w) → (y ≡ none → (distance E N q p ≡ len 0) ⊎ (distance E N q p ≡ endless)) → chosen E M q p ≡ y
      pick (some w) is nothing = let x = is w refl in is_chosen_at s z hq hp (far ∙ x.distant) (is_from x.is_chosen)
      pick none is nothing = none-chosen s z hq hp (elim (nothing refl) [ inl e ↦ inl (far ∙ e) | inr e ↦ inr (far ∙ e) ])
