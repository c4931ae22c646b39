-- The cell of two rows says their distance and how their chosen run begins; it does not mind the order of the rows, is 0 of a row and itself, and does not look at the start.
use mathlib.Core.Path.{◌≡◌, refl, sym, ap, ap₂, subst, ◌∙◌}
use mathlib.Core.List.{List, [], ◌∷◌}
use mathlib.Core.Logic.{◌⊎◌, inl, inr}
use mathlib.Core.Option.{Option, some, none}
use Prim.Native.Nat.{ℕ, ◌≤◌, ◌<◌}
use native.Mathlib.Omega.{arith}
use Rattle.automata.specs.Runs.{Events, Machine, Sound, Light, Len, len, endless}
use Rattle.tables.specs.Lengths.{distance}
use Rattle.tables.proofs.Lengths.{Below, distance-below}
use Rattle.tables.proofs.Symmetry.{distance_turn, distance_self, distance_same}
use Rattle.chosen.specs.declared.First.TheVariants.{Unsettled}
use Rattle.chosen.specs.Choice.{IsChosen, head_of, chosen, head_or}
use Rattle.chosen.proofs.Theorems.{Is, chosen_is, chosen_none, none-chosen, chosen_flipped}
use Rattle.chosen.proofs.Start.{chosen_same}
use Rattle.row_starts.specs.RowStarts.{starts_of_rows}
use Rattle.pairs.specs.Pairs.{start_in, pair_from, pair_at}
use Rattle.pairs.proofs.RowStarts.{pair_right}
use Rattle.measures.specs.declared.Measure.{Measure}
use Rattle.measures.specs.Measures.{cell_of, measure_in, measure_of, cell_for}
use Rattle.measures.proofs.Codes.{Fits, cell_says}

-- What is known of two rows, read by the stored row starts.
pub measure_read : (starts s : List ℕ) (q p : ℕ) {m : Measure} → starts ≡ starts_of_rows → m ≡ measure_in (pair_from (start_in starts) s q p) → m ≡ measure_in (pair_at s q p)
measure_read starts s q p e read = read ∙ ap measure_in (pair_right starts s q p e refl)

module _ {E : Events} {M : Machine} (s : Sound E M) (z : Light E) (few : M.rows ≤ 1024) (most : E.count ≤ 32) where
  -- A run begins with an event below 32 or is at its end.
  pub run_fits : (q p d : ℕ) (w : List ℕ) → d < 1024 → IsChosen E M q p d w → Fits (len d) (head_of w)
  run_fits q p d [] h x = (omega (arith, x.tells.counted), h)
  run_fits q p d (a ∷ w) h x = (omega (arith, x.tells.counted), h, omega (arith, x.tells.run.0))

  -- A distance that is finite is below 1,024.
  pub far-below : (q p d : ℕ) → distance E M q p ≡ len d → d < 1024
  far-below q p d e = let b = subst (Below M.rows) e (distance-below E M q p) in omega (arith, b)

  pub chosen_fits : (q p : ℕ) → q < M.rows → p < M.rows → Fits (distance E M q p) (head_or (chosen E M q p))
  chosen_fits q p hq hp = pick (chosen E M q p) (chosen_is s z hq hp) (chosen_none s z hq hp)
    where
      pick : (y : Option (List ℕ)) → ((w : List ℕ) → y ≡ some w → Is E M q p w)
          → (y ≡ none → (distance E M q p ≡ len 0) ⊎ (distance E M q p ≡ endless)) → Fits (distance E M q p) (head_or y)
      pick (some w) is nothing =
          let x = is w refl in
          subst (λ (d : Len). Fits d (head_of w)) (sym x.distant) (run_fits q p x.far w (far-below q p x.far x.distant) x.is_chosen)
      pick none is nothing = elim (nothing refl) [
        | inl e ↦ subst (λ (d : Len). Fits d Unsettled) (sym e) (omega arith)
        | inr e ↦ subst (λ (d : Len). Fits d Unsettled) (sym e) tt
      ]

  pub cell_for_says : (q p : ℕ) → q < M.rows → p < M.rows → measure_in (cell_for E M q p) ≡ measure_of E M q p
  cell_for_says q p hq hp = cell_says (distance E M q p) (head_or (chosen E M q p)) (chosen_fits q p hq hp)

module _ {E : Events} {M : Machine} (s : Sound E M) (z : Light E) where
  pub cell_turn : (q p : ℕ) → q < M.rows → p < M.rows → cell_for E M q p ≡ cell_for E M p q
  cell_turn q p hq hp = ap₂ cell_of (distance_turn s z q p hq hp) (ap head_or (chosen_flipped s z hq hp))

  pub cell_self : (q : ℕ) → q < M.rows → cell_for E M q q ≡ 0
  unfolding cell_of
  cell_self q hq = let e = distance_self s z q hq in ap₂ cell_of e (ap head_or (none-chosen s z hq hq (inl e)))

-- Two machines that differ in their start only.
module _ {E : Events} {M N : Machine} (s : Sound E M) (t : Sound E N) (z : Light E) (rows : M.rows ≡ N.rows)
    (target : (q a : ℕ) → M.target q a ≡ N.target q a) (mark : (q : ℕ) → M.mark q ≡ N.mark q) where
  pub cell_same : (q p : ℕ) → q < M.rows → p < M.rows → cell_for E M q p ≡ cell_for E N q p
  cell_same q p hq hp = ap₂ cell_of (distance_same s t z rows target mark q p hq hp) (ap head_or (chosen_same s t z rows target mark q p hq hp))
