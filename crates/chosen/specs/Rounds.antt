-- First events in rounds over the length of the chosen run in all its events. "A pair takes the lowest event that leads to a pair settled in an earlier round."
use Rattle.std.specs.Prelude.{◌≡◌, List, ◌⊎◌, ℕ, ◌-◌, ◌≤◌, ◌<◌, length}
use Rattle.automata.specs.Runs.{Events, Machine, Len, len}
use Rattle.chosen.specs.declared.First.{First}
use Rattle.chosen.specs.declared.First.TheVariants.{Unsettled, Event}
use Rattle.chosen.specs.Choice.{IsChosen, head_of}

-- D is the distance of two rows, F how the run of two rows begins.
module _ (E : Events) (M : Machine) (D : ℕ → ℕ → Len) where
  -- After round l the pairs whose chosen run has at most l events are settled, by its first event or its end, and no others are.
  pub record Stage (F : ℕ → ℕ → First) (l : ℕ) : Type 0 where
    pub settled : (q p d : ℕ) (w : List ℕ) → q < M.rows → p < M.rows → D q p ≡ len d → IsChosen E M q p d w → length w ≤ l → F q p ≡ head_of w
    pub later : (q p d : ℕ) (w : List ℕ) → q < M.rows → p < M.rows → D q p ≡ len d → IsChosen E M q p d w → l < length w → F q p ≡ Unsettled
    pub never : (q p : ℕ) → q < M.rows → p < M.rows → ((d : ℕ) → D q p ≡ len d → d ≡ 0) → F q p ≡ Unsettled

  -- Event a leads from q and p, at distance d, to a settled pair whose distance is less by the weight of a.
  abbrev pub Ready : (ℕ → ℕ → First) → ℕ → ℕ → ℕ → ℕ → Type 0
  Ready F q p d a = (a < E.count) × (¬ (F (M.target q a) (M.target p a) ≡ Unsettled)) × (D (M.target q a) (M.target p a) ≡ len (d - E.weight a))

  -- What a round makes of a pair: a settled one stays; an unsettled one takes the lowest event that is ready; with none it stays unsettled.
  abbrev pub Turn : (ℕ → ℕ → First) → (ℕ → ℕ → First) → ℕ → ℕ → Type 0
  Turn F F' q p = ((¬ (F q p ≡ Unsettled)) × (F' q p ≡ F q p))
      ⊎ (((d : ℕ) × (a : ℕ) × (F q p ≡ Unsettled) × (D q p ≡ len d) × Ready F q p d a × ((b : ℕ) → b < a → ¬ Ready F q p d b) × (F' q p ≡ Event a))
      ⊎ ((F q p ≡ Unsettled) × (F' q p ≡ Unsettled) × ((d b : ℕ) → D q p ≡ len d → ¬ Ready F q p d b)))
