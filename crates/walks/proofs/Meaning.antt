-- Where the cells of scratch say how the chosen run of any two rows begins, the run that is walked is the chosen run.
use mathlib.Core.Path.{◌≡◌, refl, sym, ap, ◌∙◌}
use mathlib.Core.List.{List, [], ◌∷◌}
use mathlib.Core.Option.{Option, some, none}
use Prim.Native.Nat.{ℕ, zero, suc, ◌≤◌, ◌<◌}
use native.Mathlib.Omega.{arith}
use lib.ListN.{length}
use Rattle.automata.specs.Runs.{Sound, Light}
use Rattle.tables.specs.Table.{Table, machine, events_of}
use Rattle.chosen.specs.Choice.{chosen, head_or, run_or}
use Rattle.chosen.proofs.Theorems.{chosen_is, chosen-next}
use Rattle.pairs.specs.Pairs.{pair_at}
use Rattle.measures.specs.Measures.{measure_in}
use Rattle.walks.specs.Walks.{number_of, next_at, walked}
use Rattle.walks.proofs.Following.{walked_end, walked_on, walked_none}

module _ (weight : ℕ → ℕ) (T : Table) (s : List ℕ) (so : Sound (events_of weight T) (machine T)) (z : Light (events_of weight T)) (few : T.events ≤ 32)
    (held : (q p : ℕ) → q < T.rows → p < T.rows → (measure_in (pair_at s q p)).first ≡ head_or (chosen (events_of weight T) (machine T) q p)) where
  next_held : (q p : ℕ) → q < T.rows → p < T.rows → (y : Option (List ℕ)) → chosen (events_of weight T) (machine T) q p ≡ y → next_at s q p ≡ number_of (head_or y)
  unfolding next_at
  next_held q p hq hp y e = ap number_of (held q p hq hp ∙ ap head_or e)

  walked-some : (w : List ℕ) (n q p : ℕ) → q < T.rows → p < T.rows → chosen (events_of weight T) (machine T) q p ≡ some w → length w ≤ n → walked T.cells T.events s n q p ≡ w
  walked-some [] zero q p hq hp e h = walked_none T.cells T.events s q p
  walked-some [] (suc n) q p hq hp e h = walked_end T.cells T.events s n q p (next_held q p hq hp (some []) e)
  walked-some (a ∷ w) zero q p hq hp e h = absurd (omega arith)
  walked-some (a ∷ w) (suc n) q p hq hp e h =
      let y = chosen-next so z hq hp e in
      walked_on T.cells T.events s n q p a (sym (next_held q p hq hp (some (a ∷ w)) e)) (λ k. omega (arith, y.0))
      ∙ ap (λ (l : List ℕ). a ∷ l) (walked-some w n _ _ (so.target_inside q a hq y.0) (so.target_inside p a hp y.0) y.1 (omega arith))

  walked-nothing : (n q p : ℕ) → q < T.rows → p < T.rows → chosen (events_of weight T) (machine T) q p ≡ none → walked T.cells T.events s n q p ≡ []
  walked-nothing zero q p hq hp e = walked_none T.cells T.events s q p
  walked-nothing (suc n) q p hq hp e = walked_end T.cells T.events s n q p (next_held q p hq hp none e)

  -- It has fewer events than there are rows.
  pub walked-chosen : (q p : ℕ) → q < T.rows → p < T.rows → walked T.cells T.events s T.rows q p ≡ run_or (chosen (events_of weight T) (machine T) q p)
  walked-chosen q p hq hp = pick (chosen (events_of weight T) (machine T) q p) refl
    where
      pick : (y : Option (List ℕ)) → chosen (events_of weight T) (machine T) q p ≡ y → walked T.cells T.events s T.rows q p ≡ run_or y
      pick (some w) e = walked-some w T.rows q p hq hp e (omega (arith, (chosen_is so z hq hp w e).short))
      pick none e = walked-nothing T.rows q p hq hp e
