-- How much a row gives up at most, also in a table that breaks rules: fewer events than rows, and a distance below them.
use mathlib.Core.List.{List, [], ◌∷◌}
use mathlib.Core.Option.{Option, some, none}
use Prim.Native.Nat.{ℕ, zero, suc, ◌≤◌, ◌<◌}
use native.Mathlib.Omega.{arith}
use lib.ListN.{length, get_or}
use Rattle.automata.specs.Runs.{Events, Machine, Run, Len, len, endless}
use Rattle.tables.specs.Lengths.{distance}
use Rattle.tables.specs.Reduction.{Fate, kept_as, folded_into, unreached}
use Rattle.tables.proofs.Lengths.{Below, distance-below}
use Rattle.chosen.specs.Choice.{first_some, look_at, chosen_at, chosen, run_or}
use Rattle.chosen.specs.GivenUp.{Loss, far_of, given_as}
use Rattle.chosen.proofs.Search.{Sought, seek_is}

-- Each event of a run is one of the table's.
pub run_below : (E : Events) (w : List ℕ) → Run E w → (i : ℕ) → i < length w → get_or w i 0 < E.count
run_below E [] r i h = absurd (omega arith)
run_below E (a ∷ w) r zero h = r.0
run_below E (a ∷ w) r (suc i) h = run_below E w r.1 i (omega arith)

-- What a row gives up at most.
pub record Most (E : Events) (M : Machine) (g : Loss) : Type 0 where
  pub far_most : g.far ≤ M.rows
  pub run_most : length g.run ≤ M.rows
  pub events : Run E g.run

module _ (E : Events) (M : Machine) (q p : ℕ) where
  far-below : (x : Len) → Below M.rows x → far_of x ≤ M.rows
  far-below (len d) h = omega arith
  far-below endless h = omega arith

  run_at : (x : Len) → (length (run_or (chosen_at E M q p x)) ≤ M.rows) × Run E (run_or (chosen_at E M q p x))
  unfolding chosen_at
  run_at endless = (omega arith, tt)
  run_at (len d) = pick (first_some M.rows (λ i. look_at E M i d q p)) (seek_is E M d q p M.rows)
    where
      pick : (y : Option (List ℕ)) → Sought E M M.rows d q p y → (length (run_or y) ≤ M.rows) × Run E (run_or y)
      pick (some w) h = (omega (arith, h.1), h.0.tells.run)
      pick none h = (omega arith, tt)

pub given_most : (E : Events) (M : Machine) (q : ℕ) (f : Fate) → Most E M (given_as E M q f)
unfolding chosen
given_most E M q (kept_as i) = record { far_most = omega arith; run_most = omega arith; events = tt }
given_most E M q unreached = record { far_most = omega arith; run_most = omega arith; events = tt }
given_most E M q (folded_into p) =
    let r = run_at E M q p (distance E M q p) in
    record { far_most = far-below E M q p (distance E M q p) (distance-below E M q p); run_most = r.0; events = r.1 }
