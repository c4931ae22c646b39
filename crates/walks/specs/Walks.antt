-- The run that the cells of scratch tell of two rows, event by event.
use Rattle.std.specs.Prelude.{cond, List, [], ◌∷◌, ℕ, zero, suc, ◌+◌, ◌*◌, eqb, get_or}
use Rattle.chosen.specs.declared.First.{First}
use Rattle.chosen.specs.declared.First.TheVariants.{Unsettled, End, Event}
use Rattle.pairs.specs.Pairs.{pair_at}
use Rattle.measures.specs.Measures.{measure_in}

-- How a run begins as a number: its first event; 32 at its end, or if there is none.
abbrev pub number_of : First → ℕ
number_of Unsettled = 32
number_of End = 32
number_of (Event a) = a

-- The next event from rows q and p.
unfoldable pub next_at : List ℕ → ℕ → ℕ → ℕ
next_at s q p = number_of (measure_in (pair_at s q p)).first

-- The run from rows q and p, each event leading on to its targets in the table's cells; at most n events of it.
unfoldable pub walked : (cells : List ℕ) (events : ℕ) (s : List ℕ) (n q p : ℕ) → List ℕ
walked cells events s zero q p = []
walked cells events s (suc n) q p =
    let a = next_at s q p in
    cond (eqb a 32) [] (a ∷ walked cells events s n (get_or cells (q * events + a) 0) (get_or cells (p * events + a) 0))
