-- What a row gives up, as the cells of scratch tell it.
use Rattle.std.specs.Prelude.{cond, List, ℕ, ◌+◌, eqb, get_or}
use Rattle.chosen.specs.GivenUp.{Loss}
use Rattle.pairs.specs.Pairs.{pair_at, lead_at, folds_start}
use Rattle.measures.specs.Measures.{measure_in}
use Rattle.walks.specs.Walks.{walked}

-- The row into which row q folds, in a scratch of n rows; q itself, if it is unreached.
abbrev pub into_at : ℕ → List ℕ → ℕ → ℕ
into_at n s q = cond (eqb (lead_at s n q) 0) q (get_or s (folds_start n + q) 0)

-- Its distance to row p, and the run of the two.
abbrev pub loss_to : ℕ → ℕ → List ℕ → List ℕ → ℕ → ℕ → Loss
loss_to n events cells s q p = record { far = (measure_in (pair_at s q p)).distance; run = walked cells events s n q p }

-- What row q gives up.
unfoldable pub loss_at : ℕ → ℕ → List ℕ → List ℕ → ℕ → Loss
loss_at n events cells s q = loss_to n events cells s q (into_at n s q)
