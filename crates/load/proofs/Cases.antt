-- A small table.
use mathlib.Core.Path.{◌≡◌, refl}
use mathlib.Core.List.{[], ◌∷◌}
use Rattle.xorshift.specs.Xorshift.{step, state}
use Rattle.tables.specs.Lists.{tabulate}
use Rattle.tables.specs.Table.{digits, pack}
use Rattle.rules.specs.Rules.{table_of}
use Rattle.load.specs.Load.{load}

small-table : load 1 9 2 ≡ table_of 9 2 0 (2 ∷ 2 ∷ 8 ∷ 6 ∷ 8 ∷ 7 ∷ 1 ∷ 6 ∷ 5 ∷ 4 ∷ 6 ∷ 8 ∷ 7 ∷ 5 ∷ 5 ∷ 6 ∷ 4 ∷ 0 ∷ []) (191 ∷ 1 ∷ [])
unfolding load step state tabulate pack digits
small-table = refl
