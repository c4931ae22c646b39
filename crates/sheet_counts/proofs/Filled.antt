-- What is written over a list, by whether it and the scratch are long enough.
use mathlib.Core.Path.{◌≡◌}
use mathlib.Core.List.{List}
use Prim.Native.Nat.{ℕ, ◌≤◌}
use borrow.Author.Tests.{le-ltb}
use lib.ListN.{length}
use Rattle.tables.specs.Lists.{tabulate, over}
use Rattle.sheet_rules.specs.Checks.{entries}
use Rattle.sheet_counts.specs.Steps.{kept_at, filled}

module _ (from n : ℕ) (s l : List ℕ) where
  pub filled-all : entries n ≤ length l → from ≤ length s → filled from n s l ≡ over l 0 (tabulate (entries n) (kept_at from n s))
  unfolding filled
  filled-all room h = rw (le-ltb (length l) (entries n) room, le-ltb (length s) from h)
