-- What stands in the cell of a pair of rows: 0 if it was not met, else its level, one more than the events of the shortest run to it, and 4,096 times what is told of it.
use Rattle.std.specs.Prelude.{cond, List, ℕ, zero, suc, ◌+◌, ◌*◌, ◌/◌, ◌%◌, eqb, get_or}
use Rattle.tables.specs.Table.{mark_of}
use Rattle.ordering.specs.Order.{by_marks}
use Rattle.ordering.specs.Found.{number_of}
use Rattle.order.specs.declared.Sweep.{Sweep}
use Rattle.order.specs.declared.Sweep.TheVariants.{Nothing, Pairs, Difference}

-- The level of a pair.
abbrev pub level_at : List ℕ → ℕ → ℕ
level_at s k = get_or s k 0 % 4096

-- Which of rows i and j shows the lower mark, as a number.
abbrev pub lower_of : List ℕ → List ℕ → ℕ → ℕ → ℕ
lower_of marks marks2 i j = number_of (by_marks (mark_of marks i) (mark_of marks2 j))

-- The cell of a pair that an event leads to, where m is told by its marks: one that was met stays.
abbrev pub met_with : ℕ → ℕ → ℕ → ℕ
met_with m next zero = 4096 * m + next
met_with m next (suc c) = suc c

-- 0: no pair was met. 1: one was. 2: the marks of one differ.
abbrev pub worse : ℕ → ℕ → ℕ
worse zero zero = 1
worse (suc most) zero = suc most
worse most (suc m) = 2

abbrev pub raised : ℕ → ℕ → ℕ → ℕ
raised most m zero = worse most m
raised most m (suc c) = most

-- What a sweep has come upon, by these numbers.
abbrev pub found_by : Sweep → ℕ
found_by Nothing = 0
found_by Pairs = 1
found_by Difference = 2

-- What is told of a pair by its cell, if it stands at a level.
abbrev pub tells : ℕ → ℕ → ℕ
tells level c = cond (eqb (c % 4096) level) (c / 4096) 0
