use Rattle.apart.proofs.Found.{pairs-not, pairs-few, pairs-room, pairs-found}
use native.Mathlib.Omega.{arith}
use Rattle.apart.proofs.by_pairs.Goals as goal

pub overflow_cast-rows : goal.overflow_cast-rows
overflow_cast-rows c = let f = c.find_lengths.ensures in
    record { fits = omega (arith, pairs-few _ _ _ f.0 f.1 c.if-find_lengths.true) }

pub put_all-requires : goal.put_all-requires
put_all-requires c = let f = c.find_lengths.ensures in
    pairs-room _ _ _ f.0 f.1 c.if-find_lengths.true

pub returns-then-find_lengths : goal.returns-then-find_lengths
returns-then-find_lengths c = let f = c.find_lengths.ensures in
    pairs-found _ _ _ f.0 f.1 c.if-find_lengths.true c.put_all.ensures

pub returns-else-find_lengths : goal.returns-else-find_lengths
returns-else-find_lengths c = let f = c.find_lengths.ensures in
    pairs-not _ _ _ f.0 f.1 c.if-find_lengths.false
