use Prim.Native.Nat.{ℕ, ◌<◌}
use Rattle.quick_depths.specs.Rounds.{Fine, Dropped}
use Rattle.quick_depths.proofs.keep_seen.Given as goal

abbrev pub invariant-loop-q : goal.invariant-loop-q
invariant-loop-q l = Dropped l.n l.initial.scratch l.scratch l.dropped ((x : ℕ) → x < l.q → Fine l.n l.initial.scratch x)
