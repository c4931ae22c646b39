use Prim.Native.Nat.{ℕ, ◌<◌}
use Rattle.splitting.specs.Places.{nxt_at}
use Rattle.classes.specs.Values.{Values, Alike}
use Rattle.classes.specs.Steps.{values_of, Round}
use Rattle.classes.proofs.Level.fault.Given as goal

-- The place that has turn k is like its leader.
abbrev pub Fine : Values → (ℕ → ℕ) → ℕ → ℕ → ℕ → Type 0
Fine W f from to k = (j : ℕ) → j < to → Round from to k j → Alike W f (W.row j) (W.row (f j))

abbrev pub invariant-loop-k : goal.invariant-loop-k
invariant-loop-k l = (x : ℕ) → x < l.k → Fine (values_of l.self l.scratch) (nxt_at l.self.n l.scratch) l.from l.self.to x
