use Prim.Native.Nat.{ℕ, ◌<◌}
use Rattle.splitting.specs.Places.{front}
use Rattle.classes.specs.Values.{target_in, place_in}
use Rattle.classes.proofs.Level.readable.Given as goal

abbrev pub invariant-loop-a : goal.invariant-loop-a
invariant-loop-a l = (b : ℕ) → b < l.a → (target_in l.self.m l.self.cells.now l.q b < l.self.n) × (place_in l.self.n l.self.m l.self.cells.now (front l.self.n l.scratch) l.q b < l.self.to)
