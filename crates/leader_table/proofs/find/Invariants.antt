use Prim.Native.Nat.{ℕ, suc, ◌≤◌, ◌<◌}
use mathlib.Core.Path.{◌≡◌}
use Rattle.splitting.specs.Places.{tab_at}
use Rattle.leader_table.specs.Putting.{Alike}
use Rattle.leader_table.proofs.find.Given as goal

abbrev pub invariant-loop-at : goal.invariant-loop-at
invariant-loop-at l = ((x : ℕ) → l.slot ≤ x → x < l.at → tab_at l.n l.scratch x ≡ 0 → ⊥) × ((x : ℕ) → l.slot ≤ x → x < l.at → (y : ℕ) → tab_at l.n l.scratch x ≡ suc y → Alike l.mask l.n l.m l.to l.known l.last l.cells l.scratch l.i y → ⊥)
