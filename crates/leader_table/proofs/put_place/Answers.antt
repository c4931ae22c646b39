use Prim.Native.Nat.{◌+◌, ◌-◌, ◌*◌}
use mathlib.Core.Path.{refl, ap}
use lib.ListN.{set, get_or, length-set}
use Rattle.leader_table.specs.Putting.{Alike, entered, follows, leads}
use native.Mathlib.Omega.{arith}
use Rattle.leader_table.proofs.put_place.Goals as goal
use Rattle.leader_table.proofs.put_place.Goals.{Else-x-eq0}

-- The place in the cell that was found is like place i.
like : (c : Else-x-eq0) → let a = c.args in
    let s = set a.scratch.now (6 * a.n + a.i) c.key_of-key.result in
    Alike a.mask a.n a.m a.to a.known a.last a.cells.now s a.i (get_or s (9 * a.n + c.in-Some.at) 0 - 1)
like c = c.in-Some.ensures.1.like _ (omega arith)

pub returns-then-x-eq0 : goal.returns-then-x-eq0
returns-then-x-eq0 c = let a = c.args in
    entered _ _ (ap (set a.scratch.now (6 * a.n + a.i)) c.key_of-key.ensures) c.in-Some.ensures.0 c.in-Some.ensures.1 c.if-x-eq0.true refl refl

pub returns-then-y-i : goal.returns-then-y-i
returns-then-y-i c = let a = c.args in
    follows _ _ (ap (set a.scratch.now (6 * a.n + a.i)) c.key_of-key.ensures) (like (goal.at.returns-then-y-i c).Else-x-eq0) c.if-y-i.true refl refl

pub bounds-scratch-n-3 : goal.bounds-scratch-n-3
bounds-scratch-n-3 c = simp length-set (omega (arith, c.requires.0.room, c.requires.0.inside, (like (goal.at.bounds-scratch-n-3 c).Else-x-eq0).inside))

pub returns : goal.returns
returns c = let a = c.args in
    let h = like (goal.at.returns c).Else-x-eq0 in
    leads _ _ _ (ap (set a.scratch.now (6 * a.n + a.i)) c.key_of-key.ensures) c.in-Some.ensures.0 c.in-Some.ensures.1 (omega arith) h (omega (arith, h.other)) refl refl
