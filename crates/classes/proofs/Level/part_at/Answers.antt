use Prim.Native.Nat.{◌<◌}
use native.Mathlib.Omega.{arith}
use Rattle.splitting.specs.Places.{nxt_at}
use Rattle.classes.specs.Steps.{led_by}
use Rattle.classes.proofs.Parts.{parts_like, parts_else}
use Rattle.classes.proofs.Singles.{single_out}
use Rattle.classes.proofs.Level.part_at.Goals as goal

pub returns-then-sole : goal.returns-then-sole
returns-then-sole c = let a = c.args in
    let v = a.self.now in
    let p = c.requires in
    let s = a.scratch.now in
    single_out v.n (λ j. nxt_at v.n s (led_by v s a.a j)) s a.i p.0.inside p.0.room p.3 p.4 p.5 (c.sole.ensures c.if-sole.true)

pub part-requires : goal.part-requires
part-requires c = let a = c.args in
    let v = a.self.now in
    let p = c.requires in
    (p.0, p.1, p.2, (parts_like v.n (led_by v a.scratch.now a.a) a.scratch.now a.i p.3 (λ j h. (p.1 j h).places a.a p.2) p.4 p.5 c.led_to-v.result c.led_to-v.ensures c.if-v-c.true).0)

pub returns-then-v-c : goal.returns-then-v-c
returns-then-v-c c = let a = c.args in
    let v = a.self.now in
    let p = c.requires in
    c.part.ensures a.i p.4 (parts_like v.n (led_by v a.scratch.now a.a) a.scratch.now a.i p.3 (λ j h. (p.1 j h).places a.a p.2) p.4 p.5 c.led_to-v.result c.led_to-v.ensures c.if-v-c.true).1

pub led_to-w-requires : goal.led_to-w-requires
led_to-w-requires c = let p = c.requires in
    let l : nxt_at c.args.self.now.n c.args.scratch.now c.args.i < c.args.self.now.to = omega (arith, p.3.down c.args.i p.4) in
    (p.0, p.1 _ l, l, p.2)

pub returns : goal.returns
returns c = let a = c.args in
    let v = a.self.now in
    let p = c.requires in
    c.part-2.ensures a.i p.4 (parts_else v.n (led_by v a.scratch.now a.a) a.scratch.now a.i p.3 (λ j h. (p.1 j h).places a.a p.2) p.4 p.5 c.led_to-v.result c.led_to-w.result c.led_to-v.ensures c.if-v-c.false c.led_to-w.ensures).1
