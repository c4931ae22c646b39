use mathlib.Core.Path.{sym, ◌∙◌}
use mathlib.Core.Bool.{false≢true}
use native.Mathlib.Omega.{arith}
use Rattle.scratch.proofs.Tallies.{tally-one}
use Rattle.classes.proofs.Singles.{looked, sole_place}
use Rattle.classes.proofs.Level.sole.Goals as goal
use Rattle.classes.proofs.Level.sole.Goals.{then-once, else-once, then-once-2, else-once-2}

pub bounds-self-row : goal.bounds-self-row
bounds-self-row c = let p = c.requires in (looked p.0 p.1 c.args.a p.2 c.args.i p.3).cell

pub bounds-scratch-self-2 : goal.bounds-scratch-self-2
bounds-scratch-self-2 c = let p = c.requires in omega (arith, (looked p.0 p.1 c.args.a p.2 c.args.i p.3).target_low, p.0.room)

pub bounds-scratch-self-3 : goal.bounds-scratch-self-3
bounds-scratch-self-3 c = let p = c.requires in omega (arith, (looked p.0 p.1 c.args.a p.2 c.args.i p.3).place_low, p.0.room)

pub returns-then-once-3 : goal.returns-then-once-3
returns-then-once-3 c e =
    let p = c.requires in
    elim c.if-once-2.branch [
      | then-once-2 w ↦ elim c.if-once.branch [
        | then-once v ↦
            sole_place p.0 p.1 c.args.a p.2 p.3 (looked p.0 p.1 c.args.a p.2 c.args.i p.3)
            (tally-one _ _ _ _ (c.once.ensures.holds v.if-once.true).one)
            (tally-one _ _ _ _ (v.once-then-once.ensures.holds (sym v.value-is ∙ w.if-once-2.true)).one)
            (tally-one _ _ _ _ (w.once-then-once-2.ensures.holds (sym w.value-is ∙ c.if-once-3.true)).one)
            (tally-one _ _ _ _ (c.once-then-once-3.ensures.holds e).one)
        | else-once v ↦ absurd (false≢true (sym v.if-once.false ∙ sym v.value-is ∙ w.if-once-2.true))
      ]
      | else-once-2 w ↦ absurd (false≢true (sym w.if-once-2.false ∙ sym w.value-is ∙ c.if-once-3.true))
    ]
