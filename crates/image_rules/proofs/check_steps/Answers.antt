use mathlib.Core.Path.{◌≡◌}
use mathlib.Core.Bool.{true}
use Prim.Native.Nat.{◌/◌}
use native.Mathlib.Omega.{arith}
use borrow.Author.Rules.{rules}
use borrow.Author.Tests.{lt-ltb, le-ltb}
use lib.ListN.{length, get_or}
use Rattle.steps.specs.Steps.{step_of}
use Rattle.tables.proofs.Lists.{tabulate-position}
use Rattle.images.specs.Image.{far}
use Rattle.image_rules.proofs.check_steps.Goals as goal

pub returns-then-is_none : goal.returns-then-is_none
returns-then-is_none c = let cells = c.args.cells.now in
    let i = c.loop-i.i in
    let is_far : far (step_of (i / c.args.events) (get_or cells i 0)) ≡ true = search rules in
    let first = tabulate-position _ (length cells) (λ j. j) i (omega arith) c.loop-i.invariant (λ h. is_far) in
    simp (first, lt-ltb i (length cells) (omega arith), c.at.ensures)

pub returns : goal.returns
returns c = let cells = c.args.cells.now in
    let none = tabulate-position _ (length cells) (λ j. j) (length cells) (omega arith) (λ j h. c.loop-i.invariant j (omega arith)) (λ h. absurd (omega arith)) in
    simp (none, le-ltb (length cells) (length cells) (omega arith))
