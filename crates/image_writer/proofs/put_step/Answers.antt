use mathlib.Core.Path.{sym, ap, ◌∙◌}
use mathlib.Core.List.{[], ◌∷◌}
use Prim.Native.Nat.{ℕ}
use lib.IntN.{ℤ}
use mir.Syntax.{w8}
use mir.ValLaws.{to_z-of_z}
use Rattle.std.specs.Prelude.{Option}
use Rattle.steps.specs.Steps.{byte_of_step}
use Rattle.tables.specs.Lists.{over}
use Rattle.tables.proofs.Over.{over_none, over-set}
use Rattle.images.specs.Image.{step_bytes}
use native.Mathlib.Omega.{arith}
use borrow.Author.Rules.{rules}
use Rattle.image_writer.proofs.put_step.Goals as goal

pub returns-in_default : goal.returns-in_default
returns-in_default c = rw c.in_default.is (sym (over_none c.args.out.now c.args.at))

pub returns-in-Some : goal.returns-in-Some
returns-in-Some c = let a = c.args in
    let d = c.in-Some.d in
    let h = rw c.in-Some.is at c.requires in
    over-set a.out.now a.at c.byte_of.result (omega (arith, h))
    ∙ ap (λ (x : ℕ). over a.out.now a.at (x ∷ [])) (c.byte_of.ensures ∙ ap byte_of_step (to_z-of_z w8 d (search rules)))
    ∙ ap (λ (s : Option ℤ). over a.out.now a.at (step_bytes s)) (sym c.in-Some.is)
