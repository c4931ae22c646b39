use mathlib.Core.Path.{sym, ◌∙◌}
use borrow.Author.Count.{below_more}
use borrow.Author.Tests.{eqb-true}
use Rattle.classes.proofs.Level.tell_apart.Goals as goal

pub loop-a-preserved : goal.loop-a-preserved
loop-a-preserved c = below_more _ _ c.loop-a.invariant (eqb-true _ _ (sym c.same_at.ensures ∙ c.if-not-same_at.false))
