use mathlib.Core.Path.{ap}
use mathlib.Core.Bool.{Bool, cond}
use borrow.Author.Tests.{eq-eqb, ne_eqb}
use Rattle.text.specs.Text.{text}
use Rattle.listing.specs.Listing.{mark_words}
use Rattle.text.proofs.Buffer.{puts_as}
use Rattle.listing.proofs.put_mark.Goals as goal

pub returns-then-mark-eq1 : goal.returns-then-mark-eq1
unfolding mark_words
returns-then-mark-eq1 c = puts_as (ap (λ (b : Bool). cond b (text " ready\n") (text " wait\n")) (eq-eqb _ _ c.if-mark-eq1.true)) c.put_text.ensures

pub returns : goal.returns
unfolding mark_words
returns c = puts_as (ap (λ (b : Bool). cond b (text " ready\n") (text " wait\n")) (ne_eqb _ _ c.if-mark-eq1.false)) c.put_text-2.ensures
