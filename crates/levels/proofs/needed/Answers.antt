use mathlib.Core.Path.{sym}
use Rattle.levels.proofs.Cells.{need-endless, need-none, need-some}
use Rattle.levels.proofs.needed.Goals as goal

pub returns-then-lead-eq-ENDLESS : goal.returns-then-lead-eq-ENDLESS
returns-then-lead-eq-ENDLESS c = let a = c.args in sym (need-endless a.offset a.lead c.if-lead-eq-ENDLESS.true)

pub returns-then-offset-lead : goal.returns-then-offset-lead
returns-then-offset-lead c = let a = c.args in sym (need-none a.offset a.lead c.if-lead-eq-ENDLESS.false c.if-offset-lead.true)

pub returns : goal.returns
returns c = let a = c.args in need-some a.offset a.lead c.if-lead-eq-ENDLESS.false
