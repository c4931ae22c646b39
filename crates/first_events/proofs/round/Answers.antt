use Rattle.tables.proofs.Counted.{mask_light}
use Rattle.rules.specs.Rules.{table_of}
use Rattle.first_events.proofs.Whole.{round-none, round-some}
use Rattle.first_events.proofs.round.Goals as goal

pub returns-then-sweep : goal.returns-then-sweep
returns-then-sweep c = let a = c.args in
    round-some c.requires.given (mask_light a.mask (table_of a.rows a.events 0 a.cells.now a.marks.now)) c.requires.most_bound c.sweep.ensures c.sweep-then-sweep.ensures

pub returns : goal.returns
returns c = let a = c.args in
    round-none c.requires.given (mask_light a.mask (table_of a.rows a.events 0 a.cells.now a.marks.now)) c.requires.most_bound c.sweep.ensures c.if-sweep.false
