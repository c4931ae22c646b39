use Rattle.tables.proofs.Counted.{mask_light}
use Rattle.rules.specs.Rules.{table_of}
use Rattle.first_events.proofs.Whole.{ends-reached}
use Rattle.first_events.proofs.search.Goals as goal

pub rounds-requires-clause-reached : goal.rounds-requires-clause-reached
rounds-requires-clause-reached c = let a = c.args in
    ends-reached c.requires.given (mask_light a.mask (table_of a.rows a.events 0 a.cells.now a.marks.now)) c.requires.distances c.sweep.ensures
