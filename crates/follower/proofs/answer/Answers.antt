use borrow.Author.Tests.{lt-leb}
use Rattle.rules.specs.Rules.{lent, offset_of}
use Rattle.follower.proofs.Answering.{shown_is}
use Rattle.follower.proofs.answer.Goals as goal

pub returns : goal.returns
returns c = let a = c.args in
    rw (shown_is (offset_of a.offset) (lent a.table) a.f.row a.f.count, ← c.checked.ensures, c.in_ok-checked.was, lt-leb _ _ c.if-table-row.false, c.mark-ready.ensures, c.is_settled.ensures)
