use Rattle.std.proofs.Common.{rules}
use Rattle.text.proofs.Buffer.{puts_first, puts_next}
use Rattle.sheet_text.proofs.put_entries.Invariants.{line}
use Rattle.sheet_text.proofs.put_entries.Goals as goal

pub loop-k-init : goal.loop-k-init
loop-k-init c = puts_first (line c.args.list.now) _ _

pub loop-k-preserved : goal.loop-k-preserved
loop-k-preserved c = search (rules, puts_next (line c.args.list.now))
