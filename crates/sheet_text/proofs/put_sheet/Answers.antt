use mathlib.Core.Path.{sym, ap}
use lib.ListN.{length, get_or}
use Rattle.text.specs.Text.{joined}
use Rattle.lines.specs.Lines.{pair_line}
use Rattle.text.proofs.Buffer.{puts_as, puts_then}
use Rattle.sheet_text.specs.Sheet.{none_line, sheet_lines}
use Rattle.sheet_text.proofs.put_sheet.Goals as goal

pub returns : goal.returns
unfolding sheet_lines
returns c = let a = c.args in
    puts_then (puts_then {t = joined (length a.list.now) (λ k. pair_line k (get_or a.list.now k 0))} c.put_head-headed.ensures c.put_entries-entered.ensures)
    (puts_as (ap none_line (sym c.last.ensures)) c.put_none.ensures)
