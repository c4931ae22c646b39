use Rattle.std.proofs.Common.{rules}
use Rattle.leader_table.proofs.alike.Goals as goal

pub returns-then-settled : goal.returns-then-settled
returns-then-settled c = record {
  holds = λ e. record { inside = search rules; other = search rules; leads = search rules; key = search rules; settled = search rules; signed = c.same.ensures.holds e };
  fails = λ e z. c.same.ensures.fails e z.signed;
}
