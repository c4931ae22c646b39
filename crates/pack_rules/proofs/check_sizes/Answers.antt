use mathlib.Core.Path.{◌≡◌, sym, ap, ◌∙◌}
use Prim.Native.Nat.{◌+◌, ◌*◌}
use Rattle.rules.specs.Rules.{judged}
use Rattle.pack_rules.proofs.Sizes.{sizes_here, sizes_none}
use native.Mathlib.Omega.{arith}
use Rattle.pack_rules.proofs.check_sizes.Goals as goal

pub loop-i-preserved : goal.loop-i-preserved
loop-i-preserved c = let l = c.loop-i in
    let next : 3 * (l.i + 1) ≡ 3 * l.i + 3 = omega arith in
    rw next (sym (sizes_here c.args.list.now (3 * l.i) (omega arith) _ c.winch-limits.ensures _ c.entry_at-table.ensures ∙ simp (sym c.beyond.ensures.0 ∙ c.if-beyond.false, sym c.beyond-in-loop-i.ensures.0 ∙ c.if-beyond-2.false)) ∙ l.invariant)

pub returns : goal.returns
returns c = let l = c.loop-i in
    sym (ap judged (sizes_none c.args.list.now (3 * l.i) (omega arith) (omega arith))) ∙ l.invariant

pub returns-then-beyond : goal.returns-then-beyond
returns-then-beyond c = let l = c.loop-i in
    rw c.at.ensures (sym (sizes_here c.args.list.now (3 * l.i) (omega arith) _ c.winch-limits.ensures _ c.entry_at-table.ensures ∙ simp (sym c.beyond.ensures.0 ∙ c.if-beyond.true)) ∙ l.invariant)

pub returns-then-beyond-2 : goal.returns-then-beyond-2
returns-then-beyond-2 c = let l = c.loop-i in
    rw c.at-then-beyond-2.ensures (sym (sizes_here c.args.list.now (3 * l.i) (omega arith) _ c.winch-limits.ensures _ c.entry_at-table.ensures ∙ simp (sym c.beyond.ensures.0 ∙ c.if-beyond.false, sym c.beyond-in-loop-i.ensures.0 ∙ c.if-beyond-2.true)) ∙ l.invariant)
