use Rattle.quick_folding.specs.Parts.{Wrote}
use Rattle.apart.specs.Steps.{apart_at}
use Rattle.apart.proofs.put_all.Given as goal

abbrev pub invariant-loop-q : goal.invariant-loop-q
invariant-loop-q l = Wrote l.at l.q (λ p. apart_at l.rows l.initial.scratch p l.rows) l.initial.scratch l.scratch
