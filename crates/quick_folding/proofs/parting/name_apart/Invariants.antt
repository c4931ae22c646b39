use Rattle.quick_folding.specs.Parts.{Valued}
use Rattle.quick_folding.specs.Parting.{apart_at}
use Rattle.quick_folding.proofs.parting.name_apart.Given as goal

abbrev pub invariant-loop-q : goal.invariant-loop-q
invariant-loop-q l = Valued l.n l.q (apart_at l.n l.initial.scratch) l.initial.scratch l.scratch
