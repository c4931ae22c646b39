use Rattle.quick_folding.specs.Parts.{fold_at, Valued}
use Rattle.quick_folding.proofs.name_folds.Given as goal

abbrev pub invariant-loop-q : goal.invariant-loop-q
invariant-loop-q l = Valued l.n l.q (fold_at l.n l.initial.scratch) l.initial.scratch l.scratch
