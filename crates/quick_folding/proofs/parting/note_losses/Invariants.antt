use Prim.Native.Nat.{◌*◌}
use Rattle.quick_folding.specs.Parts.{Wrote}
use Rattle.quick_folding.specs.Parting.{loss_at}
use Rattle.quick_folding.proofs.parting.note_losses.Given as goal

abbrev pub invariant-loop-c : goal.invariant-loop-c
invariant-loop-c l = Wrote (8 * l.n) l.c (loss_at l.n l.level l.initial.scratch) l.initial.scratch l.scratch
