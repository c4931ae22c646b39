use Prim.Native.Nat.{◌*◌}
use Rattle.pack_writer.proofs.Writing.{Going}
use Rattle.pack_writer.proofs.put_images.Given as goal

abbrev pub invariant-loop-i : goal.invariant-loop-i
invariant-loop-i l = Going l.list l.cells l.marks l.initial.out l.out (3 * l.i) l.cell l.mark l.to
