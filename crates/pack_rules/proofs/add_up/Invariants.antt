use Prim.Native.Nat.{◌*◌}
use Rattle.tables.specs.Table.{mark_byte_count}
use Rattle.images.specs.Image.{length_of_image}
use Rattle.images.specs.declared.Form.TheVariants.{Radio}
use Rattle.pack_rules.proofs.Sums.{Summed}
use Rattle.pack_rules.proofs.add_up.Given as goal

abbrev pub invariant-loop-i : goal.invariant-loop-i
invariant-loop-i l = Summed (λ r e. r * e) 0 l.list (3 * l.i) l.cells × Summed (λ r e. mark_byte_count r) 0 l.list (3 * l.i) l.marks × Summed (length_of_image Radio) 2 l.list (3 * l.i) l.bytes
