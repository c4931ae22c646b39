use Prim.Native.Nat.{◌/◌, ◌%◌}
use Rattle.tables.proofs.Over.{over_two}
use Rattle.image_writer.proofs.put_number.Goals as goal

pub returns : goal.returns
returns c = over_two c.args.out.now c.args.at (c.args.n % 256) (c.args.n / 256 % 256) c.requires
