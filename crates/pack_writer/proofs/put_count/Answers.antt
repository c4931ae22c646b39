use mathlib.Core.Path.{◌≡◌}
use Prim.Native.Nat.{◌/◌, ◌%◌}
use Rattle.tables.proofs.Over.{over_two}
use native.Mathlib.Omega.{arith}
use Rattle.pack_writer.proofs.put_count.Goals as goal

pub returns : goal.returns
returns c = let a = c.args in
    let low : a.count % 256 ≡ a.count = omega (arith, c.requires) in
    let high : a.count / 256 % 256 ≡ 0 = omega (arith, c.requires) in
    rw (low, high) (over_two a.out.now 0 a.count 0 c.requires.1)
