use mathlib.Core.Path.{◌≡◌}
use lib.ListN.{take}
use Rattle.tables.specs.Lists.{over}
use Rattle.images.specs.Image.{targets}
use Rattle.image_writer.proofs.put_targets.Given as goal

abbrev pub invariant-loop-i : goal.invariant-loop-i
invariant-loop-i l = l.out ≡ over l.initial.out l.at (targets l.form l.events (take l.i l.cells))
