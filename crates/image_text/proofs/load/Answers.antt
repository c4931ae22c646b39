use mathlib.Core.Path.{refl, sym, ap}
use Rattle.image_text.specs.Loaded.{cell_count, byte_count}
use Rattle.image_text.proofs.Taken.{loads}
use Rattle.image_text.proofs.load.Goals as goal

pub returns-in_default : goal.returns-in_default
returns-in_default c = let e = c.in_default.is in
    loads c.args.image.now (λ i. (c.type_inv.image i).fits) c.winch.ensures c.read_within-read.ensures refl (ap cell_count (sym e)) (ap byte_count (sym e))

pub returns : goal.returns
returns c = loads c.args.image.now (λ i. (c.type_inv.image i).fits) c.winch.ensures c.read_within-read.ensures c.in-Ok.is refl c.mark_bytes-bytes.ensures
