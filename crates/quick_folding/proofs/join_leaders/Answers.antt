use Rattle.std.proofs.lemmas.Option.{IfSome_then}
use Rattle.leaders.specs.Leaders.{Kept}
use Rattle.leaders.proofs.Regions.{kept_none, kept_then}
use Rattle.leaders.proofs.Begin.{joins-before}
use Rattle.quick_folding.proofs.join_leaders.Goals as goal
use Rattle.quick_folding.proofs.join_leaders.Goals.{then-known-gt0+else-lost-le1024, else-known-gt0}

pub returns : goal.returns
returns c = let p = c.requires in
    let k : Kept c.args.n c.args.scratch.now c.if-known-gt0.scratch = elim c.if-known-gt0.branch [
      | then-known-gt0+else-lost-le1024 w ↦ rw w.scratch-is w.join-lost.ensures.0
      | else-known-gt0 w ↦ rw w.scratch-is kept_none
    ] in
    let t = c.if-not-plain.false in
    (kept_then k c.join_anew.ensures.0, IfSome_then c.join_anew.result c.join_anew.ensures.1 (λ x h. (h.0, t, joins-before p.0.inside (p.2 t).hand k p.1 h.1)))
