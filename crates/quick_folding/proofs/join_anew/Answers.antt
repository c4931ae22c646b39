use Rattle.leaders.proofs.Regions.{kept_then, sizes_anew}
use Rattle.leaders.proofs.Begin.{begun_anew, joins-before}
use Rattle.quick_folding.proofs.Grouping.{emptied, emptied_kept, if_known}
use Rattle.quick_folding.proofs.join_anew.Goals as goal

pub returns : goal.returns
returns c = let p = c.requires in
    let k = emptied_kept (emptied p.0.few p.0.room c.clear.ensures) in
    let b = p.2 in (
      kept_then k c.join-lost.ensures.0,
      rw c.then_some.ensures (if_known _ c.join-lost.result
          (λ h. joins-before p.0.inside b.hand k p.1 (c.join-lost.ensures.1 (sizes_anew p.0 k) p.1 (begun_anew p.0.inside b.hand k b) h))),
    )
