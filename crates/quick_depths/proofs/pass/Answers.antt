use Rattle.quick_depths.proofs.Growth.{space_of, grows_then, grows_marked, grows_front}
use mathlib.Core.List.{[]}
use Rattle.quick_depths.proofs.pass.Goals as goal

pub returns : goal.returns
returns c = let n = c.args.n in
    let p = c.requires in
    let v = c.relax in
    let d = v.ensures.1 (space_of p.0) p.1 p.2 in
    (grows_then {n = n} (grows_front {n = n} v.ensures.0.same_length (d 0 []).behind (λ start marks. (d start marks).grown)) (grows_marked c.settle_edge.ensures.0), c.settle_edge.ensures.1)
