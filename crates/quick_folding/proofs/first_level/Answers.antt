use mathlib.Core.Bool.{false≢true}
use Rattle.quick_folding.proofs.Entering.{shape}
use Rattle.quick_folding.proofs.Ending.{searching, clear_laid, clear_fits, before-first, first_made, before_at, going_at}
use Rattle.quick_folding.proofs.Tabling.{tabled_none, tells_none}
use native.Mathlib.Omega.{arith}
use Rattle.quick_folding.proofs.first_level.Goals as goal

pub overflow_mul-n : goal.overflow_mul-n
overflow_mul-n c = omega (arith, (shape c.requires.0).rows_fit)

pub overflow_mul-n-2 : goal.overflow_mul-n-2
overflow_mul-n-2 c = omega (arith, (shape c.requires.0).rows_fit)

pub until-j-requires : goal.until-j-requires
until-j-requires c = let a = c.args in
    let p = c.requires in
    let e = c.clear.ensures in
    searching a.mask (clear_fits a.mask p.0 p.1 e) (clear_laid a.mask p.0 p.1 e) p.2 (omega arith)

pub any_level-made-requires : goal.any_level-made-requires
any_level-made-requires c = let a = c.args in
    let p = c.requires in
    let e = c.clear.ensures in
    let n = c.standing-none.ensures in
    (clear_fits a.mask p.0 p.1 e, before_at n.0 n.1 (before-first a.mask p.0 p.1 e p.2 c.until-j.ensures), omega arith, λ z. absurd (false≢true z), tabled_none (tells_none (omega arith) n.4))

pub returns : goal.returns
returns c = let a = c.args in
    let p = c.requires in
    let m = first_made a.mask p.0 p.1 c.clear.ensures c.any_level-made.ensures.0 in
    let n = c.standing.ensures in
    (m.0, going_at n.2 n.0 n.1 n.3 m.1, n.2, tells_none (omega arith) n.4)
