use mathlib.Core.Path.{refl}
use Rattle.quick_folding.proofs.Ending.{searching, level-low, onward, next-above, next_fits, before-next, going_at}
use native.Mathlib.Omega.{arith}
use Rattle.quick_folding.proofs.next_level.Goals as goal

pub next-level-requires : goal.next-level-requires
next-level-requires c = let a = c.args in
    let p = c.requires in
    onward a.mask p.0 p.1 (omega (arith, p.2, p.3))

pub until-j-requires : goal.until-j-requires
until-j-requires c = let a = c.args in
    let p = c.requires in
    searching a.mask p.0 p.1.swept.gone.laid p.2 (omega (arith, p.3))

pub any_level-requires : goal.any_level-requires
any_level-requires c = let a = c.args in
    let p = c.requires in
    let e = c.next-level.ensures in
    let l = next-above a.mask p.0 p.1 (omega (arith, p.2, p.3)) e in
    (p.0, before-next a.mask p.0 p.1 (omega (arith, p.2, p.3)) e p.2 c.until-j.ensures, next_fits a.mask p.0 p.1 (omega (arith, p.2, p.3)) e, λ z. (p.4 z, omega arith), p.5)

pub returns : goal.returns
returns c = let a = c.args in
    let p = c.requires in
    let r = c.any_level.ensures in
    let up = next-above a.mask p.0 p.1 (omega (arith, p.2, p.3)) c.next-level.ensures in
    (r.0.apart, going_at r.2 r.1 refl refl (record { swept = r.0.swept; rests = λ e. r.0.rests e (omega arith) }), omega (arith, r.2), level-low a.mask p.0 p.1 (omega (arith, p.2, p.3)), r.3)
