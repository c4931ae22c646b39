use mathlib.Core.Path.{◌∙◌}
use Rattle.quick_folding.proofs.Entering.{shape}
use Rattle.quick_folding.proofs.Losses.{before_more, noting, noted-apart, parted-next, parted-rest, kept_same, tabled-noted, parted_at}
use Rattle.quick_folding.proofs.Tabling.{tabled_none, tells_none}
use native.Mathlib.Omega.{arith}
use Rattle.quick_folding.proofs.parting.part_level.Goals as goal

pub any_level-made-requires : goal.any_level-made-requires
any_level-made-requires c = let a = c.args in
    let p = c.requires in
    (p.0, before_more a.mask p.0 p.1 p.2, omega (arith, p.3, (shape p.0).rows_fit), λ z. (p.4 z, omega arith), p.5)

pub note_losses-requires : goal.note_losses-requires
note_losses-requires c = let a = c.args in
    let p = c.requires in
    noting a.mask p.0 p.1 p.2 c.any_level-made.ensures.0 p.3

pub returns-then-made : goal.returns-then-made
returns-then-made c = let a = c.args in
    let p = c.requires in
    let e = c.any_level-made.ensures in
    let d = c.note_losses.ensures in
    let s = c.standing.ensures in
    (noted-apart a.mask p.0 p.1 p.2 e.0 d, parted_at s.2 s.1 (parted-rest a.mask p.0 p.1 p.2 e.0 d p.3 c.if-made.true), s.0 ∙ p.2, omega (arith, s.2, p.3), omega (arith, s.2), tabled_none (tells_none (omega arith) s.4))

pub returns : goal.returns
returns c = let a = c.args in
    let p = c.requires in
    let e = c.any_level-made.ensures in
    let d = c.note_losses.ensures in (
      noted-apart a.mask p.0 p.1 p.2 e.0 d,
      parted_at e.2 (kept_same a.mask p.0 p.1 p.2 e.0 d) (parted-next a.mask p.0 p.1 p.2 e.0 d),
      e.1 ∙ p.2,
      omega (arith, e.2),
      omega (arith, e.2, p.3),
      tabled-noted a.mask p.0 p.1 p.2 e.0 d e.3,
    )
