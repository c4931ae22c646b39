use native.Mathlib.Omega.{arith}
use Rattle.renumbering.proofs.Lining.{line-empty, empty-frame, first-there, lines-all}
use Rattle.renumbering.proofs.line_up.Goals as goal

pub join-requires : goal.join-requires
join-requires c = let p = c.requires in
    (p.0.rows_fit, omega arith, c.fold_of-first.ensures.1, line-empty p.0 _ p.1 _ c.clear.ensures)

pub go_through-requires : goal.go_through-requires
go_through-requires c = let p = c.requires in
    let first = c.fold_of-first in
    let j = c.join in
    (p.0, first-there p.0 _ _ (empty-frame p.0 _ p.1 _ c.clear.ensures) first.result 0 j.new.scratch j.new.scratch first.ensures.0 j.ensures.1 j.ensures.2)

pub returns : goal.returns
returns c = let p = c.requires in
    let first = c.fold_of-first in
    let j = c.join in
    let g = c.go_through in
    lines-all p.0 _ _ (empty-frame p.0 _ p.1 _ c.clear.ensures) first.result g.result j.new.scratch g.new.scratch first.ensures.0 j.ensures.1 j.ensures.2 g.ensures.0 g.ensures.1
