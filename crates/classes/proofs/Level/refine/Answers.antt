use mathlib.Core.Path.{◌≡◌, sym, ◌∙◌}
use Rattle.classes.proofs.Moves.{filled-ready, inner_ready, inner_inside, refined-mark, refined-outer, refined-one, refined-inner}
use Rattle.classes.proofs.Level.refine.Goals as goal

pub returns-in-Marks : goal.returns-in-Marks
returns-in-Marks c =
    let p = c.requires in
    let fill = c.by_mark.ensures in
    refined-mark p.0 c.args.i p.2 (rw c.in-Marks.is at p.3) fill (c.split.ensures.0 (filled-ready p.1.inside p.0.canon fill p.1))

pub returns-in-Event : goal.returns-in-Event
returns-in-Event c =
    let p = c.requires in
    let fill = c.by_event.ensures in
    refined-outer p.0 c.args.i p.2 c.in-Event.a (rw c.in-Event.is at p.3) (sym c.is_outer.ensures ∙ c.if-is_outer.true) fill (c.split-in-Event.ensures.0 (filled-ready p.1.inside p.0.canon fill p.1))

pub returns-in-Event-2 : goal.returns-in-Event-2
returns-in-Event-2 c =
    let p = c.requires in
    let same : c.in-Event-2.a ≡ c.in-Event.a = cc in
    refined-one p.0 c.args.i p.2 c.in-Event-2.a (rw c.in-Event-2.is at p.3) (rw (same, sym c.is_outer.ensures) c.if-is_outer.false) c.part_at.ensures

pub leap-requires : goal.leap-requires
leap-requires c =
    let p = c.requires in
    let d = rw c.in-Event-3.is at p.3 in
    (inner_ready p.0 p.1 d.0 c.by_event-in-Event-3.ensures, inner_inside p.0 p.1 d.0 c.by_event-in-Event-3.ensures)

pub returns-in-Event-3 : goal.returns-in-Event-3
returns-in-Event-3 c =
    let p = c.requires in
    let same : c.in-Event-3.a ≡ c.in-Event.a = cc in
    let d = rw c.in-Event-3.is at p.3 in
    refined-inner p.0 p.1 d.0 c.by_event-in-Event-3.ensures (rw (same, sym c.is_outer.ensures) c.if-is_outer.false) c.leap.ensures p.2 d
