use mathlib.Core.Path.{◌≡◌, sym, ap, ◌∙◌}
use Prim.Native.Nat.{ℕ, ◌+◌, ◌*◌, ◌/◌}
use native.Mathlib.Numerals.{add-one}
use lib.ListN.{length, get_or}
use Rattle.tables.specs.Lists.{over}
use Rattle.tables.proofs.Over.{over_none}
use Rattle.images.specs.Image.{width, target_bytes}
use Rattle.images.proofs.Sections.{Wide, section-none, section-next}
use Rattle.images.proofs.Targets.{target_length, width-below}
use native.Mathlib.Omega.{arith}
use Rattle.image_writer.proofs.put_targets.Goals as goal

pub loop-i-init : goal.loop-i-init
loop-i-init c = let a = c.args in
    sym (ap (over a.out.now a.at) (section-none _) ∙ over_none a.out.now a.at)

pub loop-i-preserved : goal.loop-i-preserved
loop-i-preserved c = let a = c.args in
    let l = c.loop-i in
    let x = get_or a.cells.now l.i 0 in
    let w = width-below a.form l.i (length a.cells.now) (omega arith) in
    let wide : Wide (width a.form) (λ i y. target_bytes a.form (i / a.events) y) a.cells.now = λ i h. target_length a.form (i / a.events) _ (c.requires.2 i h) in
    let e : c.put_target.new.out ≡ over l.out (a.at + width a.form * l.i) (target_bytes a.form (l.i / a.events) x) = c.put_target.ensures ∙ ap (λ (k : ℕ). over l.out (a.at + k * l.i) (target_bytes a.form (l.i / a.events) x)) c.width-width.ensures in
    rw (add-one, e, l.invariant) (section-next (width a.form) (λ i y. target_bytes a.form (i / a.events) y) a.out.now a.at a.cells.now l.i wide (omega arith) (omega (arith, w)))
