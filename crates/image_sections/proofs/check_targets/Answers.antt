use mathlib.Core.Path.{◌≡◌, sym, ap, ◌∙◌}
use Prim.Native.Nat.{ℕ, ◌+◌, ◌*◌, ◌/◌}
use native.Mathlib.Omega.{arith}
use borrow.Author.Tests.{le-leb, lt-ltb, le-ltb}
use lib.Dec.{leb}
use Rattle.tables.proofs.Lists.{tabulate-position}
use Rattle.images.specs.Image as Image
use Rattle.images.specs.Image.{target_at}
use Rattle.image_sections.proofs.check_targets.Goals as goal

pub returns-then-rows-target : goal.returns-then-rows-target
returns-then-rows-target c = let a = c.args in
    let i = c.loop-i.i in
    let x = target_at a.form a.image.now (i / a.events) (a.at + Image.width a.form * i) in
    let e : c.target.result ≡ x = c.target.ensures ∙ ap (λ (w : ℕ). target_at a.form a.image.now (i / a.events) (a.at + w * i)) c.width-width.ensures in
    let first = tabulate-position (leb a.rows) a.count _ i (omega arith) c.loop-i.invariant (λ h. le-leb a.rows x (omega (arith, e))) in
    simp (sym c.requires.1, first, lt-ltb i a.count (omega arith), c.at.ensures)

pub returns : goal.returns
returns c = let a = c.args in
    let none = tabulate-position (leb a.rows) a.count _ a.count (omega arith) (λ j h. c.loop-i.invariant j (omega arith)) (λ h. absurd (omega arith)) in
    simp (sym c.requires.1, none, le-ltb a.count a.count (omega arith))
