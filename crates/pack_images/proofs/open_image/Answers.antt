use mathlib.Core.Path.{ap, ◌∙◌}
use mathlib.Core.Bool.{false}
use Rattle.rules.specs.Rules.{winch}
use Rattle.rules.specs.declared.Limits.{Limits}
use Rattle.image_sections.specs.Read.{at_most, read_of}
use Rattle.image_sections.proofs.Order.{image-order, no_twelve}
use Rattle.pack_images.proofs.open_image.Goals as goal

pub returns : goal.returns
returns c = let a = c.args in
    let b = a.image.now in
    c.judge.ensures ∙ image-order false a.form _ _ b ∙ ap (λ (L : Limits). read_of false a.form L (at_most L.rows) b) c.winch-limits.ensures ∙ no_twelve false a.form winch b
