use mathlib.Core.Path.{sym, ◌∙◌}
use Rattle.image_sections.specs.Read.{at_most}
use Rattle.image_sections.proofs.Sections.{marks_got}
use Rattle.image_sections.proofs.judge.Goals as goal

pub targets_section-requires : goal.targets_section-requires
targets_section-requires c = let a = c.args in
    marks_got a.limits (at_most a.small) a.image.now _ _ (sym c.marks_section.ensures ∙ c.in_ok-rows.was)
