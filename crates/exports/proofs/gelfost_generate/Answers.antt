use mathlib.Core.Path.{ap, ◌∙◌}
use Rattle.answers.specs.Answers.{of_verdict}
use Rattle.exports.proofs.Kept.{load_kept}
use Rattle.exports.proofs.gelfost_generate.Goals as goal

pub returns : goal.returns
returns c = let w = load_kept _ _ _ _ _ _ _ c.generate-verdict.ensures in
    (c.put_verdict.ensures ∙ ap of_verdict w.0, w.1)
