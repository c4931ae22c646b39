use mathlib.Core.Path.{sym, ap, ◌∙◌}
use Rattle.pairs.proofs.Triangle.{needed-value}
use Rattle.ways.specs.Ways.{need_of}
use Rattle.ways.specs.declared.Way.{Way}
use Rattle.ways.proofs.needed.Goals as goal

pub returns-in-First : goal.returns-in-First
returns-in-First c = let a = c.args in
    c.needed.ensures ∙ sym (needed-value a.rows) ∙ sym (ap (λ (w : Way). need_of w a.rows) c.in-First.is)
