-- The lines of folded rows, as the cells of scratch tell them.
use Rattle.std.specs.Prelude.{cond, List, [], ℕ, eqb}
use Rattle.losses.specs.Losses.{into_at, loss_to}
use Rattle.loss_text.specs.LossText.{loss_line}

-- The line of row q, which folds into p: none, if that is q itself.
abbrev pub line_to : ℕ → ℕ → List ℕ → List ℕ → ℕ → ℕ → List ℕ
line_to n events cells s q p = cond (eqb p q) [] (loss_line q p (loss_to n events cells s q p).far (loss_to n events cells s q p).run)

-- The line of row q of n.
unfoldable pub line_at : ℕ → ℕ → List ℕ → List ℕ → ℕ → List ℕ
line_at n events cells s q = line_to n events cells s q (into_at n s q)
