-- What is judged of a table before its image is written, and what its writer answers.
use Rattle.std.specs.Prelude.{List, [], ◌∷◌, ◌++◌, ℕ, ◌/◌, ltb, length, get_or, Result, Ok, Err}
use Rattle.steps.specs.Steps.{step_of}
use Rattle.tables.specs.Table.{Table}
use Rattle.tables.specs.Lists.{tabulate, position}
use Rattle.rules.specs.Rules.{Verdict, rule, winch, table_checks}
use Rattle.rules.specs.declared.Rule.TheVariants.{Step}
use Rattle.rules.specs.declared.Refusal.{Refusal}
use Rattle.images.specs.Image.{far, length_of_image}
use Rattle.images.specs.declared.Form.{Form}
use Rattle.images.specs.declared.Form.TheVariants.{Plain, Radio}

-- The place of the first cell whose step is too far; cell i belongs to row i / events.
abbrev pub first_far_step : ℕ → List ℕ → ℕ
first_far_step events cells = position (λ i. far (step_of (i / events) (get_or cells i 0))) (tabulate (length cells) (λ i. i))

-- 14: a step is outside −128 to 127; place: the first such cell.
abbrev pub steps_rule : ℕ → List ℕ → Verdict
steps_rule events cells = rule Step (ltb (first_far_step events cells) (length cells)) (first_far_step events cells)

-- What a form asks of the targets.
abbrev pub form_checks : Form → ℕ → List ℕ → List Verdict
form_checks Plain events cells = []
form_checks Radio events cells = steps_rule events cells ∷ []

-- Rules 1 to 6, and 14 for a radio image.
abbrev pub image_checks : Form → Table → List Verdict
image_checks F T = table_checks winch T ++ form_checks F T.events T.cells

-- What a writer answers: how many bytes it wrote, or a refusal.
abbrev pub Written : Type 0
Written = Result ℕ Refusal

-- The answer: the length of the image, or the refusal.
abbrev pub written_by : Form → Verdict → Table → Written
written_by F (Ok u) T = Ok (length_of_image F T.rows T.events)
written_by F (Err r) T = Err r
