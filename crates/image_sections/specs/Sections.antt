-- What an image says, section by section as the code goes. proofs/Order.antt: it is what Read.antt says.
use Rattle.std.specs.Prelude.{Bool, not, List, [], ◌∷◌, ℕ, ◌+◌, ◌*◌, ◌/◌, ◌%◌, eqb, get_or, Result, Ok, Err}
use Rattle.tables.specs.Table.{mark_byte_count}
use Rattle.rules.specs.Rules.{Verdict, rule, judged, rows_rule, events_rule, row_rule, spare_rule}
use Rattle.rules.specs.declared.Limits.{Limits}
use Rattle.rules.specs.declared.Rule.TheVariants.{Count}
use Rattle.rules.specs.declared.Refusal.{Refusal}
use Rattle.images.specs.Image.{width}
use Rattle.images.specs.declared.Form.{Form}
use Rattle.image_numbers.specs.Numbers.{Section, got, cut_rule, checked, number_section}
use Rattle.image_sections.specs.Read.{Read, shape, targets_rule, end_checks}

-- A section's value and next place go on to what follows; a refusal is the answer.
abbrev pub opened : {A : Type 0} → Section → (ℕ → ℕ → Result A Refusal) → Result A Refusal
opened (Ok (value, next)) f = f value next
opened (Err r) f = Err r

unfoldable pub section_of_marks : Limits → (ℕ → Verdict) → List ℕ → Section
section_of_marks L few b =
    opened (number_section b 0) (λ rows at.
    checked (judged (rows_rule L rows ∷ few rows ∷ cut_rule b (at + mark_byte_count rows) ∷ spare_rule rows (get_or b (at + rows / 8) 0) ∷ []))
    (got rows (at + mark_byte_count rows)))

unfoldable pub section_of_targets : Form → Limits → List ℕ → ℕ → ℕ → Section
section_of_targets F L b rows place =
    opened (number_section b place) (λ count at.
    checked (judged (rule Count (not (eqb (count % rows) 0)) 0 ∷ events_rule L (count / rows) ∷ cut_rule b (at + width F * count) ∷ targets_rule F b rows at count ∷ []))
    (got (count / rows) (at + width F * count)))

unfoldable pub section_of_start : List ℕ → ℕ → ℕ → Section
section_of_start b rows place =
    opened (number_section b place) (λ count at. checked (rule Count (not (eqb count 1)) 0)
    (opened (number_section b at) (λ start next. checked (row_rule rows start) (got start next))))

-- The sections in order; then 10, of an image that stands alone.
unfoldable pub sections_read : Bool → Form → Limits → (ℕ → Verdict) → List ℕ → Read
sections_read alone F L few b =
    opened (section_of_marks L few b) (λ rows at. opened (section_of_targets F L b rows at) (λ events next. opened (section_of_start b rows next) (λ start end.
    checked (judged (end_checks alone b end)) (Ok (shape rows events start)))))
