-- What a number in an image gives.
use Rattle.std.specs.Prelude.{List, ℕ, ◌+◌, ltb, length, Result, Ok, Err}
use Rattle.rules.specs.Rules.{Verdict, rule}
use Rattle.rules.specs.declared.Rule.TheVariants.{Short}
use Rattle.rules.specs.declared.Refusal.{Refusal}
use Rattle.images.specs.Image.{number_at}

-- What a section gives: its value and the place after it, or a refusal.
abbrev pub Section : Type 0
Section = Result (ℕ × ℕ) Refusal

abbrev pub got : ℕ → ℕ → Section
got value next = Ok (value, next)

-- The image ends before the place; place of the refusal: its length.
abbrev pub cut_rule : List ℕ → ℕ → Verdict
cut_rule b end = rule Short (ltb (length b) end) (length b)

-- What is found once the checks before it are made.
abbrev pub checked : {A : Type 0} → Verdict → Result A Refusal → Result A Refusal
checked (Ok u) found = found
checked (Err r) found = Err r

unfoldable pub number_section : List ℕ → ℕ → Section
number_section b at = checked (cut_rule b (at + 2)) (got (number_at b at) (at + 2))
