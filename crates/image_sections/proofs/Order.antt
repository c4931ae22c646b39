-- The sections one after the other make the checks of Read.antt, in the order of document 01.
use mathlib.Core.Path.{◌≡◌, refl}
use mathlib.Core.Bool.{Bool, true, false}
use mathlib.Core.List.{List}
use Prim.Native.Nat.{ℕ}
use borrow.Author.Tests.{le-ltb}
use Rattle.std.specs.Prelude.{Result, Ok, Err}
use Rattle.rules.specs.Rules.{Verdict, rule, and_then, outside, rows_rule}
use Rattle.rules.specs.declared.Rule.TheVariants.{Rows}
use Rattle.rules.specs.declared.Refusal.{Refusal}
use Rattle.rules.proofs.Checks.{inside}
use Rattle.images.specs.Image.{number_at}
use Rattle.images.specs.declared.Form.{Form}
use Rattle.rules.specs.declared.Limits.{Limits}
use Rattle.image_numbers.specs.Numbers.{Section, checked, number_section}
use Rattle.image_sections.specs.Read.{any_rows, at_most, read_of}
use Rattle.image_sections.specs.Sections.{opened, section_of_marks, section_of_targets, section_of_start, sections_read}

opened_opened : {A : Type 0} (s : Section) (f : ℕ → ℕ → Section) (g : ℕ → ℕ → Result A Refusal) → opened (opened s f) g ≡ opened s (λ x y. opened (f x y) g)
opened_opened (Ok (value, next)) f g = refl
opened_opened (Err r) f g = refl

opened_checked : {A : Type 0} (v : Verdict) (s : Section) (g : ℕ → ℕ → Result A Refusal) → opened (checked v s) g ≡ checked v (opened s g)
opened_checked (Ok u) s g = refl
opened_checked (Err r) s g = refl

checked_then : {A : Type 0} (u v : Verdict) (x : Result A Refusal) → checked (and_then u v) x ≡ checked u (checked v x)
checked_then (Ok u) v x = refl
checked_then (Err r) v x = refl

-- The sections one after the other say what the image says.
pub image-order : (alone : Bool) (F : Form) (L : Limits) (few : ℕ → Verdict) (b : List ℕ) → sections_read alone F L few b ≡ read_of alone F L few b
unfolding read_of sections_read section_of_marks section_of_targets section_of_start number_section
image-order alone F L few b = simp (opened_opened, opened_checked, checked_then)

-- Rows that the limit allows are not above it.
never_twelve : (L : Limits) (rows : ℕ) (v : Verdict) → and_then (rows_rule L rows) (and_then (at_most L.rows rows) v) ≡ and_then (rows_rule L rows) v
never_twelve L rows v = pick (outside L.rows rows) refl
  where
    pick : (t : Bool) → outside L.rows rows ≡ t → and_then (rule Rows t 0) (and_then (at_most L.rows rows) v) ≡ and_then (rule Rows t 0) v
    pick true e = refl
    pick false e = rw (le-ltb L.rows rows ((inside L.rows rows).0 e).1)

-- So a reader that asks for no more rows than the limit never gives 12.
pub no_twelve : (alone : Bool) (F : Form) (L : Limits) (b : List ℕ) → read_of alone F L (at_most L.rows) b ≡ read_of alone F L any_rows b
unfolding read_of
no_twelve alone F L b = rw (never_twelve L (number_at b 0))
