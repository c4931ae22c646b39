-- What a section that was opened, or not, says of the bytes.
use mathlib.Core.Path.{◌≡◌, refl, subst}
use mathlib.Core.List.{List, [], ◌∷◌}
use Prim.Native.Nat.{ℕ, ◌+◌, ◌/◌, ◌<◌}
use native.Mathlib.Omega.{arith}
use lib.ListN.{get_or}
use Rattle.tables.specs.Table.{mark_byte_count}
use Rattle.std.specs.Prelude.{Ok, Err}
use Rattle.image_numbers.specs.Numbers.{Section, got, cut_rule, checked, number_section}
use Rattle.image_numbers.proofs.Numbers.{got-same}
use Rattle.image_sections.specs.Sections.{opened, section_of_marks}
use Rattle.rules.specs.Rules.{Verdict, sound, judged, outside, rows_rule, spare_rule}
use Rattle.rules.specs.declared.Limits.{Limits}
use Rattle.rules.specs.declared.Rule.TheVariants.{Rows}
use Rattle.rules.proofs.Checks.{unbroken, passed, inside}

-- A section that was got passed its checks.
pub checked_got : (v : Verdict) (s : Section) (value next : ℕ) → checked v s ≡ got value next → (v ≡ sound) × (s ≡ got value next)
checked_got (Ok u) s value next e = (refl, e)
checked_got (Err r) s value next e = let z : ◌≡◌ {A = ℕ} 0 1 = cc in absurd (omega arith)

some_row : (L : Limits) (rows : ℕ) (l : List Verdict) → judged (rows_rule L rows ∷ l) ≡ sound → 0 < rows
some_row L rows l e = ((inside L.rows rows).0 (unbroken Rows (outside L.rows rows) 0 (passed (rows_rule L rows ∷ l) e 0))).0

-- The row count of an opened marks section is not 0.
pub marks_got : (L : Limits) (few : ℕ → Verdict) (b : List ℕ) (rows next : ℕ) → section_of_marks L few b ≡ got rows next → 0 < rows
unfolding section_of_marks
marks_got L few b rows next e = pick (number_section b 0) e
  where
    after : ℕ → ℕ → List Verdict
    after r at = few r ∷ cut_rule b (at + mark_byte_count r) ∷ spare_rule r (get_or b (at + r / 8) 0) ∷ []

    pick : (s : Section) → opened s (λ r at. checked (judged (rows_rule L r ∷ after r at)) (got r (at + mark_byte_count r))) ≡ got rows next → 0 < rows
    pick (Ok (r, at)) h =
        let c = checked_got (judged (rows_rule L r ∷ after r at)) (got r (at + mark_byte_count r)) rows next h in
        subst (λ (k : ℕ). 0 < k) (got-same c.1).0 (some_row L r (after r at) c.0)
    pick (Err e) h = let z : ◌≡◌ {A = ℕ} 0 1 = cc in absurd (omega arith)
