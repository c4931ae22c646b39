-- What the checks come to.
use mathlib.Core.Path.{◌≡◌, refl}
use mathlib.Core.Bool.{false}
use mathlib.Core.List.{List}
use Prim.Native.Nat.{ℕ, ◌/◌, ◌<◌}
use lib.ListN.{length, get_or}
use Rattle.steps.specs.Steps.{step_of}
use Rattle.tables.specs.Table.{Table}
use Rattle.tables.specs.Lists.{tabulate}
use Rattle.tables.proofs.Lists.{tabulate-length, tabulate-at}
use Rattle.rules.specs.Rules.{sound, judged, winch}
use Rattle.rules.proofs.Checks.{unbroken, passed, none_passes}
use Rattle.rules.proofs.First.{parts}
use Rattle.rules.proofs.Shape.{Shape, table-fine}
use Rattle.images.specs.Image.{far, too_far, Fits}
use Rattle.images.specs.declared.Form.{Form}
use Rattle.images.specs.declared.Form.TheVariants.{Plain, Radio}
use Rattle.image_rules.specs.Checks.{form_checks, image_checks}

-- What a form asks of the targets is kept just if they fit it.
module _ (events : ℕ) (cells : List ℕ) where
  abbrev n : ℕ
  n = length cells

  at_place : (i : ℕ) → i < n → get_or (tabulate n (λ j. j)) i 0 ≡ i
  at_place i h = tabulate-at n (λ j. j) i 0 h

  pub fine_fits : (F : Form) → judged (form_checks F events cells) ≡ sound → (i : ℕ) → i < length cells → too_far F (i / events) (get_or cells i 0) ≡ false
  fine_fits Plain e i h = refl
  fine_fits Radio e i h =
      let none = (none_passes (λ j. far (step_of (j / events) (get_or cells j 0))) (tabulate n (λ j. j)) n (tabulate-length n _)).0 (unbroken _ _ _ (passed (form_checks Radio events cells) e 0)) i h in
      rw at_place at none

  pub fits_fine : (F : Form) → ((i : ℕ) → i < length cells → too_far F (i / events) (get_or cells i 0) ≡ false) → judged (form_checks F events cells) ≡ sound
  fits_fine Plain h = refl
  fits_fine Radio h =
      rw ((none_passes (λ j. far (step_of (j / events) (get_or cells j 0))) (tabulate n (λ j. j)) n (tabulate-length n _)).1 (λ i g. rw (at_place i g) (h i g)))

module _ (F : Form) (T : Table) where
  -- A table that passes the checks has the right shape, and its targets fit the form.
  pub image-fine : judged (image_checks F T) ≡ sound → Shape winch T × Fits F T
  image-fine e = let p = parts T (form_checks F T.events T.cells) e in ((table-fine winch T p.0).0, fine_fits T.events T.cells F p.1)
