-- What an accepted call of the writer leaves: the image of a valid table whose targets fit its form, as many bytes as it answers.
use mathlib.Core.Path.{◌≡◌, refl, sym, ap, ◌∙◌}
use mathlib.Core.List.{List, [], ◌∷◌}
use Prim.Native.Nat.{ℕ, ◌+◌, ◌≤◌, ◌<◌}
use native.Mathlib.Omega.{arith}
use borrow.Author.Tests.{ltb-false}
use lib.ListN.{length, get_or, take}
use Rattle.tables.specs.Table.{Table, Valid}
use Rattle.tables.specs.Lists.{over}
use Rattle.tables.proofs.Over.{take-over}
use Rattle.rules.specs.Rules.{Verdict, sound, and_then, judged, room_rule}
use Rattle.std.specs.Prelude.{Ok, Err}
use Rattle.rules.proofs.Checks.{unbroken}
use Rattle.rules.proofs.First.{fine_valid}
use Rattle.rules.proofs.Judged.{judged-append}
use Rattle.images.specs.Image.{image_of, length_of_image, Fits}
use Rattle.images.specs.declared.Form.{Form}
use Rattle.images.proofs.Image.{image-length}
use Rattle.image_rules.specs.Checks.{form_checks, image_checks, written_by}
use Rattle.image_rules.proofs.Judged.{image-fine}
use Rattle.image_writer.specs.Write.{write_checks, written_as, image_by, image_in_as}

-- The writer's checks, one after the other.
passes : (u v : Verdict) → and_then u (and_then v sound) ≡ sound → (u ≡ sound) × (v ≡ sound)
passes (Ok u) (Ok v) e = (refl, refl)
passes (Ok u) (Err r) e = (refl, e)
passes (Err r) v e = let z : ◌≡◌ {A = ℕ} 0 1 = cc in absurd (omega arith)

module _ (F : Form) (T : Table) (bytes : (i : ℕ) → get_or T.marks i 0 < 256) (out : List ℕ) (n : ℕ) where
  fine : (v : Verdict) → written_by F v T ≡ Ok n → (v ≡ sound) × (n ≡ length_of_image F T.rows T.events)
  fine (Ok u) e = (refl, cc)
  fine (Err r) e = let z : ◌≡◌ {A = ℕ} 0 1 = cc in absurd (omega arith)

  -- A written image is that of a valid table whose targets fit, and nothing beyond it is touched.
  pub written-image : written_as F T (length out) ≡ Ok n → Valid T × Fits F T × (take n (image_in_as F T out) ≡ image_of F T)
  unfolding written_as image_in_as
  written-image e =
      let room : ℕ = length out in
      let f = fine (judged (write_checks F T room)) e in
      let p = passes (judged (image_checks F T)) (room_rule (length_of_image F T.rows T.events) room)
      (sym (judged-append (image_checks F T) (room_rule (length_of_image F T.rows T.events) room ∷ [])) ∙ f.0) in
      let v = fine_valid T (form_checks F T.events T.cells) p.0 bytes in
      let fit = (image-fine F T p.0).1 in
      let fits : length_of_image F T.rows T.events ≤ room = ltb-false _ _ (unbroken _ _ _ p.1) in
      let long = image-length F T v fit in
      let same : n ≡ 0 + length (image_of F T) = omega (arith, f.1, long) in (
        v,
        fit,
        ap (λ (u : Verdict). take n (image_by F u T out)) f.0 ∙ ap (λ (k : ℕ). take k (over out 0 (image_of F T))) same
            ∙ take-over out 0 (image_of F T) (omega (arith, long)),
      )
