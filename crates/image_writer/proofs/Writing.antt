-- What the writer's checks come to.
use mathlib.Core.Path.{◌≡◌, refl, sym, ap, ◌∙◌}
use mathlib.Core.List.{List, [], ◌∷◌}
use Prim.Native.Nat.{ℕ, ◌≤◌, ◌<◌}
use borrow.Author.Tests.{lt-ltb, le-ltb}
use lib.ListN.{length}
use Rattle.tables.specs.Table.{Table}
use Rattle.rules.specs.Rules.{Verdict, sound, refusal, judged, room_rule}
use Rattle.std.specs.Prelude.{Err}
use Rattle.rules.specs.declared.Refusal.{Refusal}
use Rattle.rules.specs.declared.Rule.TheVariants.{Room}
use Rattle.rules.proofs.Judged.{refused-first, fine-first}
use Rattle.images.specs.Image.{length_of_image}
use Rattle.images.specs.declared.Form.{Form}
use Rattle.image_rules.specs.Checks.{Written, image_checks, written_by}
use Rattle.image_writer.specs.Write.{write_checks, written_as, image_by, image_in_as}

module _ (F : Form) (T : Table) where
  module _ (room : ℕ) where
    abbrev last : List Verdict
    last = room_rule (length_of_image F T.rows T.events) room ∷ []

    pub write-refused : (r : Refusal) → judged (image_checks F T) ≡ Err r → judged (write_checks F T room) ≡ Err r
    write-refused r e = sym (refused-first (image_checks F T) last (judged (image_checks F T)) r refl e)

    write_then : judged (image_checks F T) ≡ sound → judged (write_checks F T room) ≡ judged last
    write_then e = sym (fine-first (image_checks F T) last (judged (image_checks F T)) refl e)

    pub write-short : judged (image_checks F T) ≡ sound → room < length_of_image F T.rows T.events → judged (write_checks F T room) ≡ Err (refusal Room 0)
    write-short e h = write_then e ∙ simp (lt-ltb room (length_of_image F T.rows T.events) h)

    pub write-fine : judged (image_checks F T) ≡ sound → length_of_image F T.rows T.events ≤ room → judged (write_checks F T room) ≡ sound
    write-fine e h = write_then e ∙ simp (le-ltb room (length_of_image F T.rows T.events) h)

  -- The writer's two promises, from what its checks come to.
  pub writes : (out exit : List ℕ) (r : Written) (v : Verdict) → judged (write_checks F T (length out)) ≡ v → r ≡ written_by F v T → exit ≡ image_by F v T out
      → (r ≡ written_as F T (length out)) × (exit ≡ image_in_as F T out)
  unfolding written_as image_in_as
  writes out exit r v e hr hx = (hr ∙ ap (λ (u : Verdict). written_by F u T) (sym e), hx ∙ ap (λ (u : Verdict). image_by F u T out) (sym e))
