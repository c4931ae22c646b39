-- What the checks of tables come to.
use mathlib.Core.Path.{◌≡◌, refl, sym, ap, ◌∙◌}
use mathlib.Core.List.{List, [], ◌∷◌, ◌++◌}
use Prim.Native.Nat.{ℕ, ◌*◌}
use native.Mathlib.Omega.{arith}
use borrow.Author.Tests.{eq-eqb}
use lib.ListN.{length, take, drop, length-drop}
use Rattle.tables.specs.Table.{Table, mark_byte_count}
use Rattle.tables.proofs.Over.{part_length}
use Rattle.rules.specs.Rules.{Verdict, sound, and_then, judged, row_rule, content_checks, table_of}
use Rattle.rules.proofs.Checks.{inside}
use Rattle.rules.proofs.First.{both-fine, fine_valid, valid_then}
use Rattle.rules.proofs.Judged.{judged-append}
use Rattle.images.specs.declared.Form.TheVariants.{Radio}
use Rattle.images.proofs.Numbers.{Bytes, take_bytes, drop_bytes}
use Rattle.image_rules.specs.Checks.{steps_rule, form_checks, image_checks}
use Rattle.image_rules.proofs.Judged.{image-fine, fits_fine}
use Rattle.packs.specs.Pack.{tables_in, list_of, total, cells_needed, marks_needed, Every, Sendable}
use Rattle.packs.proofs.Tables.{Laid}
use Rattle.packs.proofs.Images.{sendable_laid}
use Rattle.pack_rules.specs.Checks.{size_checks, tables_checks}
use Rattle.pack_rules.proofs.Sizes.{Sized, fine_sized, sized_fine}

module _ (T : Table) where
  -- With 1, 2 and 3 kept, the image writer's checks are 4, 5, 6 and 14.
  image-judged : Sized T.rows T.events → Laid T → judged (image_checks Radio T) ≡ judged ((row_rule T.rows T.start ∷ content_checks T.rows T.cells T.marks) ++ (steps_rule T.events T.cells ∷ []))
  image-judged s t = simp (s.0, s.1, eq-eqb _ _ t.all_cells, eq-eqb _ _ t.all_marks)

  pub tables-judged : Sized T.rows T.events → Laid T → (l : List Table) → judged (tables_checks (T ∷ l)) ≡ and_then (judged (image_checks Radio T)) (judged (tables_checks l))
  unfolding tables_checks
  tables-judged s t l =
      judged-append ((row_rule T.rows T.start ∷ content_checks T.rows T.cells T.marks) ++ (steps_rule T.events T.cells ∷ [])) (tables_checks l)
      ∙ ap (λ (v : Verdict). and_then v (judged (tables_checks l))) (sym (image-judged s t))

  -- A table can be sent just if the image writer finds nothing.
  image_sendable : Bytes T.marks → judged (image_checks Radio T) ≡ sound → Sendable T
  image_sendable bytes e = (fine_valid T (form_checks Radio T.events T.cells) e bytes, (image-fine Radio T e).1)

  pub sendable_image : Sendable T → judged (image_checks Radio T) ≡ sound
  sendable_image (v, f) = valid_then T v (form_checks Radio T.events T.cells) ∙ fits_fine T.events T.cells Radio f

-- Tables of which no check is broken can be sent.
pub fine_sendable : (l cells marks : List ℕ) → judged (size_checks l) ≡ sound → length cells ≡ cells_needed l → length marks ≡ marks_needed l
    → judged (tables_checks (tables_in l cells marks)) ≡ sound → Bytes marks → Every Sendable (tables_in l cells marks)
unfolding size_checks tables_in total
fine_sendable (x ∷ y ∷ z ∷ l) cells marks s hc hm e bytes =
    let p = fine_sized x y (size_checks l) s in
    let T = table_of x y z (take (x * y) cells) (take (mark_byte_count x) marks) in
    let t : Laid T = record { all_cells = part_length cells 0 (x * y) (omega arith); all_marks = part_length marks 0 (mark_byte_count x) (omega arith) } in
    let b = both-fine _ _ (sym (tables-judged T p.0 t (tables_in l (drop (x * y) cells) (drop (mark_byte_count x) marks))) ∙ e) in (
      image_sendable T (take_bytes (mark_byte_count x) marks bytes) b.0,
      fine_sendable l (drop (x * y) cells) (drop (mark_byte_count x) marks) p.1 (omega (arith, length-drop (x * y) cells)) (omega (arith, length-drop (mark_byte_count x) marks)) b.1 (drop_bytes (mark_byte_count x) marks bytes),
    )
fine_sendable [] cells marks s hc hm e bytes = _
fine_sendable (x ∷ []) cells marks s hc hm e bytes = _
fine_sendable (x ∷ y ∷ []) cells marks s hc hm e bytes = _

sendable_sized : (T : Table) → Sendable T → Sized T.rows T.events
sendable_sized T (v, f) = ((inside 1024 T.rows).1 (v.some_row, v.rows_fit), (inside 32 T.events).1 (v.some_event, v.events_fit))

-- Of tables that can be sent no check is broken.
pub sendable_sizes : (l : List Table) → Every Sendable l → judged (size_checks (list_of l)) ≡ sound
unfolding size_checks list_of
sendable_sizes [] h = refl
sendable_sizes (T ∷ l) (t, h) = sized_fine T.rows T.events (size_checks (list_of l)) (sendable_sized T t) ∙ sendable_sizes l h

pub sendable_tables : (l : List Table) → Every Sendable l → judged (tables_checks l) ≡ sound
unfolding tables_checks
sendable_tables [] h = refl
sendable_tables (T ∷ l) (t, h) =
    tables-judged T (sendable_sized T t) (sendable_laid (T ∷ l) (t, h)).0 l ∙ ap (λ (v : Verdict). and_then v (judged (tables_checks l))) (sendable_image T t) ∙ sendable_tables l h
