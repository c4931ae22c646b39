-- Judging the images: what all of them need is what those before the place need and, more, those from it on.
use mathlib.Core.Path.{◌≡◌, refl, sym, ap, ap₂, ◌∙◌}
use mathlib.Core.List.{List}
use Prim.Native.Nat.{ℕ, suc, ◌+◌, ◌-◌, ◌*◌, ◌≤◌, ◌<◌}
use native.Mathlib.Nat.{add_assoc}
use native.Mathlib.Omega.{arith}
use lib.ListN.{length, drop, length-drop}
use Rattle.tables.specs.Table.{Table, mark_byte_count}
use Rattle.images.specs.Image.{length_of_image, table_as}
use Rattle.images.specs.declared.Form.TheVariants.{Radio}
use Rattle.images.proofs.Numbers.{Bytes, drop_bytes}
use Rattle.image_sections.specs.Read.{shape}
use Rattle.std.specs.Prelude.{Result, Ok, Err}
use Rattle.rules.specs.Rules.{refusal}
use Rattle.rules.specs.declared.Rule.TheVariants.{Trailing}
use Rattle.rules.specs.declared.Refusal.{Refusal}
use Rattle.packs.specs.Pack.{list_of, total}
use Rattle.pack_images.specs.Images.{Found, with_table, refusal_in, images_read}
use Rattle.pack_images.specs.Judge.{needs, needed_by, more}
use Rattle.pack_images.specs.declared.Needs.{Needs}
use Rattle.pack_images.proofs.Walk.{front, next_of, front_sendable, front-whole, images_next, images_refused, images_end, images_more}

needed_with : (T : Table) (F : Found) → needed_by (with_table T F) ≡ more (T.rows * T.events) (mark_byte_count T.rows) (needed_by F)
unfolding list_of total
needed_with T (Ok l) = refl
needed_with T (Err r) = refl

more-more : (c m x y : ℕ) (N : Result Needs Refusal) → more c m (more x y N) ≡ more (c + x) (m + y) N
more-more c m x y (Ok n) = ap₂ (λ u v. Ok (needs u v)) (sym (add_assoc c x n.cells)) (sym (add_assoc m y n.marks))
more-more c m x y (Err r) = refl

more-none : (c m : ℕ) → more c m (Ok (needs 0 0)) ≡ Ok (needs c m)
more-none c m = ap₂ (λ u v. Ok (needs u v)) (omega arith) (omega arith)

-- i images were judged, up to the place `at`; they need so many cells and mark bytes.
pub record Judging (whole : ℕ) (b : List ℕ) (count i at cells marks : ℕ) : Type 0 where
  pub i_in : i ≤ count
  pub at_in : at ≤ length b
  pub in_few_cells : cells ≤ at
  pub few_marks : marks ≤ at
  pub sum : needed_by (images_read whole count b) ≡ more cells marks (needed_by (images_read whole (count - i) (drop at b)))

pub judging_begin : (whole : ℕ) (b : List ℕ) (count : ℕ) → Judging whole b count 0 0 0 0
judging_begin whole b count =
    let all : count - 0 ≡ count = omega arith in
    record { i_in = omega arith; at_in = omega arith; in_few_cells = omega arith; few_marks = omega arith; sum = rw all (none (needed_by (images_read whole count b))) }
  where
    none : (N : Result Needs Refusal) → N ≡ more 0 0 N
    none (Ok n) = ap₂ (λ u v. Ok (needs u v)) (omega arith) (omega arith)
    none (Err r) = refl

module _ {whole : ℕ} {b : List ℕ} {count i at cells marks : ℕ} (j : Judging whole b count i at cells marks) where
  module _ (h : i < count) where
    left : count - i ≡ suc (count - suc i)
    left = omega arith

    pub judging-refused : (r : Refusal) → front (drop at b) ≡ Err r → needed_by (images_read whole count b) ≡ Err (refusal_in whole r)
    judging-refused r e =
        j.sum ∙ ap (λ (n : ℕ). more cells marks (needed_by (images_read whole n (drop at b)))) left
        ∙ ap (λ (F : Found). more cells marks (needed_by F)) (images_refused whole (count - suc i) (drop at b) r e)

    module _ (bytes : Bytes b) (rows events start : ℕ) (e : front (drop at b) ≡ Ok (shape rows events start)) where
      pub few_rows : rows ≤ 1024
      few_rows = (front_sendable (drop at b) (drop_bytes at b bytes) rows events start e).0.rows_fit

      pub few_events : events ≤ 32
      few_events = (front_sendable (drop at b) (drop_bytes at b bytes) rows events start e).0.events_fit

      pub image-inside : at + length_of_image Radio rows events ≤ length b
      image-inside = omega (arith, front-whole (drop at b) (drop_bytes at b bytes) rows events start e, length-drop at b, j.at_in)

      pub judging-next : Judging whole b count (suc i) (at + length_of_image Radio rows events) (cells + rows * events) (marks + mark_byte_count rows)
      judging-next =
          record {
            i_in = omega arith;
            at_in = image-inside;
            in_few_cells = omega (arith, j.in_few_cells);
            few_marks = omega (arith, j.few_marks);
            sum = j.sum ∙ ap (λ (n : ℕ). more cells marks (needed_by (images_read whole n (drop at b)))) left
                ∙ ap (λ (F : Found). more cells marks (needed_by F)) (images_next whole (count - suc i) (drop at b) rows events start e)
                ∙ ap (more cells marks) (needed_with (table_as Radio (drop at b) rows events start) (images_read whole (count - suc i) (drop (length_of_image Radio rows events) (drop at b))))
                ∙ more-more cells marks (rows * events) (mark_byte_count rows) (needed_by (images_read whole (count - suc i) (drop (length_of_image Radio rows events) (drop at b))))
                ∙ ap (λ (d : List ℕ). more (cells + rows * events) (marks + mark_byte_count rows) (needed_by (images_read whole (count - suc i) d))) (next_of b at (length_of_image Radio rows events));
          }

  -- All were judged.
  module _ (h : count ≤ i) where
    done : count - i ≡ 0
    done = omega arith

    last : needed_by (images_read whole count b) ≡ more cells marks (needed_by (images_read whole 0 (drop at b)))
    last = j.sum ∙ ap (λ (n : ℕ). more cells marks (needed_by (images_read whole n (drop at b)))) done

    pub judging-more : at < length b → needed_by (images_read whole count b) ≡ Err (refusal Trailing 0)
    judging-more g = last ∙ ap (λ (F : Found). more cells marks (needed_by F)) (images_more whole (drop at b) (omega (arith, length-drop at b)))

    pub judging-end : length b ≤ at → needed_by (images_read whole count b) ≡ Ok (needs cells marks)
    unfolding list_of total
    judging-end g = last ∙ ap (λ (F : Found). more cells marks (needed_by F)) (images_end whole (drop at b) (omega (arith, length-drop at b))) ∙ more-none cells marks

-- How judging ends, for the check to find.
pub ruleset judging_ends = (judging-more, judging-end)
