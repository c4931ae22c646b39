-- What a program prints for an image is shorter than its buffer, whatever it reads, if the text of a table within the limits is.
use mathlib.Core.Path.{◌≡◌, refl, subst}
use mathlib.Core.Bool.{Bool, true, false, not}
use mathlib.Core.List.{List}
use Prim.Native.Nat.{ℕ, ◌+◌, ◌/◌, ◌%◌, ◌≤◌, ◌<◌}
use native.Mathlib.Omega.{arith}
use borrow.Author.Tests.{ltb-true, ltb-false, leb-false}
use lib.Dec.{eqb, leb, ltb}
use lib.ListN.{length, get_or}
use Rattle.tables.specs.Lists.{position}
use Rattle.tables.specs.Table.{Table}
use Rattle.tables.proofs.Lists.{tabulate-length}
use Rattle.rules.specs.Rules.{Verdict, sound, refusal, number_of, rule, and_then, judged, winch, outside}
use Rattle.std.specs.Prelude.{Ok, Err}
use Rattle.rules.specs.declared.Rule.{Rule}
use Rattle.rules.specs.declared.Refusal.{Refusal}
use Rattle.rules.specs.declared.Rule.TheVariants.{Count, Events, Large, Row, Rows, Short, SpareMark, Target, Trailing}
use Rattle.rules.proofs.Checks.{unbroken, passed, all_inside}
use Rattle.marks.specs.Marks.{spare_bits_set}
use Rattle.images.specs.Image.{number_at, targets_at, start_at, end_at, cells_at, table_in}
use Rattle.images.specs.declared.Form.TheVariants.{Plain}
use Rattle.image_numbers.specs.Numbers.{cut_rule, checked}
use Rattle.image_sections.specs.Read.{targets_rule, at_most, shape, read_checks, read_of}
use Rattle.text.proofs.Short.{Small}
use Rattle.lines.proofs.Short.{refusal_short}
use Rattle.image_text.specs.ImageText.{text_of, text_of_image}
use Rattle.image_text.proofs.Few.{whole-rows, few_events, few-targets}

-- ---- a refusal

-- Its number and place are small.
record Little (v : Verdict) : Type 0 where
  small : (r : Refusal) → v ≡ Err r → Small (number_of r.rule) × Small r.place

little_then : {u v : Verdict} → Little u → (u ≡ sound → Little v) → Little (and_then u v)
little_then {u} {v} h g = pick u h g
  where
    pick : (u : Verdict) → Little u → (u ≡ sound → Little v) → Little (and_then u v)
    pick (Ok u) h g = g refl
    pick (Err r) h g = h

little_rule : (r : Rule) (t : Bool) (place : ℕ) → Small (number_of r) → (t ≡ true → Small place) → Little (rule r t place)
little_rule r true place h g = record { small = λ x e. let same : refusal r place ≡ x = cc in subst (λ (y : Refusal). Small (number_of y.rule) × Small y.place) same (h, g refl) }
little_rule r false place h g = record { small = λ x e. let z : ◌≡◌ {A = ℕ} 0 1 = cc in absurd (omega arith) }

-- A rule that names no place.
little : (r : Rule) (t : Bool) → Small (number_of r) → Little (rule r t 0)
little r t h = little_rule r t 0 h (λ e. omega arith)

module _ (b : List ℕ) (rows count one start : ℕ) where
  abbrev checks : List Verdict
  checks = read_checks true Plain winch (at_most 128) b rows count one start

  cut : (end : ℕ) → end ≤ 10000 → Little (cut_rule b end)
  cut end h = little_rule Short (ltb (length b) end) (length b) (omega arith) (λ t. omega (arith, ltb-true (length b) end t))

  target : count ≤ 4096 → Little (targets_rule Plain b rows (targets_at rows + 2) count)
  target most =
      let p = position (leb rows) (cells_at Plain b (count / rows) (targets_at rows + 2) count) in
      little_rule Target (ltb p count) p (omega arith) (λ t. omega (arith, ltb-true p count t))

  -- The place of 8 lies before an end that is bounded by then; that of 5 is one of the targets.
  checks_little : Little (judged checks)
  checks_little =
      little_then (cut 2 (omega arith)) (λ e₀.
      little_then (little Rows (outside 1024 rows) (omega arith)) (λ e₁.
      little_then (little Large (ltb 128 rows) (omega arith)) (λ e₂.
      let few : rows ≤ 128 = ltb-false 128 rows (unbroken Large (ltb 128 rows) 0 e₂) in
      little_then (cut (targets_at rows) (omega arith)) (λ e₃.
      little_then (little SpareMark (spare_bits_set rows (get_or b (2 + rows / 8) 0)) (omega arith)) (λ e₄.
      little_then (cut (targets_at rows + 2) (omega arith)) (λ e₅.
      little_then (little Count (not (eqb (count % rows) 0)) (omega arith)) (λ e₆.
      little_then (little Events (outside 32 (count / rows)) (omega arith)) (λ e₇.
      let most : count ≤ 4096 = few-targets rows count e₆ e₇ few in
      little_then (cut (start_at Plain rows count) (omega arith)) (λ e₈.
      little_then (target most) (λ e₉.
      little_then (cut (start_at Plain rows count + 2) (omega arith)) (λ e₁₀.
      little_then (little Count (not (eqb one 1)) (omega arith)) (λ e₁₁.
      little_then (cut (end_at Plain rows count) (omega arith)) (λ e₁₂.
      little_then (little Row (leb rows start) (omega arith)) (λ e₁₃.
      little_then (little Trailing (ltb (end_at Plain rows count) (length b)) (omega arith)) (λ e₁₄.
      record { small = λ r e. let z : ◌≡◌ {A = ℕ} 0 1 = cc in absurd (omega arith) })))))))))))))))

-- ---- an image

-- A table of at most 128 rows and 32 events whose targets and start are rows; its mark bytes may be anything.
pub record Inside (T : Table) : Type 0 where
  pub few_rows : T.rows ≤ 128
  pub events_few : T.events ≤ 32
  pub start_inside : T.start < T.rows
  pub cells_in : (i : ℕ) → i < length T.cells → get_or T.cells i 0 < T.rows

module _ (f : Table → List ℕ) (most : ℕ) (room : 20 ≤ most) (each : (T : Table) → Inside T → length (f T) ≤ most) where
  -- The numbers that stand in the image.
  module _ (b : List ℕ) (rows count one start : ℕ) where
    text_short : (j : Verdict) → judged (checks b rows count one start) ≡ j → length (text_of f b (checked j (Ok (shape rows (count / rows) start)))) ≤ most
    text_short (Err r) e =
        let s = (checks_little b rows count one start).small r e in
        omega (arith, refusal_short (number_of r.rule) r.place s.0 s.1)
    text_short (Ok u) e =
        let at = passed (checks b rows count one start) e in
        let cells = (all_inside rows (cells_at Plain b (count / rows) (targets_at rows + 2) count) count (tabulate-length _ _)).0 (unbroken _ _ _ (at 9)) in
        each (table_in b rows (count / rows) start) record {
          few_rows = ltb-false 128 rows (unbroken _ _ _ (at 2));
          events_few = few_events rows count (at 6) (at 7);
          start_inside = leb-false rows start (unbroken _ _ _ (at 13));
          cells_in = λ i h. rw (whole-rows rows count (at 6)) (cells i (omega (arith, rw (whole-rows rows count (at 6), tabulate-length) at h)));
        }

  -- For every list, also one that is none of bytes.
  pub image_short : (b : List ℕ) → length (text_of_image f b) ≤ most
  unfolding text_of_image read_of
  image_short b =
      let rows = number_at b 0 in
      let count = number_at b (targets_at rows) in
      text_short b rows count (number_at b (start_at Plain rows count)) (number_at b (start_at Plain rows count + 2)) _ refl
