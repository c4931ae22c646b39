-- An image longer than any sound one is judged by its first bytes: more of them change nothing.
use mathlib.Core.Path.{◌≡◌, refl, sym, ap, ◌∙◌}
use mathlib.Core.Bool.{true, not}
use mathlib.Core.List.{List, [], ◌∷◌, ◌++◌}
use Prim.Native.Nat.{ℕ, ◌+◌, ◌*◌, ◌/◌, ◌%◌, ◌≤◌, ◌<◌}
use native.Mathlib.Omega.{arith}
use borrow.Author.Tests.{le-ltb, lt-ltb, ltb-false}
use lib.Dec.{eqb, leb, ltb}
use lib.ListN.{length, get_or, length-append, get_or-append}
use Rattle.tables.specs.Lists.{position}
use Rattle.tables.specs.Table.{Table}
use Rattle.tables.proofs.Lists.{tabulate-same}
use Rattle.rules.specs.Rules.{Verdict, sound, refusal, rule, and_then, judged, winch, rows_rule, events_rule, row_rule, spare_rule}
use Rattle.std.specs.Prelude.{Ok, Err}
use Rattle.rules.specs.declared.Refusal.{Refusal}
use Rattle.rules.specs.declared.Rule.TheVariants.{Count, Large, Target, Trailing}
use Rattle.rules.proofs.Checks.{unbroken, passed}
use Rattle.images.specs.Image.{number_at, cells_at, targets_at, start_at, end_at}
use Rattle.images.specs.declared.Form.TheVariants.{Plain}
use Rattle.image_numbers.specs.Numbers.{cut_rule, checked}
use Rattle.image_sections.specs.Read.{at_most, targets_rule, read_checks, shape, read_of, image_read}
use Rattle.image_text.specs.ImageText.{text_of, text_of_image}
use Rattle.image_text.proofs.Few.{few-targets}

-- Two rows of checks that say the same first, and go on the same if that is fine.
first_same : {u v x y : Verdict} → u ≡ v → (v ≡ sound → x ≡ y) → and_then u x ≡ and_then v y
first_same {u} {v} {x} {y} e h = ap (λ (w : Verdict). and_then w x) e ∙ after v h
  where
    after : (v : Verdict) → (v ≡ sound → x ≡ y) → and_then v x ≡ and_then v y
    after (Ok u) h = h refl
    after (Err r) h = refl

not_cut : (b : List ℕ) (end : ℕ) → end ≤ length b → cut_rule b end ≡ sound
not_cut b end h = rw (le-ltb (length b) end h)

module _ (b rest : List ℕ) (long : 8217 ≤ length b) where
  abbrev c : List ℕ
  c = b ++ rest

  longer : length b ≤ length c
  longer = omega (arith, length-append b rest)

  byte_same : (i : ℕ) → i < length b → get_or c i 0 ≡ get_or b i 0
  byte_same i h = get_or-append b rest 0 i h

  number_same : (i : ℕ) → i + 1 < length b → number_at c i ≡ number_at b i
  number_same i h = rw (byte_same i (omega arith), byte_same (i + 1) h)

  cut_same : (end : ℕ) → end ≤ 8217 → cut_rule c end ≡ cut_rule b end
  cut_same end h = not_cut c end (omega (arith, longer)) ∙ sym (not_cut b end (omega arith))

  abbrev rows : ℕ
  rows = number_at b 0

  module _ (few : rows ≤ 128) where
    abbrev count : ℕ
    count = number_at b (targets_at rows)

    count_same : number_at c (targets_at rows) ≡ count
    count_same = number_same (targets_at rows) (omega arith)

    module _ (small : count ≤ 4096) where
      one_same : number_at c (start_at Plain rows count) ≡ number_at b (start_at Plain rows count)
      one_same = number_same (start_at Plain rows count) (omega arith)

      start-same : number_at c (start_at Plain rows count + 2) ≡ number_at b (start_at Plain rows count + 2)
      start-same = number_same (start_at Plain rows count + 2) (omega arith)

      cells_same : cells_at Plain c (count / rows) (targets_at rows + 2) count ≡ cells_at Plain b (count / rows) (targets_at rows + 2) count
      cells_same = tabulate-same count _ _ (λ i h. number_same (targets_at rows + 2 + 2 * i) (omega arith))

      too_long : (d : List ℕ) → 8217 ≤ length d → rule Trailing (ltb (end_at Plain rows count) (length d)) 0 ≡ Err (refusal Trailing 0)
      too_long d h = rw (lt-ltb (end_at Plain rows count) (length d) (omega arith))

  -- The checks from the targets on; those from the marks on; all of them.
  abbrev last_checks : List ℕ → ℕ → List Verdict
  last_checks d n =
      cut_rule d (start_at Plain rows n)
      ∷ targets_rule Plain d rows (targets_at rows + 2) n
      ∷ cut_rule d (start_at Plain rows n + 2)
      ∷ rule Count (not (eqb (number_at d (start_at Plain rows n)) 1)) 0
      ∷ cut_rule d (end_at Plain rows n)
      ∷ row_rule rows (number_at d (start_at Plain rows n + 2))
      ∷ rule Trailing (ltb (end_at Plain rows n) (length d)) 0
      ∷ []

  abbrev mid_checks : List ℕ → ℕ → List Verdict
  mid_checks d n =
      cut_rule d (targets_at rows)
      ∷ spare_rule rows (get_or d (2 + rows / 8) 0)
      ∷ cut_rule d (targets_at rows + 2)
      ∷ rule Count (not (eqb (n % rows) 0)) 0
      ∷ events_rule winch (n / rows)
      ∷ last_checks d n

  abbrev all_checks : List ℕ → List Verdict
  all_checks d = cut_rule d 2 ∷ rows_rule winch rows ∷ at_most 128 rows ∷ mid_checks d (number_at d (targets_at rows))

  last_same : (few : rows ≤ 128) → count few ≤ 4096 → judged (last_checks c (count few)) ≡ judged (last_checks b (count few))
  last_same few small =
      first_same (cut_same (start_at Plain rows (count few)) (omega arith)) (λ e₀.
      first_same (ap (λ (l : List ℕ). rule Target (ltb (position (leb rows) l) (count few)) (position (leb rows) l)) (cells_same few small)) (λ e₁.
      first_same (cut_same (start_at Plain rows (count few) + 2) (omega arith)) (λ e₂.
      first_same (ap (λ (n : ℕ). rule Count (not (eqb n 1)) 0) (one_same few small)) (λ e₃.
      first_same (cut_same (end_at Plain rows (count few)) (omega arith)) (λ e₄.
      first_same (ap (row_rule rows) (start-same few small)) (λ e₅.
      first_same (too_long few small c (omega (arith, longer)) ∙ sym (too_long few small b long)) (λ e₆. refl)))))))

  mid_same : (few : rows ≤ 128) → judged (mid_checks c (count few)) ≡ judged (mid_checks b (count few))
  mid_same few =
      first_same (cut_same (targets_at rows) (omega arith)) (λ e₀.
      first_same (ap (spare_rule rows) (byte_same (2 + rows / 8) (omega arith))) (λ e₁.
      first_same (cut_same (targets_at rows + 2) (omega arith)) (λ e₂.
      first_same {u = rule Count (not (eqb (count few % rows) 0)) 0} refl (λ e₃.
      first_same {u = events_rule winch (count few / rows)} refl (λ e₄.
      last_same few (few-targets rows (count few) e₃ e₄ few))))))

  all_same : judged (all_checks c) ≡ judged (all_checks b)
  all_same =
      first_same (cut_same 2 (omega arith)) (λ e₀.
      first_same {u = rows_rule winch rows} refl (λ e₁.
      first_same {u = at_most 128 rows} refl (λ e₂.
      let few : rows ≤ 128 = ltb-false 128 rows (unbroken Large (ltb 128 rows) 0 e₂) in
      ap (λ (n : ℕ). judged (mid_checks c n)) (count_same few) ∙ mid_same few)))

  -- Some check refuses it: the last one, if none before.
  refuses : (j : Verdict) → judged (all_checks b) ≡ j → (r : Refusal) × (j ≡ Err r)
  refuses (Err r) e = (r, refl)
  refuses (Ok u) e =
      let at = passed (all_checks b) e in
      let few : rows ≤ 128 = ltb-false 128 rows (unbroken Large (ltb 128 rows) 0 (at 2)) in
      let small = few-targets rows (count few) (at 6) (at 7) few in
      let end : length b ≤ end_at Plain rows (count few) = ltb-false _ _ (unbroken Trailing (ltb (end_at Plain rows (count few)) (length b)) 0 (at 14)) in
      absurd (omega arith)

  broken : (r : Refusal) × (judged (all_checks b) ≡ Err r)
  broken = refuses (judged (all_checks b)) refl

  rows_same : number_at c 0 ≡ rows
  rows_same = number_same 0 (omega arith)

  -- It is refused, and by the same rule at the same place with more bytes or without.
  long_refused : (image_read winch (at_most 128) b ≡ Err broken.0) × (image_read winch (at_most 128) c ≡ Err broken.0)
  unfolding read_of
  long_refused = (
    ap (λ (j : Verdict). checked j (Ok (shape rows (number_at b (targets_at rows) / rows) (number_at b (start_at Plain rows (number_at b (targets_at rows)) + 2))))) broken.1,
    ap (λ (r : ℕ).
        let n = number_at c (targets_at r) in
        checked (judged (read_checks true Plain winch (at_most 128) c r n (number_at c (start_at Plain r n)) (number_at c (start_at Plain r n + 2)))) (Ok (shape r (n / r) (number_at c (start_at Plain r n + 2))))) rows_same
        ∙ ap (λ (j : Verdict). checked j (Ok (shape rows (number_at c (targets_at rows) / rows) (number_at c (start_at Plain rows (number_at c (targets_at rows)) + 2))))) (all_same ∙ broken.1),
  )

-- What is printed for it does not depend on the bytes beyond the first 8,217, nor on what a table's text is.
pub long_image : (f g : Table → List ℕ) (b rest : List ℕ) → 8217 ≤ length b → text_of_image f (b ++ rest) ≡ text_of_image g b
unfolding text_of_image
long_image f g b rest long =
    let r = long_refused b rest long in
    ap (text_of f (b ++ rest)) r.1 ∙ sym (ap (text_of g b) r.0)
