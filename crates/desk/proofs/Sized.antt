-- A table of at most 128 rows fits the buffers of `reduce`, and its text is read off them.
use mathlib.Core.Path.{◌≡◌, refl, sym, ap, ap₂, ◌∙◌}
use mathlib.Core.List.{List, ◌++◌, map}
use Prim.Native.Nat.{ℕ, ◌+◌, ◌*◌, ◌/◌, ◌%◌, ◌^◌, ◌≤◌, ◌<◌}
use native.Mathlib.Nat.{mul-le-mul, zero-add, le_trans}
use native.Mathlib.Omega.{arith}
use lib.Arith.{digits_lt}
use lib.ListN.{length, get_or, drop, get_or-append, length-map}
use Rattle.tables.specs.Lists.{over}
use Rattle.tables.specs.Table.{Table, Offset, Valid, mark_of, weight_by}
use Rattle.tables.specs.Reduction.{reduced, records}
use Rattle.tables.proofs.Over.{over_inside}
use Rattle.tables.proofs.Counted.{mask_light}
use Rattle.tables.proofs.Theorems.{never-more, records-length, valid, same_events}
use Rattle.pairs.proofs.Triangle.{needed-value, triangle_le, triangle_square}
use Rattle.records.specs.declared.Record.{Record}
use Rattle.weights.specs.Weights.{spare_bit_set, counted}
use Rattle.weights.proofs.Counts.{counted-all}
use Rattle.rules.specs.Rules.{Verdict, number_of, sound, mask_rule, left_by}
use Rattle.std.specs.Prelude.{Result, Ok, Err}
use Rattle.rules.specs.declared.Rule.TheVariants.{Mask}
use Rattle.rules.specs.declared.Refusal.{Refusal}
use Rattle.rules.proofs.Checks.{unbroken}
use Rattle.scratch.specs.Scratch.{scratch_cells}
use Rattle.reduction_rules.specs.Checks.{verdict}
use Rattle.reduction_rules.specs.Checks.{answer_by}
use Rattle.reduction.specs.Reduce.{Promise}
use Rattle.reduction_rules.proofs.Room.{by_mask as judged-by-mask}
use Rattle.image_text.specs.ImageText.{text_by, masked_text}
use Rattle.text.specs.Text.{joined, decimal, text}
use Rattle.lines.specs.Lines.{refusal_line}
use Rattle.text.proofs.Buffer.{joined_same}
use Rattle.recording.specs.Recorded.{record_of, records_by}
use Rattle.desk.specs.Printed.{reduction_text}
use Rattle.listing.specs.Listing.{target_word, mark_words, row_line, record_line, blank, listing}

-- The buffers are long enough: the mask alone can break a rule.
pub by_mask : (mask : ℕ) (T : Table) → Valid T → T.rows ≤ 128 → verdict scratch_cells mask T 4096 16 1024 8640 ≡ mask_rule mask T.events
by_mask mask T v few =
    judged-by-mask scratch_cells mask T v 4096 16 1024 8640 (mul-le-mul few v.events_fit) (omega arith) (omega arith) (omega (arith, needed-value T.rows, triangle_le T.rows 128 few, triangle_square 128))

-- ---- texts of equal parts are equal

row_same : (events : ℕ) (cells cells' marks marks' : List ℕ) (i : ℕ) → ((a : ℕ) → a < events → get_or cells (i * events + a) 0 ≡ get_or cells' (i * events + a) 0)
    → mark_of marks i ≡ mark_of marks' i → row_line events cells marks i ≡ row_line events cells' marks' i
unfolding row_line target_word
row_same events cells cells' marks marks' i hc hm =
    ap₂ (λ (t : List ℕ) (m : ℕ). decimal i ++ t ++ mark_words m) (joined_same events _ _ (λ a h. ap (λ (x : ℕ). text " " ++ decimal x) (hc a h))) hm

listing_same : (rows events counted : ℕ) (cells cells' marks marks' : List ℕ) (given : ℕ) (l l' : List Record)
    → ((i a : ℕ) → i < rows → a < events → get_or cells (i * events + a) 0 ≡ get_or cells' (i * events + a) 0)
    → ((i : ℕ) → i < rows → mark_of marks i ≡ mark_of marks' i)
    → ((i : ℕ) → i < given → get_or l i blank ≡ get_or l' i blank)
    → listing rows events counted cells marks given l ≡ listing rows events counted cells' marks' given l'
unfolding listing
listing_same rows events counted cells cells' marks marks' given l l' hc hm hl =
    let rows_same : joined rows (row_line events cells marks) ≡ joined rows (row_line events cells' marks') = joined_same rows _ _ (λ i h. row_same events cells cells' marks marks' i (λ a. hc i a h) (hm i h)) in
    let records-same : joined given (λ i. record_line i (get_or l i blank)) ≡ joined given (λ i. record_line i (get_or l' i blank)) = joined_same given _ _ (λ i h. ap (record_line i) (hl i h)) in
    rw (rows_same, records-same)

counted-rows : {x y : ℕ} → ◌≡◌ {A = Result ℕ Refusal} (Ok x) (Ok y) → x ≡ y
counted-rows e = cc

-- The reduction of a table, as it stands in the buffers.
module _ (k : Offset) (mask : ℕ) (T : Table) (v : Valid T) (few : T.rows ≤ 128) where
  abbrev U : Table
  U = reduced (weight_by mask) k T

  whole : Valid U
  whole = valid (weight_by mask) (mask_light mask T).at_most T v k

  no_more_rows : U.rows ≤ T.rows
  no_more_rows = never-more (weight_by mask) (mask_light mask T).at_most T v k

  same_count : U.events ≡ T.events
  same_count = same_events (weight_by mask) (mask_light mask T).at_most T v k

  records-size : length (records (weight_by mask) k T) ≡ T.rows
  records-size = records-length (weight_by mask) (mask_light mask T).at_most T v k

  -- The text that is read off the buffers is that of the reduction.
  pub listed : (cells marks : List ℕ) (bl : List Record) → length cells ≡ 4096 → length marks ≡ 16
      → listing U.rows T.events (counted mask T.events) (over cells 0 U.cells) (over marks 0 U.marks) T.rows (map record_of (records (weight_by mask) k T) ++ drop (length (records (weight_by mask) k T)) bl) ≡ reduction_text k mask T
  unfolding reduction_text
  listed cells marks bl hc hm =
      let cells_fit : 0 + length U.cells ≤ length cells
      = omega (arith, whole.all_cells, mul-le-mul (le_trans no_more_rows few) whole.events_fit) in
      let marks_fit : 0 + length U.marks ≤ length marks = omega (arith, whole.all_marks, no_more_rows) in
      ap (λ (m : ℕ). listing U.rows m (counted mask m) (over cells 0 U.cells) (over marks 0 U.marks) T.rows (map record_of (records (weight_by mask) k T) ++ drop (length (records (weight_by mask) k T)) bl)) (sym same_count)
      ∙ listing_same U.rows U.events (counted mask U.events) (over cells 0 U.cells) U.cells (over marks 0 U.marks) U.marks T.rows _ (map record_of (records (weight_by mask) k T))
      (λ i a hi ha. front cells U.cells cells_fit (i * U.events + a) (omega (arith, whole.all_cells, digits_lt hi ha)))
      (λ i hi. ap (λ (b : ℕ). b / 2 ^ (i % 8) % 2) (front marks U.marks marks_fit (i / 8) (omega (arith, whole.all_marks))))
      (λ i hi. get_or-append (map record_of (records (weight_by mask) k T)) (drop (length (records (weight_by mask) k T)) bl) blank i (omega (arith, length-map (records (weight_by mask) k T) record_of, records-size)))
    where
      front : (d s : List ℕ) → 0 + length s ≤ length d → (i : ℕ) → i < length s → get_or (over d 0 s) i 0 ≡ get_or s i 0
      front d s fits i h = ap (λ (j : ℕ). get_or (over d 0 s) j 0) (sym (zero-add i)) ∙ over_inside d 0 s fits i 0 h

  -- What the reducer's promise says of these buffers: the answer, and the text that is read off them.
  module _ (fits : mask < 2 ^ 32) (cells marks scratch : List ℕ) (hc : length cells ≡ 4096) (hm : length marks ≡ 16) (hs : length scratch ≡ 8640) {a : Result ℕ Refusal} {cells' marks' scratch' : List ℕ}
      (p : Promise scratch_cells (verdict scratch_cells mask T (length cells) (length marks) 1024 (length scratch)) k mask T cells marks scratch a cells' marks' scratch') where
    judged_so : verdict scratch_cells mask T (length cells) (length marks) 1024 (length scratch) ≡ mask_rule mask T.events
    judged_so = rw (hc, hm, hs) (by_mask mask T v few)

    answered : a ≡ answer_by (mask_rule mask T.events) U.rows
    answered = p.answers ∙ ap (λ (u : Verdict). answer_by u U.rows) judged_so

    -- A refusal is that of the mask.
    pub refusal_is : (r : Refusal) → a ≡ Err r → refusal_line (number_of r.rule) r.place ≡ masked_text mask (reduction_text k mask) T
    refusal_is r e = pick (mask_rule mask T.events) (sym answered ∙ e)
      where
        pick : (u : Verdict) → answer_by u U.rows ≡ Err r → refusal_line (number_of r.rule) r.place ≡ text_by u (reduction_text k mask T)
        pick (Ok u) e = let z : ◌≡◌ {A = ℕ} 0 1 = cc in absurd (omega arith)
        pick (Err s) e = let same : s ≡ r = cc in rw same

    module _ (left : ℕ) (e : a ≡ Ok left) where
      -- With a row count no bit of the mask belongs to no event.
      kept : (mask_rule mask T.events ≡ sound) × (left ≡ U.rows)
      kept = pick (mask_rule mask T.events) (sym answered ∙ e)
        where
          pick : (u : Verdict) → answer_by u U.rows ≡ Ok left → (u ≡ sound) × (left ≡ U.rows)
          pick (Ok u) e = (refl, sym (counted-rows e))
          pick (Err s) e = let z : ◌≡◌ {A = ℕ} 0 1 = cc in absurd (omega arith)

      fine : verdict scratch_cells mask T (length cells) (length marks) 1024 (length scratch) ≡ sound
      fine = judged_so ∙ kept.0

      all-counted : counted mask 32 ≡ counted mask T.events
      all-counted = counted-all mask T.events v.events_fit fits (unbroken Mask (spare_bit_set mask T.events) 0 kept.0)

      pub text_is : (bl l : List Record) → l ≡ records_by (verdict scratch_cells mask T (length cells) (length marks) 1024 (length scratch)) bl (records (weight_by mask) k T)
          → {count : ℕ} → count ≡ counted mask 32 → listing left T.events count cells' marks' T.rows l ≡ masked_text mask (reduction_text k mask) T
      text_is bl l hl {count} hn =
          let c : cells' ≡ over cells 0 U.cells = p.cells_after ∙ ap (λ (u : Verdict). left_by u cells U.cells) fine in
          let m : marks' ≡ over marks 0 U.marks = p.marks_after ∙ ap (λ (u : Verdict). left_by u marks U.marks) fine in
          let r : l ≡ map record_of (records (weight_by mask) k T) ++ drop (length (records (weight_by mask) k T)) bl = hl ∙ ap (λ (u : Verdict). records_by u bl (records (weight_by mask) k T)) fine in
          let n = counted mask T.events in
          ap₂ (λ (x y : ℕ). listing x T.events y cells' marks' T.rows l) kept.1 (hn ∙ all-counted) ∙ ap (λ (x : List ℕ). listing U.rows T.events n x marks' T.rows l) c
          ∙ ap (λ (x : List ℕ). listing U.rows T.events n (over cells 0 U.cells) x T.rows l) m
          ∙ ap (listing U.rows T.events n (over cells 0 U.cells) (over marks 0 U.marks) T.rows) r ∙ listed cells marks bl hc hm
          ∙ sym (ap (λ (u : Verdict). text_by u (reduction_text k mask T)) kept.0)

      pub few-left : left ≤ 128
      few-left = omega (arith, no_more_rows, few, kept.1)
