-- A table of at most 128 rows fits the buffers of `sheet`, and its text is read off them.
use mathlib.Core.Path.{◌≡◌, refl, sym, ap, ap₂, ◌∙◌}
use mathlib.Core.List.{List, ◌++◌}
use Prim.Native.Nat.{ℕ, ◌-◌, ◌^◌, ◌≤◌, ◌<◌}
use native.Mathlib.Omega.{arith}
use lib.ListN.{length, get_or, take, replicate, length-replicate}
use lib.Seq.{length-take-le, get_or-take}
use Rattle.tables.specs.Table.{Table, Valid, offset, none, weight_by}
use Rattle.tables.specs.Reduction.{reduced}
use Rattle.weights.specs.Weights.{spare_bit_set, counted}
use Rattle.weights.proofs.Counts.{counted-all}
use Rattle.rules.specs.Rules.{Verdict, number_of, sound, mask_rule}
use Rattle.std.specs.Prelude.{Result, Ok, Err}
use Rattle.rules.specs.declared.Rule.TheVariants.{Mask}
use Rattle.rules.specs.declared.Refusal.{Refusal}
use Rattle.rules.proofs.Checks.{unbroken}
use Rattle.pairs.proofs.Triangle.{needed-value, triangle_le, triangle_square}
use Rattle.sheet_rules.specs.Checks.{entries, verdict}
use Rattle.offsets.specs.Sheet.{answer_by, Promise}
use Rattle.sheet_rules.proofs.Room.{by_mask}
use Rattle.text.proofs.Buffer.{joined_same}
use Rattle.image_text.specs.ImageText.{text_by, masked_text}
use Rattle.text.specs.Text.{text, joined}
use Rattle.lines.specs.Lines.{pair_line, head_line, refusal_line}
use Rattle.sheet_text.specs.Sheet.{none_line, sheet_lines, list_lines}
use Rattle.sheet_desk.specs.Printed.{text_of_sheet}

-- The buffers before.
abbrev list₀ : List ℕ
list₀ = replicate 257 0

abbrev scratch₀ : List ℕ
scratch₀ = replicate 8640 0

-- The sheet's promise of these buffers, for a valid table.
module _ {mask : ℕ} {T : Table} (fits : mask < 2 ^ 32) (valid : Valid T) (few : T.rows ≤ 128) {a : Result ℕ Refusal} {list scratch : List ℕ}
    (p : Promise (verdict mask T (length list₀) (length scratch₀)) mask T list₀ scratch₀ a list scratch) where
  -- They are long enough: the mask alone can break a rule.
  judged_so : verdict mask T (length list₀) (length scratch₀) ≡ mask_rule mask T.events
  judged_so = by_mask mask T (length list₀) (length scratch₀) record {
    valid = valid;
    list_fits = omega (arith, length-replicate {A = ℕ} 257 0);
    scratch_fits = omega (arith, needed-value T.rows, triangle_le T.rows 128 few, triangle_square 128, length-replicate {A = ℕ} 8640 0);
  }

  answered : a ≡ answer_by (mask_rule mask T.events) (entries T.rows)
  answered = p.answers ∙ ap (λ (v : Verdict). answer_by v (entries T.rows)) judged_so

  -- A refusal is that of the mask.
  pub refusal_is : {r : Refusal} → a ≡ Err r → refusal_line (number_of r.rule) r.place ≡ masked_text mask (text_of_sheet mask) T
  refusal_is {r} e = pick (mask_rule mask T.events) (sym answered ∙ e)
    where
      pick : (u : Verdict) → answer_by u (entries T.rows) ≡ Err r → refusal_line (number_of r.rule) r.place ≡ text_by u (text_of_sheet mask T)
      pick (Ok u) e = let z : ◌≡◌ {A = ℕ} 0 1 = cc in absurd (omega arith)
      pick (Err s) e = let same : s ≡ r = cc in rw same

  module _ {n : ℕ} (e : a ≡ Ok n) where
    -- With entries no bit of the mask belongs to no event.
    kept : (mask_rule mask T.events ≡ sound) × (n ≡ entries T.rows)
    kept = pick (mask_rule mask T.events) (sym answered ∙ e)
      where
        pick : (u : Verdict) → answer_by u (entries T.rows) ≡ Ok n → (u ≡ sound) × (n ≡ entries T.rows)
        pick (Ok u) e = (refl, cc)
        pick (Err r) e = let z : ◌≡◌ {A = ℕ} 0 1 = cc in absurd (omega arith)

    all-entries : n ≡ entries T.rows
    all-entries = kept.1

    all-counted : counted mask 32 ≡ counted mask T.events
    all-counted = counted-all mask T.events valid.events_fit fits (unbroken Mask (spare_bit_set mask T.events) 0 kept.0)

    module _ (size : length list ≡ length list₀) where
      -- The entries fit the list,
      pub entries-part : n ≤ length list
      entries-part = omega (arith, all-entries, length-replicate {A = ℕ} 257 0)

      -- and the text that is read off them is that of the table.
      pub text_is : {count : ℕ} → count ≡ counted mask 32 → list_lines T.rows T.events count (take n list) ≡ masked_text mask (text_of_sheet mask) T
      unfolding sheet_lines text_of_sheet
      text_is {count} hn =
          ap (λ (m : ℕ). sheet_lines T.rows T.events count m (λ k. get_or (take n list) k 0) (get_or (take n list) (m - 1) 0)) (length-take-le n list entries-part)
          ∙ ap₂ (λ (lines : List ℕ) (last : ℕ). head_line (text "sheet ") T.rows T.events count ++ lines ++ none_line last)
          (joined_same n _ (λ k. pair_line k (reduced (weight_by mask) (offset k) T).rows) (λ k h. ap (pair_line k) (get_or-take n list k 0 h ∙ p.entry n e k h)) ∙ ap (λ (m : ℕ). joined m (λ k. pair_line k (reduced (weight_by mask) (offset k) T).rows)) all-entries)
          (get_or-take n list (n - 1) 0 (omega (arith, all-entries)) ∙ p.last n e)
          ∙ ap (λ (m : ℕ). sheet_lines T.rows T.events m (entries T.rows) (λ k. (reduced (weight_by mask) (offset k) T).rows) (reduced (weight_by mask) none T).rows) (hn ∙ all-counted)
          ∙ sym (ap (λ (u : Verdict). text_by u (text_of_sheet mask T)) kept.0)
