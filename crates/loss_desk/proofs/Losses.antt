-- The lines that the cells of scratch tell are those of the table.
use mathlib.Core.Path.{◌≡◌, refl, sym, ap, ap₂, ◌∙◌}
use mathlib.Core.Bool.{true, false, cond}
use mathlib.Core.List.{List, []}
use Prim.Native.Nat.{ℕ, ◌≤◌, ◌<◌}
use native.Mathlib.Omega.{arith}
use borrow.Author.Tests.{eq-eqb, ne_eqb}
use lib.Dec.{eqb}
use lib.ListN.{length, take, drop}
use lib.Seq.{take-append_seam}
use Rattle.tables.specs.Table.{Table, Offset, Valid, machine, events_of, weight_by}
use Rattle.tables.specs.Reduction.{Fate, kept_as, folded_into, unreached, fate_of}
use Rattle.tables.proofs.Counted.{mask_light}
use Rattle.rules.specs.Rules.{Verdict, number_of, sound, mask_rule}
use Rattle.std.specs.Prelude.{Err}
use Rattle.rules.specs.declared.Refusal.{Refusal}
use Rattle.scratch.proofs.Works.{valid_within}
use Rattle.pairs.specs.Pairs.{pair_at, needed, workable}
use Rattle.pairs.proofs.Triangle.{triangle_le, triangle_square}
use Rattle.measures.specs.Measures.{measure_in}
use Rattle.chosen.specs.GivenUp.{Loss, given_up, into_by, into_of}
use Rattle.chosen.proofs.GivenUp.{folded_other}
use Rattle.text.specs.Text.{joined, filled, Puts}
use Rattle.text.proofs.Buffer.{filled_in, puts_none, puts_as, joined_same}
use Rattle.folding.specs.Folding.{folded_in}
use Rattle.walks.specs.Walks.{walked}
use Rattle.lines.specs.Lines.{refusal_line}
use Rattle.image_text.specs.ImageText.{text_by, masked_text}
use Rattle.last_run_rules.specs.Checks.{verdict}
use Rattle.last_run_rules.proofs.Order.{by_mask}
use Rattle.losses.specs.Losses.{into_at, loss_at}
use Rattle.loss_text.specs.LossText.{loss_line}
use Rattle.last_run.proofs.Given.{into-told, loss-told}
use Rattle.loss_desk.specs.Lines.{line_to, line_at}
use Rattle.loss_desk.specs.Printed.{fate_line, line_of, text_of_losses}

-- A run read back from a buffer that has room for it.
pub run_back : (out : List ℕ) {after w : List ℕ} {k : ℕ} → length w ≤ length out → k ≡ length w → after ≡ filled out w → take k after ≡ w
run_back out {after} {w} {k} h hk ha = ap₂ (λ (i : ℕ) (l : List ℕ). take i l) hk (ha ∙ filled_in out w h) ∙ take-append_seam w (drop (length w) out)

-- ---- one line, as the code makes it
module _ (n events : ℕ) (cells s : List ℕ) (q : ℕ) {p : ℕ} (hp : p ≡ into_at n s q) (out : List ℕ) (at : ℕ) where
  line_is : line_at n events cells s q ≡ line_to n events cells s q p
  unfolding line_at
  line_is = ap (line_to n events cells s q) (sym hp)

  pub line-none : p ≡ q → Puts out at (line_at n events cells s q) out at
  line-none e = puts_as (line_is ∙ rw (eq-eqb p q e)) (puts_none out at)

  pub line-loss : (p ≡ q → ⊥) → {run after : List ℕ} {f end : ℕ} → run ≡ walked cells events s n q p → f ≡ (measure_in (pair_at s q p)).distance
      → Puts out at (loss_line q p f run) after end → Puts out at (line_at n events cells s q) after end
  line-loss other hr hf h = puts_as (line_is ∙ rw (ne_eqb p q other) (sym (ap₂ (loss_line q p) hf hr))) h

-- ---- its meaning
fate_line_lem : (q p : ℕ) (g : Loss) (f : Fate) → ((r : ℕ) → f ≡ folded_into r → eqb r q ≡ false) → p ≡ into_by q f → cond (eqb p q) [] (loss_line q p g.far g.run) ≡ fate_line q g f
fate_line_lem q p g (folded_into r) other e = ap (λ (x : ℕ). cond (eqb x q) [] (loss_line q x g.far g.run)) e ∙ rw (other r refl) refl
fate_line_lem q p g (kept_as i) other e = rw (eq-eqb p q e)
fate_line_lem q p g unreached other e = rw (eq-eqb p q e)

module _ (mask : ℕ) (k : Offset) (T : Table) (s : List ℕ) (w : workable T (length s) ≡ true) (v : Valid T) where
  abbrev t : List ℕ
  t = folded_in mask k T s

  line_meaning : (q : ℕ) → q < T.rows → line_at T.rows T.events T.cells t q ≡ line_of k mask T q
  unfolding line_at line_of loss_at into_of
  line_meaning q hq =
      let p = into_at T.rows t q in
      let g = loss-told mask k T s w v q hq in
      ap (λ (x : Loss). cond (eqb p q) [] (loss_line q p x.far x.run)) g
      ∙ fate_line_lem q p (given_up (weight_by mask) k T q) (fate_of (events_of (weight_by mask) T) (machine T) k q)
      (λ r e. folded_other (weight_by mask) (mask_light mask T).at_most T v k q r hq e) (into-told mask k T s w v q hq)

  pub lines_meaning : joined T.rows (line_at T.rows T.events T.cells t) ≡ text_of_losses k mask T
  unfolding text_of_losses
  lines_meaning = joined_same T.rows (line_at T.rows T.events T.cells t) (line_of k mask T) line_meaning

-- ---- a table of at most 128 rows, with the scratch that the program has
module _ (k : Offset) (mask : ℕ) (T : Table) (v : Valid T) (few : T.rows ≤ 128) where
  fits : needed T.rows ≤ 8640
  fits = omega (arith, triangle_le T.rows 128 few, triangle_square 128)

  -- The mask alone can break a rule.
  judged_so : verdict mask T 0 8640 ≡ mask_rule mask T.events
  judged_so = by_mask mask T 0 8640 v v.some_row fits

  pub refusal_is : {u : Verdict} {r : Refusal} → u ≡ verdict mask T 0 8640 → u ≡ Err r → refusal_line (number_of r.rule) r.place ≡ masked_text mask (text_of_losses k mask) T
  refusal_is h e = ap (λ (w : Verdict). text_by w (text_of_losses k mask T)) (sym e ∙ h ∙ judged_so)

  pub text_is : {u : Verdict} (s : List ℕ) {t : List ℕ} → u ≡ verdict mask T 0 8640 → u ≡ sound → length s ≡ 8640 → t ≡ folded_in mask k T s
      → joined T.rows (line_at T.rows T.events T.cells t) ≡ masked_text mask (text_of_losses k mask) T
  text_is {u} s {t} h e size ht =
      let w = valid_within needed T (length s) v (omega (arith, fits)) in
      ap (λ (l : List ℕ). joined T.rows (line_at T.rows T.events T.cells l)) ht
      ∙ lines_meaning mask k T s w v
      ∙ ap (λ (w : Verdict). text_by w (text_of_losses k mask T)) (sym e ∙ h ∙ judged_so)
