-- What the work leaves, refused or not.
use mathlib.Core.Path.{◌≡◌, refl, sym, ap, subst, ◌∙◌}
use mathlib.Core.List.{List}
use Prim.Native.Nat.{ℕ, ◌*◌, ◌≤◌, ◌<◌}
use native.Mathlib.Omega.{arith}
use lib.ListN.{length, get_or}
use Rattle.tables.specs.Lists.{over}
use Rattle.tables.specs.Table.{Table, Offset, Valid, weight_by}
use Rattle.tables.specs.Reduction.{reduced}
use Rattle.rules.specs.Rules.{Verdict, sound, left_by}
use Rattle.std.specs.Prelude.{Result, Ok, Err}
use Rattle.rules.specs.declared.Refusal.{Refusal}
use Rattle.scratch.proofs.Works.{valid_within}
use Rattle.renumbering.specs.Renumber.{left}
use Rattle.renumbering.proofs.Left.{all_room, room-told}
use Rattle.ways.specs.Ways.{need_of}
use Rattle.ways.specs.declared.Way.{Way}
use Rattle.ways.proofs.Needs.{four_regions}
use Rattle.reduction.specs.declared.Done.{Done}
use Rattle.reduction_rules.specs.Checks.{verdict}
use Rattle.reduction.specs.Working.{work_by, Worked, Rewritten}
use Rattle.reduction_rules.proofs.Room.{Roomy, verdict_valid, fine-roomy, roomy-works}
use Rattle.reduction.proofs.Worked.{left-reduced, told}

module _ (way : Way) (k : Offset) (mask : ℕ) (T : Table) (bytes : (i : ℕ) → get_or T.marks i 0 < 256) (cells marks scratch : List ℕ) (records : ℕ)
    {v : Verdict} (hv : v ≡ verdict (need_of way) mask T (length cells) (length marks) records (length scratch)) where
  abbrev need : ℕ → ℕ
  need = need_of way

  abbrev U : Table
  U = reduced (weight_by mask) k T

  -- What the contract says.
  abbrev Left : Verdict → Result Done Refusal → List ℕ → List ℕ → List ℕ → Type 0
  Left u w c m s = (w ≡ work_by need u k mask T) × (c ≡ left_by u cells U.cells) × (m ≡ left_by u marks U.marks) × Worked need u k mask T scratch s
      × (u ≡ sound → Valid T)

  is_valid : verdict need mask T (length cells) (length marks) records (length scratch) ≡ sound → Valid T
  is_valid e = verdict_valid need mask T (length cells) (length marks) records (length scratch) e bytes

  pub work_refused : (r : Refusal) → v ≡ Err r → Left (verdict need mask T (length cells) (length marks) records (length scratch)) (Err r) cells marks scratch
  work_refused r e =
      let h : Err r ≡ verdict need mask T (length cells) (length marks) records (length scratch) = sym e ∙ hv in
      subst (λ (u : Verdict). Left u (Err r) cells marks scratch) h (
        refl,
        refl,
        refl,
        record { told = λ f. absurd (differ f); size = refl; beyond = λ i g. refl; refused = λ x g. refl },
        λ f. absurd (differ f),
      )
    where
      differ : Err r ≡ sound → ⊥
      differ f = let z : ◌≡◌ {A = ℕ} 0 1 = cc in absurd (omega arith)

  module _ (e : v ≡ sound) where
    roomy : Roomy need T (length cells) (length marks) records (length scratch)
    roomy = fine-roomy need mask T (length cells) (length marks) records (length scratch) (sym hv ∙ e) (is_valid (sym hv ∙ e))

    pub fine-rows : T.rows ≤ 1024
    fine-rows = roomy.valid.rows_fit

    pub work-fine : {r used : ℕ} {t c m : List ℕ} → Rewritten need k mask T cells marks scratch r c m t → used ≡ need T.rows
        → Left (verdict need mask T (length cells) (length marks) records (length scratch)) (Ok (record { left = r; rows = T.rows; used = used })) c m t
    work-fine {r} {used} {t} {c} {m} w hu =
        let s = w.between in
        let F = w.folded (roomy-works roomy) in
        let works = valid_within (λ n. 4 * n) T (length s) roomy.valid (omega (arith, F.size, four_regions way T.rows, roomy.scratch_fits)) in
        let fit = all_room T s cells marks works roomy.cells_fit roomy.marks_fit in
        let h = room-told T s cells marks fit w.rows_left w.numbered w.cells_written w.marks_written in
        let same : left T s ≡ U = left-reduced k mask T roomy.valid s F.folds in
        subst (λ (u : Verdict). Left u (Ok (record { left = r; rows = T.rows; used = used })) c m t) (sym e ∙ hv) (
          (λ i. Ok (record { left = (h.0 ∙ ap (λ (N : Table). N.rows) same) i; rows = T.rows; used = hu i })),
          h.2 ∙ ap (λ (N : Table). over cells 0 N.cells) same,
          h.3 ∙ ap (λ (N : Table). over marks 0 N.marks) same,
          record {
            told = λ f. told k mask T roomy.valid s F.folds t h.1;
            size = h.1.1.size ∙ F.size;
            beyond = λ i g. h.1.1.behind i (omega (arith, four_regions way T.rows)) ∙ F.beyond i g;
            refused = λ x f. absurd (differ f);
          },
          λ f. roomy.valid,
        )
      where
        differ : {x : Refusal} → sound ≡ Err x → ⊥
        differ {x} f = let z : ◌≡◌ {A = ℕ} 0 1 = cc in absurd (omega arith)
