-- What the checks of a pack come to.
use mathlib.Core.Path.{◌≡◌, sym, ap, ◌∙◌}
use mathlib.Core.Bool.{not, ◌||◌}
use mathlib.Core.List.{List, [], ◌∷◌, ◌++◌, append_assoc}
use Prim.Native.Nat.{ℕ, ◌/◌, ◌%◌, ◌≤◌}
use borrow.Author.Tests.{eqb-true, eq-eqb, not-false, ltb-false}
use lib.Dec.{eqb}
use lib.ListN.{length}
use Rattle.rules.specs.Rules.{Verdict, sound, and_then, judged, room_rule}
use Rattle.rules.proofs.Checks.{unbroken, neither, inside}
use Rattle.rules.proofs.First.{room_kept, both-fine}
use Rattle.rules.proofs.Judged.{judged-append}
use Rattle.packs.specs.Pack.{tables_in, cells_needed, marks_needed, pack_length, count_rule}
use Rattle.pack_rules.specs.Checks.{size_checks, together_rule, tables_checks, pack_checks}

module _ (list cells marks : List ℕ) where
  -- 3 is kept just if the three lengths are right.
  together_fine : together_rule list cells marks ≡ sound → (length list % 3 ≡ 0) × (length cells ≡ cells_needed list) × (length marks ≡ marks_needed list)
  together_fine e =
      let t = neither (not (eqb (length list % 3) 0)) (not (eqb (length cells) (cells_needed list)) || not (eqb (length marks) (marks_needed list))) (unbroken _ _ _ e) in
      let u = neither (not (eqb (length cells) (cells_needed list))) (not (eqb (length marks) (marks_needed list))) t.1 in
      (eqb-true _ _ (not-false _ t.0), eqb-true _ _ (not-false _ u.0), eqb-true _ _ (not-false _ u.1))

  together_kept : length list % 3 ≡ 0 → length cells ≡ cells_needed list → length marks ≡ marks_needed list → together_rule list cells marks ≡ sound
  together_kept h hc hm = simp (eq-eqb _ _ h, eq-eqb _ _ hc, eq-eqb _ _ hm)

  module _ (room : ℕ) where
    abbrev pub after_sizes : List Verdict
    after_sizes = (together_rule list cells marks ∷ tables_checks (tables_in list cells marks)) ++ (room_rule (pack_length list) room ∷ [])

    -- 15, 1 and 2, and then the others.
    pub pack-judged : judged (pack_checks list cells marks room) ≡ and_then (judged (count_rule (length list / 3) ∷ size_checks list)) (judged after_sizes)
    pack-judged =
        ap judged (append_assoc (count_rule (length list / 3) ∷ size_checks list) (together_rule list cells marks ∷ tables_checks (tables_in list cells marks)) (room_rule (pack_length list) room ∷ []))
        ∙ judged-append (count_rule (length list / 3) ∷ size_checks list) after_sizes

    -- 3, 4, 5, 6 and 14, and then 7.
    after-judged : judged after_sizes ≡ and_then (together_rule list cells marks) (and_then (judged (tables_checks (tables_in list cells marks))) (judged (room_rule (pack_length list) room ∷ [])))
    after-judged = ap (and_then (together_rule list cells marks)) (judged-append (tables_checks (tables_in list cells marks)) (room_rule (pack_length list) room ∷ []))

    -- With 3 kept, what the tables' checks come to is next.
    pub after-together : length list % 3 ≡ 0 → length cells ≡ cells_needed list → length marks ≡ marks_needed list → (v : Verdict) → v ≡ judged (tables_checks (tables_in list cells marks))
        → judged after_sizes ≡ and_then v (judged (room_rule (pack_length list) room ∷ []))
    after-together h hc hm v e = after-judged ∙ simp (together_kept h hc hm, sym e)

-- What is passed to a call that breaks no rule.
pub record Accepted (list cells marks : List ℕ) (room : ℕ) : Type 0 where
  pub some : 1 ≤ length list / 3
  pub few : length list / 3 ≤ 16
  pub sizes : judged (size_checks list) ≡ sound
  pub threes : length list % 3 ≡ 0
  pub all_cells : length cells ≡ cells_needed list
  pub all_marks : length marks ≡ marks_needed list
  pub tables : judged (tables_checks (tables_in list cells marks)) ≡ sound
  pub ample : pack_length list ≤ room

module _ (list cells marks : List ℕ) (room : ℕ) where
  pub fine_accepted : judged (pack_checks list cells marks room) ≡ sound → Accepted list cells marks room
  fine_accepted e =
      let p = both-fine _ _ (sym (pack-judged list cells marks room) ∙ e) in
      let q = both-fine (count_rule (length list / 3)) (judged (size_checks list)) p.0 in
      let count = (inside 16 (length list / 3)).0 (unbroken _ _ _ q.0) in
      let s = both-fine _ _ (sym (after-judged list cells marks room) ∙ p.1) in
      let t = together_fine list cells marks s.0 in
      let u = both-fine _ _ s.1 in
      record {
        some = count.0;
        few = count.1;
        sizes = q.1;
        threes = t.0;
        all_cells = t.1;
        all_marks = t.2;
        tables = u.0;
        ample = ltb-false _ _ (unbroken _ _ _ (both-fine (room_rule (pack_length list) room) sound u.1).0);
      }

  pub accepted_fine : Accepted list cells marks room → judged (pack_checks list cells marks room) ≡ sound
  accepted_fine a =
      pack-judged list cells marks room
      ∙ simp ((inside 16 (length list / 3)).1 (a.some, a.few), a.sizes)
      (after-judged list cells marks room ∙ simp (together_kept list cells marks a.threes a.all_cells a.all_marks, a.tables, room_kept _ _ a.ample))
