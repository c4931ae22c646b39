-- What it means that a table can be worked on.
use mathlib.Core.Path.{◌≡◌, refl, sym, ap, ◌∙◌}
use mathlib.Core.Bool.{Bool, true, false, not, cond, false≢true}
use Prim.Native.Nat.{ℕ, ◌≤◌, ◌<◌}
use borrow.Author.Tests.{not-true, not-false, leb-true, le-leb}
use lib.Dec.{leb}
use lib.ListN.{get_or}
use Rattle.tables.specs.Table.{Table, Valid}
use Rattle.rules.specs.Rules.{Verdict, sound, judged, winch, table_checks}
use Rattle.rules.specs.declared.Limits.{Limits}
use Rattle.std.specs.Prelude.{Ok, Err}
use Rattle.rules.proofs.Shape.{table-fine, table_valid}
use Rattle.scratch.specs.Scratch.{fine, workable_in}

-- No rule is broken just where the verdict is fine.
is_fine : (v : Verdict) → fine v ≡ true → v ≡ sound
is_fine (Ok u) h = refl
is_fine (Err e) h = absurd (false≢true h)

-- The checks as the code made them, with the limits that it was given.
module _ (T : Table) (L : Limits) (v : Verdict) (l : L ≡ winch) (e : v ≡ judged (table_checks L T)) where
  verdict : v ≡ judged (table_checks winch T)
  verdict = e ∙ ap (λ (m : Limits). judged (table_checks m T)) l

  pub fine_if : (r : Bool) → r ≡ fine v → r ≡ fine (judged (table_checks winch T))
  fine_if r h = h ∙ ap fine verdict

-- Whether the table breaks a rule, as the code asks.
module _ (T : Table) (valid : Bool) (e : valid ≡ fine (judged (table_checks winch T))) where
  told : not valid ≡ false → fine (judged (table_checks winch T)) ≡ true
  told h = sym e ∙ not-false valid h

  pub small-rows : not valid ≡ false → T.rows ≤ 1024
  small-rows h = (table-fine winch T (is_fine (judged (table_checks winch T)) (told h))).0.rows_fit

  -- Mark bytes are bytes, as the code's types say.
  pub fine_valid : not valid ≡ false → ((i : ℕ) → get_or T.marks i 0 < 256) → Valid T
  fine_valid h bytes = (table_valid T bytes).0 (is_fine (judged (table_checks winch T)) (told h))

  pub not-fine : not valid ≡ true → (need : ℕ → ℕ) (room : ℕ) → workable_in need T room ≡ false
  unfolding workable_in
  not-fine h need room = ap (λ (b : Bool). cond b (leb (need T.rows) room) false) (sym e ∙ not-true valid h)

  pub fine-room : not valid ≡ false → (need : ℕ → ℕ) (n room : ℕ) → n ≡ need T.rows → workable_in need T room ≡ leb n room
  unfolding workable_in
  fine-room h need n room g = ap (λ (b : Bool). cond b (leb (need T.rows) room) false) (told h) ∙ ap (λ (k : ℕ). leb k room) (sym g)

module _ (need : ℕ → ℕ) (T : Table) (room : ℕ) where
  -- No check refuses it, and the room is enough.
  pub within_fine : workable_in need T room ≡ true → (judged (table_checks winch T) ≡ sound) × (need T.rows ≤ room)
  unfolding workable_in
  within_fine e = pick (judged (table_checks winch T)) e
    where
      pick : (v : Verdict) → cond (fine v) (leb (need T.rows) room) false ≡ true → (v ≡ sound) × (need T.rows ≤ room)
      pick (Ok u) h = (refl, leb-true (need T.rows) room h)
      pick (Err e) h = absurd (false≢true h)

  -- Mark bytes are bytes, as the code's types say.
  pub within_valid : workable_in need T room ≡ true → ((i : ℕ) → get_or T.marks i 0 < 256) → Valid T × (need T.rows ≤ room)
  within_valid e bytes = let h = within_fine e in ((table_valid T bytes).0 h.0, h.1)

  pub valid_within : Valid T → need T.rows ≤ room → workable_in need T room ≡ true
  unfolding workable_in
  valid_within v h = rw ((table_valid T v.bytes).1 v) (le-leb (need T.rows) room h)
