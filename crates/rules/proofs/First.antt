-- Calls that check a table first, and then more.
use mathlib.Core.Path.{◌≡◌, refl, sym, ap, ◌∙◌}
use mathlib.Core.List.{List, ◌∷◌, ◌++◌}
use Prim.Native.Nat.{ℕ, ◌≤◌, ◌<◌}
use native.Mathlib.Omega.{arith}
use borrow.Author.Tests.{lt-ltb, le-ltb}
use lib.ListN.{get_or}
use Rattle.tables.specs.Table.{Table, Valid}
use Rattle.rules.specs.Rules.{Verdict, sound, refusal, and_then, judged, winch, room_rule, mask_rule, table_checks, masked_checks}
use Rattle.rules.specs.declared.Limits.{Limits}
use Rattle.std.specs.Prelude.{Ok, Err}
use Rattle.rules.specs.declared.Rule.TheVariants.{Room}
use Rattle.rules.specs.declared.Refusal.{Refusal}
use Rattle.rules.proofs.Judged.{judged-append, then_fine, refused-first, fine-first}
use Rattle.rules.proofs.Shape.{Shape, table-fine, table_valid}

-- Rule 7, of one buffer.
pub room_broken : (needed given : ℕ) → given < needed → room_rule needed given ≡ Err (refusal Room 0)
room_broken needed given h = rw (lt-ltb given needed h)

pub room_kept : (needed given : ℕ) → needed ≤ given → room_rule needed given ≡ sound
room_kept needed given h = rw (le-ltb given needed h)

-- Two verdicts, one after the other, are fine just if both are.
pub both-fine : (u v : Verdict) → and_then u v ≡ sound → (u ≡ sound) × (v ≡ sound)
both-fine (Ok u) v e = (refl, e)
both-fine (Err r) v e = let z : ◌≡◌ {A = ℕ} 0 1 = cc in absurd (omega arith)

-- The verdict as the code makes it: of the table's checks with the limits given and of m, which come with them, and then of the others.
module _ (T : Table) (m : List Verdict) {L : Limits} {v : Verdict} (l : L ≡ winch) (e : v ≡ judged (table_checks L T ++ m)) where
  of-table : v ≡ judged (table_checks winch T ++ m)
  of-table = e ∙ ap (λ (K : Limits). judged (table_checks K T ++ m)) l

  pub table-refused : (more : List Verdict) (r : Refusal) → v ≡ Err r → Err r ≡ judged ((table_checks winch T ++ m) ++ more)
  table-refused more r h = refused-first (table_checks winch T ++ m) more v r of-table h

  module _ (h : v ≡ sound) where
    pub table-then : (more : List Verdict) {u : Verdict} → u ≡ judged more → u ≡ judged ((table_checks winch T ++ m) ++ more)
    table-then more g = g ∙ fine-first (table_checks winch T ++ m) more v of-table h

    pub table-shape : Shape winch T
    table-shape = (table-fine winch T (both-fine (judged (table_checks winch T)) (judged m) (sym (judged-append (table_checks winch T) m) ∙ sym of-table ∙ h)).0).0

    pub few_rows : T.rows ≤ 1024
    few_rows = table-shape.rows_fit

    pub few_events : T.events ≤ 32
    few_events = table-shape.events_fit

-- What it tells that none of them is broken.
module _ (T : Table) (more : List Verdict) (e : judged (table_checks winch T ++ more) ≡ sound) where
  pub parts : (judged (table_checks winch T) ≡ sound) × (judged more ≡ sound)
  parts = both-fine (judged (table_checks winch T)) (judged more) (sym (judged-append (table_checks winch T) more) ∙ e)

  pub more-fine : judged more ≡ sound
  more-fine = parts.1

  -- Mark bytes are bytes, as the code's types say.
  pub fine_valid : ((i : ℕ) → get_or T.marks i 0 < 256) → Valid T
  fine_valid bytes = (table_valid T bytes).0 parts.0

-- A valid table is judged by the others.
pub valid_then : (T : Table) → Valid T → (more : List Verdict) → judged (table_checks winch T ++ more) ≡ judged more
valid_then T v more = judged-append (table_checks winch T) more ∙ rw ((table_valid T v.bytes).1 v) refl

-- A valid table with a mask, where the others find nothing: the mask alone can break a rule.
pub valid_masked : (mask : ℕ) (T : Table) → Valid T → (more : List Verdict) → sound ≡ judged more → judged (masked_checks winch mask T ++ more) ≡ mask_rule mask T.events
valid_masked mask T v more e =
    valid_then T v (mask_rule mask T.events ∷ more) ∙ ap (and_then (mask_rule mask T.events)) (sym e) ∙ then_fine (mask_rule mask T.events)
