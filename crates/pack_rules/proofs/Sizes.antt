-- 1 and 2 of each table of a list.
use mathlib.Core.Path.{◌≡◌, refl, ap}
use mathlib.Core.Bool.{false}
use mathlib.Core.List.{List, [], ◌∷◌}
use Prim.Native.Nat.{ℕ, ◌+◌, ◌≤◌, ◌<◌}
use native.Mathlib.Nat.{add-zero}
use native.Mathlib.Omega.{arith}
use lib.ListN.{length, get_or, drop, length-drop}
use lib.Seq.{get_or-drop, drop-drop}
use Rattle.rules.specs.Rules.{Verdict, sound, judged, winch, outside, rows_rule, events_rule}
use Rattle.rules.specs.declared.Limits.{Limits}
use Rattle.rules.proofs.Checks.{unbroken, passed, passed-behind}
use Rattle.pack_rules.specs.Checks.{size_checks}
use Rattle.pack_rules.specs.Steps.{entry_at}
use Rattle.pack_rules.specs.declared.Entry.{Entry}

first_sizes : (l : List ℕ) → 3 ≤ length l → size_checks l ≡ rows_rule winch (get_or l 0 0) ∷ events_rule winch (get_or l 1 0) ∷ size_checks (drop 3 l)
unfolding size_checks
first_sizes (x ∷ y ∷ z ∷ l) h = refl
first_sizes [] h = absurd (omega arith)
first_sizes (x ∷ []) h = absurd (omega arith)
first_sizes (x ∷ y ∷ []) h = absurd (omega arith)

no_sizes : (l : List ℕ) → length l < 3 → size_checks l ≡ []
unfolding size_checks
no_sizes [] h = refl
no_sizes (x ∷ []) h = refl
no_sizes (x ∷ y ∷ []) h = refl
no_sizes (x ∷ y ∷ z ∷ l) h = absurd (omega arith)

module _ (list : List ℕ) (at : ℕ) where
  -- One table more.
  pub sizes_next : at + 3 ≤ length list
      → size_checks (drop at list) ≡ rows_rule winch (get_or list at 0) ∷ events_rule winch (get_or list (at + 1) 0) ∷ size_checks (drop (at + 3) list)
  sizes_next h = simp (get_or-drop, drop-drop, add-zero) at (first_sizes (drop at list) (omega (arith, length-drop at list)))

  -- The same, as the code judges it: by the limits L and the table t as it is read.
  pub sizes_here : at + 3 ≤ length list → (L : Limits) → L ≡ winch → (t : Entry) → t ≡ entry_at list at
      → judged (size_checks (drop at list)) ≡ judged (rows_rule L t.rows ∷ events_rule L t.events ∷ size_checks (drop (at + 3) list))
  sizes_here h L w t read = rw (w, read) (ap judged (sizes_next h))

  -- No table more.
  pub sizes_none : length list < at + 3 → at ≤ length list → size_checks (drop at list) ≡ []
  sizes_none h begun = no_sizes (drop at list) (omega (arith, length-drop at list))

-- A table that keeps 1 and 2.
abbrev pub Sized : ℕ → ℕ → Type 0
Sized rows events = (outside winch.rows rows ≡ false) × (outside winch.events events ≡ false)

module _ (rows events : ℕ) (l : List Verdict) where
  abbrev checks : List Verdict
  checks = rows_rule winch rows ∷ events_rule winch events ∷ l

  pub fine_sized : judged checks ≡ sound → Sized rows events × (judged l ≡ sound)
  fine_sized e = ((unbroken _ _ _ (passed checks e 0), unbroken _ _ _ (passed checks e 1)), passed-behind 2 checks e)

  pub sized_fine : Sized rows events → judged checks ≡ judged l
  sized_fine s = simp (s.0, s.1)
