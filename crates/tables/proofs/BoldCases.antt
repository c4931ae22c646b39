-- The theorem over the collected cases: each holds at every offset that it speaks of.
use mathlib.Core.Path.{◌≡◌, sym, subst, ◌∙◌}
use mathlib.Core.List.{List, [], ◌∷◌}
use mathlib.Core.Logic.{inl, inr}
use mathlib.Core.Option.{Option, some as stated, none as unstated}
use Prim.Native.Nat.{ℕ, zero, suc, ◌*◌, ◌≤◌, ◌<◌}
use native.Mathlib.Omega.{arith}
use native.Mathlib.Decide.{dec_le}
use Rattle.automata.proofs.Tests.{last_or_less}
use Rattle.tables.specs.Table.{Offset, offset, none, weight_by}
use Rattle.tables.specs.Reduction.{Record, records}
use Rattle.tables.proofs.Cases.{When, at, always, Case, Recorded, Holds, cases, All, Below, Computed, computed}
use Rattle.tables.proofs.NoOffset.{reduced-none, records-none}

-- The offset is one that the case speaks of.
abbrev pub Covers : When → Offset → Type 0
Covers (at j) k = k ≡ j
Covers always k = Unit {0}

below_at : (c : Case) (n : ℕ) → Below c n → (k : ℕ) → k < n → Holds c (offset k)
below_at c zero b k h = absurd (omega arith)
below_at c (suc n) b k h = elim (last_or_less k n h) [ inl e ↦ subst (λ (j : ℕ). Holds c (offset j)) (sym e) b.0 | inr g ↦ below_at c n b.1 k g ]

-- From twice the rows on, an offset yields what none does.
far : (c : Case) (k : ℕ) → 0 < c.given_table.rows → 2 * c.given_table.rows ≤ k → Holds c none → Holds c (offset k)
far c k pos h n = (sym (reduced-none (weight_by c.mask) c.given_table k pos h) ∙ n.0, recorded c.fates n.1, n.2)
  where
    recorded : (r : Option (List Record)) → Recorded r (records (weight_by c.mask) none c.given_table) → Recorded r (records (weight_by c.mask) (offset k) c.given_table)
    recorded (stated m) e = sym (records-none (weight_by c.mask) c.given_table k pos h) ∙ e
    recorded unstated e = tt

holds : (c : Case) (w : When) → Computed c w → (k : Offset) → Covers w k → Holds c k
holds c (at j) h k e = subst (Holds c) (sym e) h
holds c always h none e = h.1
holds c always h (offset k) e = elim (dec_le (2 * c.given_table.rows) k) [
  | yes g ↦ far c k h.0 g h.1
  | no g ↦ below_at c (2 * c.given_table.rows) h.2 k (omega arith)
]

all_hold : (l : List Case) → All (λ c. Computed c c.when) l → All (λ c. (k : Offset) → Covers c.when k → Holds c k) l
all_hold [] h = tt
all_hold (c ∷ l) h = (holds c c.when h.0, all_hold l h.1)

-- Every bold case, and that of idle events, holds at every offset that it speaks of.
pub bold_cases : All (λ c. (k : Offset) → Covers c.when k → Holds c k) cases
bold_cases = all_hold cases computed
