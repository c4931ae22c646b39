-- The records that are read off the scratch are those of the definition.
use mathlib.Core.Path.{◌≡◌, refl, sym, ap, ap₂, ◌∙◌}
use mathlib.Core.Bool.{Bool, true, false, not}
use mathlib.Core.List.{List, ◌∷◌, map}
use Prim.Native.Nat.{ℕ, zero, suc, ◌+◌, ◌-◌, ◌*◌, ◌≤◌, ◌<◌}
use native.Mathlib.Omega.{arith}
use borrow.Author.Tests.{eqb-true, ne_eqb}
use lib.Dec.{eqb}
use lib.ListN.{get_or}
use Rattle.automata.specs.Runs.{Events, Machine, Len, len, endless}
use Rattle.tables.specs.Lists.{tabulate, some}
use Rattle.tables.specs.Table.{Table, Offset, Valid, machine, events_of, weight_by}
use Rattle.tables.specs.Lengths.{is_zero, one_less, lead, reached, depth}
use Rattle.tables.specs.Reduction as spec
use Rattle.tables.specs.Reduction.{kept, fold, number, records}
use Rattle.tables.proofs.Lists.{tabulate-same}
use Rattle.tables.proofs.Lengths.{Below, depth_below}
use Rattle.tables.proofs.Counted.{mask_light}
use Rattle.tables.proofs.Theorems.{kept_itself}
use Rattle.scratch.specs.Scratch.{len_cell}
use Rattle.records.specs.declared.Depth.{Depth}
use Rattle.records.specs.declared.Fate.{Fate}
use Rattle.records.specs.Records.{depth_by, fate_by, record_at_row}
use Rattle.reduction.specs.Working.{Told}
use Rattle.recording.specs.Recorded.{depth_of, fate_of, record_of}

-- The depth by a lead.
depth-told : (n : ℕ) → n ≤ 1024 → (x : Len) → Below n (one_less x) → depth_by (len_cell x) ≡ depth_of (one_less x)
depth-told n h (len L) b = rw (ne_eqb L 65535 (λ e. absurd (omega arith)))
depth-told n h endless b = refl

-- The fate by a lead: c is the row into which a reached row folds, and d one more than its new number if it is kept.
fate_told : (lead : ℕ) (none keeps : Bool) (q c p d i : ℕ) → eqb lead 0 ≡ none → (not none ≡ true → c ≡ p) → (not none ≡ true → keeps ≡ eqb p q)
    → (not none ≡ true → p ≡ q → d - 1 ≡ i) → fate_by q lead c d ≡ fate_of (spec.fate_by (not none) keeps i p)
fate_told lead true keeps q c p d i e f h g = rw e
fate_told lead false true q c p d i e f h g = let same = eqb-true p q (sym (h refl)) in rw (e, f refl, sym (h refl), g refl same)
fate_told lead false false q c p d i e f h g = rw (e, f refl, sym (h refl))

zero-cell : (x : Len) → eqb (len_cell x) 0 ≡ is_zero x
zero-cell (len L) = refl
zero-cell endless = ne_eqb 65535 0 (λ e. absurd (omega arith))

map-tabulate : {A B : Type 0} (g : A → B) (n : ℕ) (f : ℕ → A) → map g (tabulate n f) ≡ tabulate n (λ i. g (f i))
unfolding tabulate
map-tabulate g zero f = refl
map-tabulate g (suc n) f = ap (λ (l : List _). g (f 0) ∷ l) (map-tabulate g n (λ i. f (suc i)))

module _ (k : Offset) (mask : ℕ) (T : Table) (v : Valid T) (s : List ℕ) (t : Told (events_of (weight_by mask) T) (machine T) k s) where
  abbrev E : Events
  E = events_of (weight_by mask) T

  abbrev M : Machine
  M = machine T

  -- What the definition says of row q.
  abbrev told : ℕ → spec.Record
  told q = record { depth = depth E M q; fate = spec.fate_of E M k q }

  -- A row that is reached is kept just if it folds into itself.
  keeps : (q : ℕ) → q < T.rows → reached E M q ≡ true → some (eqb q) (kept E M k) ≡ eqb (fold E M k q) q
  keeps = kept_itself (weight_by mask) (mask_light mask T).at_most T v k

  record_told : (q : ℕ) → q < T.rows → record_at_row s T.rows q ≡ record_of (told q)
  unfolding depth spec.fate_of reached
  record_told q h =
      rw (t.leads q h)
      (ap₂ (λ (x : Depth) (y : Fate). record { depth = x; fate = y }) (depth-told T.rows v.rows_fit (lead E M q) (depth_below E M q v.some_row))
      (fate_told (len_cell (lead E M q)) (is_zero (lead E M q)) (some (eqb q) (kept E M k)) q (get_or s (2 * T.rows + q) 0) (fold E M k q) (get_or s (3 * T.rows + q) 0)
      (number E.count M (fold E M k) q) (zero-cell (lead E M q)) (t.folds q h) (keeps q h) (t.numbers q h)))

  pub all_told : tabulate T.rows (record_at_row s T.rows) ≡ map record_of (records (weight_by mask) k T)
  unfolding records
  all_told = tabulate-same T.rows (record_at_row s T.rows) (λ q. record_of (told q)) record_told ∙ sym (map-tabulate record_of T.rows told)
