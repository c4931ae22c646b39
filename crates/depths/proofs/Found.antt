-- From a table that can be worked on, and the leads before the first event, to those that are found.
use mathlib.Core.Path.{◌≡◌, refl, sym, subst, ◌∙◌}
use mathlib.Core.Bool.{Bool, true}
use mathlib.Core.List.{List}
use mathlib.Core.Logic.{◌⊎◌, inl}
use Prim.Native.Nat.{ℕ, ◌-◌, ◌≤◌, ◌<◌, min}
use native.Mathlib.Omega.{arith}
use native.Mathlib.Decide.{ℕ_discrete}
use lib.ListN.{length, get_or, set, length-set}
use mir.Syntax.{w8}
use mir.Val.{Fits}
use lib.Seq.{get_or-set_same, get_or-set_other}
use Rattle.automata.proofs.Runs.{Reach, stay, less}
use Rattle.tables.specs.Lists.{over}
use Rattle.tables.specs.Lengths.{lead}
use Rattle.tables.specs.Table.{Table, machine, events_of, weight_by}
use Rattle.tables.proofs.Over.{front-tabulate, rest, rest-length}
use Rattle.tables.proofs.Reduced.{sound_of}
use Rattle.pairs.specs.Pairs.{leads_at, workable}
use Rattle.scratch.specs.Scratch.{len_cell, cleared, lead_in}
use Rattle.scratch.proofs.Cells.{cleared-length, cleared-behind, cleared_inside}
use Rattle.pairs.proofs.Works.{workable_valid}
use Rattle.depths.specs.Depths.{lead_cells}
use Rattle.depths.specs.Steps.{Workspace, Known, Started, Settled}
use Rattle.depths.proofs.Moves.{same_space}
use Rattle.depths.proofs.AtRest.{cell-lead}

-- What the search needs to know of a table that can be worked on. It is lent the scratch from the leads on.
pub record Ready (T : Table) (s : List ℕ) (at : ℕ) : Type 0 where
  pub from : at ≤ length s
  pub space : Workspace T.rows T.events T.cells (rest s at)
  pub start_inside : T.start < T.rows
  pub events_fit : T.events ≤ 32

-- As the code answers, by r. Mark bytes are bytes.
pub ready : (T : Table) (s : List ℕ) → ((i : ℕ) → Fits w8 (get_or T.marks i 0)) → {r : Bool} → r ≡ workable T (length s) → r ≡ true → {at : ℕ} → at ≡ leads_at T.rows → Ready T s at
ready T s bytes e t {at} place =
    let w = workable_valid T (length s) (sym e ∙ t) (λ i. omega (arith, bytes i)) in
    record {
      from = omega (arith, w.1);
      space = record {
        rows_fit = w.0.rows_fit;
        target_inside = (sound_of (λ a. 0) T T refl w.0).target_inside;
        room = omega (arith, w.1, rest-length s at);
      };
      start_inside = w.0.start_inside;
      events_fit = w.0.events_fit;
    }

-- ---- before the first event
module _ (mask : ℕ) (T : Table) {s : List ℕ} (b : Started T.rows T.start s) (start_inside : T.start < T.rows) where
  -- What holds of the start with 1, and of each row with 0, holds of the leads.
  each : (P : ℕ → ℕ → Type 0) → P T.start 1 → ((q : ℕ) → P q 0) → (q : ℕ) → q < T.rows → P q (lead_in s q)
  each P one none q hq = elim (ℕ_discrete q T.start) [
    | yes e ↦ subst (λ (x : ℕ). P x (lead_in s x)) (sym e) (subst (P T.start) (sym b.here) one)
    | no h ↦ subst (P q) (sym (b.other q hq h)) (none q)
  ]

  pub first_known : Known (events_of (weight_by mask) T) (machine T) s
  first_known = record {
    start_inside = start_inside;
    small = each (λ q c. (c ≤ T.rows) ⊎ (c ≡ 65535)) (inl (omega arith)) (λ q. inl (omega arith));
    run = each (λ q c. 0 < c → Reach (events_of (weight_by mask) T) (machine T) q (min (c - 1) T.rows)) (λ h. less (omega arith) (stay T.start)) (λ q h. absurd (omega arith));
    begun = omega (arith, b.here);
  }

-- ---- at rest

-- The leads that are found from there on.
pub settled-leads : (mask : ℕ) (T : Table) {s s' : List ℕ} → Workspace T.rows T.events T.cells s → T.start < T.rows → Known (events_of (weight_by mask) T) (machine T) s
    → Settled mask T.rows T.events T.cells s s' → (q : ℕ) → q < T.rows → lead_in s' q ≡ len_cell (lead (events_of (weight_by mask) T) (machine T) q)
settled-leads mask T {s} {s'} u inside k g =
    cell-lead mask T s' u.rows_fit (record { start_inside = inside; target_inside = u.target_inside }) ((g.grown T.start T.marks).known k) (g.quiet T.start T.marks)

-- As the code does it: it clears the first cells, and puts 1 at the start's.
module _ (mask : ℕ) (T : Table) {s : List ℕ} (u : Workspace T.rows T.events T.cells s) (inside : T.start < T.rows) where
  abbrev n : ℕ
  n = T.rows

  abbrev first : List ℕ
  first = set (cleared s 0 n) T.start 1

  size : length (cleared s 0 n) ≡ length s
  size = cleared-length s 0 n (omega arith) u.room

  started : Started n T.start first
  started = record {
    here = get_or-set_same (cleared s 0 n) T.start 1 0 (omega (arith, size, u.room));
    other = λ q h e. get_or-set_other (cleared s 0 n) T.start q 1 0 e ∙ cleared_inside s 0 n (omega arith) u.room q (omega arith) h;
  }

  space : Workspace n T.events T.cells first
  space = same_space u (length-set (cleared s 0 n) T.start 1 ∙ size)

  found : {s' : List ℕ} → Settled mask n T.events T.cells first s' → s' ≡ over s 0 (lead_cells (weight_by mask) T)
  unfolding lead_cells
  found {s'} g = front-tabulate s s' n (λ q. len_cell (lead (events_of (weight_by mask) T) (machine T) q))
      (g.same_length ∙ length-set (cleared s 0 n) T.start 1 ∙ size) u.room
      (settled-leads mask T space inside (first_known mask T started inside) g)
      (λ k h. g.behind k h ∙ get_or-set_other (cleared s 0 n) T.start k 1 0 (λ e. omega arith) ∙ cleared-behind s 0 n (omega arith) u.room k h)

  pub found_by_lem : {s₁ s₂ s₃ : List ℕ} → s₁ ≡ cleared s 0 n → s₂ ≡ set s₁ T.start 1
      → (Workspace n T.events T.cells s₂ → Settled mask n T.events T.cells s₂ s₃) → s₃ ≡ over s 0 (lead_cells (weight_by mask) T)
  found_by_lem {s₁} {s₂} {s₃} e₁ e₂ g = found ((rw e at g) space)
    where
      e : s₂ ≡ first
      e = rw (e₂, e₁)
