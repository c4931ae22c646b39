-- What the answer says of the table, and what is known of the leads that were found.
use mathlib.Core.Path.{◌≡◌, refl, sym, ap, subst, ◌∙◌}
use mathlib.Core.Bool.{Bool, true, false, not, true≢false, false≢true}
use mathlib.Core.List.{List}
use mathlib.Core.Logic.{◌⊎◌, inl, inr}
use Prim.Native.Nat.{ℕ, ◌+◌, ◌≤◌, ◌<◌}
use native.Mathlib.Omega.{arith}
use borrow.Author.Tests.{le-leb, lt-leb}
use lib.ListN.{length}
use Rattle.automata.specs.Runs.{Len, len, endless}
use Rattle.tables.specs.Lengths.{lead}
use Rattle.tables.specs.Table.{Table, machine, events_of, weight_by}
use Rattle.tables.proofs.Lengths.{Below, lead-below}
use Rattle.rules.specs.Rules.{judged, winch, table_checks}
use Rattle.scratch.specs.Scratch.{lead_in, few_cells, len_cell, fine, workable_in}
use Rattle.scratch.proofs.Works.{not-fine, fine-room}
use Rattle.scratch.proofs.Soundness.{within_shape, within_sound}
use Rattle.quick_depths.specs.Leads.{Space, Found}

-- The leads are at most as many as there are rows, or endless.
lead-small : (n : ℕ) (x : Len) → Below (n + 1) x → (len_cell x ≤ n) ⊎ (len_cell x ≡ 65535)
lead-small n (len L) h = inl (omega arith)
lead-small n endless h = inr refl

pub found-small : {mask : ℕ} {T : Table} {s t : List ℕ} → Found mask T s t → (q : ℕ) → q < T.rows → (lead_in t q ≤ T.rows) ⊎ (lead_in t q ≡ 65535)
found-small {mask} {T} f q h =
    subst (λ (x : ℕ). (x ≤ T.rows) ⊎ (x ≡ 65535)) (sym (f.leads q h)) (lead-small T.rows (lead (events_of (weight_by mask) T) (machine T) q) (lead-below (events_of (weight_by mask) T) (machine T) q))

-- What the contract says of the answer r.
abbrev pub Promise : ℕ → Table → List ℕ → List ℕ → Bool → Type 0
Promise mask T s t r = (r ≡ workable_in few_cells T (length s)) × (r ≡ true → Found mask T s t) × (r ≡ false → t ≡ s)

-- As the code asks: whether the table is valid, and whether there is room.
module _ (mask : ℕ) (T : Table) (s : List ℕ) (valid : Bool) (e : valid ≡ fine (judged (table_checks winch T))) where
  refused : workable_in few_cells T (length s) ≡ false → Promise mask T s s false
  refused w = (sym w, λ t. absurd (false≢true t), λ t. refl)

  pub not_valid : valid ≡ false → Promise mask T s s false
  not_valid h = refused (not-fine T valid e (ap not h) few_cells (length s))

  module _ (h : valid ≡ true) where
    pub no_room : length s < few_cells T.rows → Promise mask T s s false
    no_room l = refused (fine-room T valid e (ap not h) few_cells (few_cells T.rows) (length s) refl ∙ lt-leb (few_cells T.rows) (length s) l)

    module _ (room : few_cells T.rows ≤ length s) where
      works : workable_in few_cells T (length s) ≡ true
      works = fine-room T valid e (ap not h) few_cells (few_cells T.rows) (length s) refl ∙ le-leb (few_cells T.rows) (length s) room

      pub ready : Space T.rows T.events T.cells s × (T.start < T.rows)
      ready =
          let shape = within_shape few_cells T (length s) works in (
            record {
              given = record {
                some = shape.some_row;
                few = shape.rows_fit;
                events = shape.events_fit;
                long = omega (arith, shape.all_cells);
                target_inside = (within_sound few_cells T (length s) works (weight_by mask)).target_inside;
              };
              room = room;
            },
            shape.start_inside,
          )

      pub answered : {t : List ℕ} → Found mask T s t → Promise mask T s t true
      answered f = (sym works, λ g. f, λ g. absurd (true≢false g))
