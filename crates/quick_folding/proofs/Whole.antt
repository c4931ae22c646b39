-- From the leads to the order, and from the labels to the rows into which rows fold.
use mathlib.Core.Path.{◌≡◌, sym, ap, subst, ◌∙◌}
use mathlib.Core.Bool.{Bool, true, false, not, true≢false}
use mathlib.Core.List.{List}
use mathlib.Core.Logic.{⊎_elim}
use Prim.Native.Nat.{ℕ, ◌+◌, ◌*◌, ◌≤◌, ◌<◌}
use native.Mathlib.Omega.{arith}
use borrow.Author.Tests.{eqb-false}
use lib.Dec.{eqb}
use lib.ListN.{length, get_or}
use lib.Seq.{get_or-take}
use Rattle.automata.specs.Runs.{Events, Machine, Len, len, endless}
use Rattle.automata.proofs.Tests.{either, flip_true}
use Rattle.tables.specs.Lengths.{lead, is_zero, reached}
use Rattle.tables.specs.Table.{Table, Offset, offset, weight_by, machine, events_of}
use Rattle.tables.specs.Reduction.{order, fold}
use Rattle.tables.proofs.Lengths.{lead-unreached}
use Rattle.rules.specs.Rules.{winch}
use Rattle.rules.proofs.Shape.{Shape}
use Rattle.scratch.specs.Scratch.{lead_in, len_cell, few_cells, workable_in}
use Rattle.scratch.specs.Folds.{Folds}
use Rattle.scratch.specs.Order.{order_of}
use Rattle.scratch.proofs.Works.{within_fine}
use Rattle.scratch.proofs.Soundness.{within_shape}
use Rattle.scratch.proofs.Order.{order_meaning}
use Rattle.levels.specs.Levels.{far, apart}
use Rattle.levels.proofs.Folds.{fold_far}
use Rattle.buckets.specs.Buckets as Buckets
use Rattle.quick_depths.specs.Leads.{Found}
use Rattle.quick_depths.proofs.Told.{found-small}
use Rattle.quick_folding.specs.Parts.{label_at, fold_at, Valued, Labels}
use Rattle.quick_folding.specs.State.{Fits, Laid, Apart, Folded}
use Rattle.quick_folding.specs.Parting.{Aparts, apart_at, Measured}
use Rattle.quick_folding.proofs.Moves.{same_behind, fold_some}

-- The cell of a lead is 0 just for rows that are not reached.
pub cell-reached : (E : Events) (M : Machine) (q : ℕ) → reached E M q ≡ true → len_cell (lead E M q) ≡ 0 → ⊥
unfolding reached
cell-reached E M q = pick (lead E M q)
  where
    pick : (x : Len) → not (is_zero x) ≡ true → len_cell x ≡ 0 → ⊥
    pick (len c) r e = eqb-false c 0 (flip_true (eqb c 0) r) e
    pick endless r e = omega arith

reached-cell : (E : Events) (M : Machine) (q : ℕ) → (len_cell (lead E M q) ≡ 0 → ⊥) → reached E M q ≡ true
reached-cell E M q ne = ⊎_elim (λ r. r) (λ r. absurd (ne (ap len_cell (lead-unreached E M q r)))) (either (reached E M q))

-- What a public function ensures, where X is to hold of what it leaves.
abbrev Answered : Table → Type 0 → List ℕ → List ℕ → Bool → Type 0
Answered T X s t r =
    (r ≡ workable_in few_cells T (length s))
    × (r ≡ true → X)
    × (r ≡ false → t ≡ s)
    × (length t ≡ length s)
    × ((i : ℕ) → few_cells T.rows ≤ i → get_or t i 0 ≡ get_or s i 0)

-- What the search for the leads ensures.
module _ (mask : ℕ) (T : Table) {s t₁ : List ℕ} {r : Bool} (e : r ≡ workable_in few_cells T (length s)) where
  module _ (search : r ≡ true → Found mask T s t₁) (h : r ≡ true) where
    abbrev E : Events
    E = events_of (weight_by mask) T

    abbrev M : Machine
    M = machine T

    abbrev n : ℕ
    n = T.rows

    w : workable_in few_cells T (length s) ≡ true
    w = sym e ∙ h

    d : Found mask T s t₁
    d = search h

    shape : Shape winch T
    shape = within_shape few_cells T (length s) w

    pub small : n ≤ 1024
    small = shape.rows_fit

    -- What the ordering asks.
    orderly : Buckets.Room n t₁
    orderly =
        record {
          some = shape.some_row;
          few = small;
          room = omega (arith, (within_fine few_cells T (length s) w).1, d.kept.size);
          leads = found-small d;
        }

    module _ {t₂ : List ℕ} {count : ℕ} (ordering : Buckets.Room n t₁ → Buckets.Ordered n t₁ t₂ count) where
      o : Buckets.Ordered n t₁ t₂ count
      o = ordering orderly

      order_is : order_of (lead_in t₁) n ≡ order E M
      order_is = order_meaning E M (lead_in t₁) small d.leads

      counted : count ≡ length (order E M)
      counted = o.number ∙ ap length order_is

      same_front : (x : ℕ) → x < 3 * n → get_or t₂ x 0 ≡ get_or t₁ x 0
      same_front x l = sym (get_or-take (3 * n) t₂ x 0 l) ∙ ap (λ (y : List ℕ). get_or y x 0) o.before ∙ get_or-take (3 * n) t₁ x 0 l

      laid : Laid E M 0 t₂
      laid =
          record {
            leads = λ q l. same_front q (omega arith) ∙ d.leads q l;
            order_from = λ x l g. o.places x (omega (arith, counted)) ∙ ap (λ (y : List ℕ). get_or y x 0) order_is;
          }

      -- What the sweep asks.
      pub sweepable : {k : ℕ} → k ≤ 65535 → Fits T k t₂ × Laid E M 0 t₂ × (count ≡ length (order E M))
      sweepable l = (record { workable = ap (workable_in few_cells T) (o.size ∙ d.kept.size) ∙ w; offset = l }, laid, counted)

      -- The sweep has left the leads, and a label for each reached row.
      module _ {t₃ : List ℕ} (a : Apart n t₂ t₃) (inside : (q : ℕ) → q < n → reached E M q ≡ true → label_at n t₃ q < n) where
        pub lead_is : (q : ℕ) → q < n → lead_in t₃ q ≡ len_cell (lead E M q)
        lead_is q l = a.leads q l ∙ laid.leads q l

        -- What the naming asks.
        pub labels : Labels n t₃
        labels =
            record {
              few = small;
              room = omega (arith, a.size, o.size, orderly.room);
              inside = λ q l ne. inside q l (reached-cell E M q (λ z. ne (lead_is q l ∙ z)));
            }

        pub answered : {t₄ : List ℕ} {f : ℕ → ℕ} {X : Type 0} → Valued n n f t₃ t₄ → X → Answered T X s t₄ true
        answered v x = (
          sym w,
          λ g. x,
          λ g. absurd (true≢false g),
          v.size ∙ a.size ∙ o.size ∙ d.kept.size,
          λ i l.
              v.above i (omega arith) ∙ a.behind i l ∙ same_behind (7 * n) t₂ t₁ o.behind i (omega arith) ∙ d.kept.behind i (omega arith),
        )

      -- The rows at the labels are the folds.
      pub folds-named : {k : ℕ} {t₃ t₄ : List ℕ} → Folded E M k t₂ t₃ → (x : Offset) → k ≡ far n x → Valued n n (fold_at n t₃) t₃ t₄ → Folds E M x t₄
      folds-named {k} {t₃} f x at v = record {
        leads = λ q l. v.below q (omega arith) ∙ lead_is f.apart f.inside q l;
        folds = λ q l u.
            v.here q l
            ∙ fold_some n t₃ q (λ z. cell-reached E M q u (sym (lead_is f.apart f.inside q l) ∙ z)) ∙ f.folds q l u
            ∙ ap (λ (y : ℕ). fold E M (offset y) q) at ∙ sym (ap (λ (y : ℕ → ℕ). y q) (fold_far E M x shape.some_row));
      }

      -- What was noted are the least distances.
      pub aparts-named : {t₃ t₄ : List ℕ} → Measured E M t₂ t₃ → Valued n n (apart_at n t₃) t₃ t₄ → Aparts E M 0 t₄
      aparts-named {t₃} {t₄} f v = record {
        leads = λ q l. (let g : q ≡ 0 + q = omega arith in subst (λ (x : ℕ). get_or t₄ x 0 ≡ len_cell (lead E M q)) g (v.below q (omega arith) ∙ lead_is f.beside f.inside q l));
        aparts = λ q l u. (let g : 2 * n + q ≡ 0 + 2 * n + q = omega arith in subst (λ (x : ℕ). get_or t₄ x 0 ≡ len_cell (apart E M q)) g (v.here q l ∙ f.cells q l u));
      }
