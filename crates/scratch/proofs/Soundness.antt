-- A workable table is small and describes a sound machine, whatever its mark bytes are.
use mathlib.Core.Path.{◌≡◌, refl, sym, subst}
use mathlib.Core.Bool.{true}
use Prim.Native.Nat.{ℕ, ◌+◌, ◌*◌, ◌<◌}
use lib.Arith.{digits_lt}
use lib.ListN.{length, get_or}
use Rattle.automata.specs.Runs.{Sound}
use Rattle.tables.specs.Table.{Table, machine, events_of}
use Rattle.rules.specs.Rules.{winch, content_checks}
use Rattle.rules.proofs.Checks.{unbroken, passed, all_inside}
use Rattle.rules.proofs.Shape.{Shape, table-fine}
use Rattle.scratch.specs.Scratch.{workable_in}
use Rattle.scratch.proofs.Works.{within_fine}

module _ (need : ℕ → ℕ) (T : Table) (room : ℕ) (w : workable_in need T room ≡ true) where
  pub within_shape : Shape winch T
  within_shape = (table-fine winch T (within_fine need T room w).0).0

  cells_in : (i : ℕ) → i < length T.cells → get_or T.cells i 0 < T.rows
  cells_in =
      (all_inside T.rows T.cells (length T.cells) refl).0
      (unbroken _ _ _ (passed (content_checks T.rows T.cells T.marks) (table-fine winch T (within_fine need T room w).0).1 0))

  pub within_sound : (weight : ℕ → ℕ) → Sound (events_of weight T) (machine T)
  within_sound weight =
      record {
        start_inside = within_shape.start_inside;
        target_inside = λ q a hq ha. cells_in (q * T.events + a) (subst (λ (n : ℕ). q * T.events + a < n) (sym within_shape.all_cells) (digits_lt hq ha));
      }
