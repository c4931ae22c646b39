-- "A follower that moves on its first event and then stands still" breaks demand 2.
use mathlib.Core.Path.{refl}
use mathlib.Core.List.{List, [], ◌∷◌}
use mathlib.Core.Logic.{◌≢◌}
use Prim.Native.Nat.{ℕ, zero, suc, ◌<◌}
use native.Mathlib.Omega.{arith}
use lib.ListN.{get_or}
use Rattle.automata.specs.Runs.{Run, shows}
use Rattle.tables.specs.Table.{Table, Valid, mark_of, target_of, machine, events_of, weight_by}
use Rattle.tables.specs.Lists.{position}
use Rattle.tables.proofs.Cases.{C}
use Rattle.marks.specs.Marks.{spare_bits_set}
use Rattle.rules.proofs.Shape.{table_valid}

-- Its row after a run: where the first event leads.
abbrev pub standing : Table → List ℕ → ℕ
standing T [] = T.start
standing T (event ∷ run) = target_of T T.start event

C_bytes : (i : ℕ) → get_or C.marks i 0 < 256
C_bytes zero = omega arith
C_bytes (suc i) = omega arith

-- Document 01's C is a valid table.
pub C_valid : Valid C
unfolding position spare_bits_set
C_valid = (table_valid C C_bytes).0 refl

-- There is a valid table, and a run of it after which the mark of that row is not what the table shows: two events of C, its only event counted.
-- The mark that the contract gives is what the table shows (`answers` in Runs.antt).
pub stands_still : (T : Table) × Valid T × (w : List ℕ) × Run (events_of (weight_by 1) T) w × (mark_of T.marks (standing T w) ≢ shows (machine T) w)
stands_still = (C, C_valid, 0 ∷ 0 ∷ [], (omega arith, (omega arith, tt)), λ e. omega arith)
