-- What `given_up` prints is shorter than its buffer, whatever it reads.
use mathlib.Core.Path.{◌≡◌, subst}
use mathlib.Core.List.{List}
use Prim.Native.Nat.{ℕ, ◌≤◌, ◌<◌, min}
use native.Mathlib.Omega.{arith}
use lib.ListN.{length}
use Rattle.automata.specs.Runs.{Events, Machine, len}
use Rattle.tables.specs.Table.{Table, Offset, machine, events_of, weight_by}
use Rattle.tables.specs.Reduction.{Fate, kept_as, folded_into, unreached, Record, fate_of, records}
use Rattle.tables.proofs.Lists.{tabulate-at}
use Rattle.tables.proofs.Bounds.{FateWithin, record_most}
use Rattle.chosen.specs.GivenUp.{Loss, given_up}
use Rattle.chosen.proofs.Most.{run_below, Most, given_most}
use Rattle.text.proofs.Short.{joined_short}
use Rattle.loss_text.proofs.Short.{loss_short}
use Rattle.image_text.proofs.Short.{Inside}
use Rattle.image_text.proofs.Offsets.{offset_most}
use Rattle.loss_desk.specs.Printed.{fate_line, line_of, text_of_losses, printed}

module _ (k : Offset) (mask : ℕ) (T : Table) (inside : Inside T) where
  abbrev E : Events
  E = events_of (weight_by mask) T

  abbrev M : Machine
  M = machine T

  fate_in : (q : ℕ) → q < T.rows → FateWithin T.rows (fate_of E M k q)
  unfolding records
  fate_in q h =
      let none : Record = record { depth = len 0; fate = unreached } in
      subst (λ (r : Record). FateWithin T.rows r.fate) (tabulate-at T.rows _ q none h) (record_most (weight_by mask) k T inside.start_inside inside.cells_in q none h).0

  line_short : (q : ℕ) → q < T.rows → (g : Loss) → Most E M g → (f : Fate) → FateWithin T.rows f → length (fate_line q g f) ≤ 416
  line_short q h g m (kept_as i) w = omega arith
  line_short q h g m unreached w = omega arith
  line_short q h g m (folded_into p) w =
      let few = inside.few_rows in
      omega (
        arith,
        m.run_most,
        few,
        loss_short q p g.far g.run (omega arith) (omega arith) (omega (arith, m.far_most)) (λ i l. omega (arith, run_below E g.run m.events i l, inside.events_few)),
      )

  text_short : length (text_of_losses k mask T) ≤ 65535
  unfolding text_of_losses line_of given_up
  text_short =
      let lines = joined_short T.rows 416 (line_of k mask T) (λ q h. line_short q h (given_up (weight_by mask) k T q) (given_most E M q (fate_of E M k q)) (fate_of E M k q) (fate_in q h)) in
      omega (arith, lines, inside.few_rows)

-- For every input, also one that is no list of bytes.
pub short : (input : List ℕ) → length (printed input) < 65536
unfolding printed
short input = omega (arith, offset_most text_of_losses input 65535 (omega arith) text_short)

-- So a buffer of 65,536 bytes takes all of it: that is what `write_loss_text` answers for one.
pub whole : (input out : List ℕ) → length out ≡ 65536 → min (length (printed input)) (length out) ≡ length (printed input)
whole input out e = omega (arith, short input)
