-- What `reduce` prints is shorter than its buffer, whatever it reads.
use mathlib.Core.Path.{◌≡◌}
use mathlib.Core.List.{List, map}
use Prim.Native.Nat.{ℕ, ◌+◌, ◌*◌, ◌≤◌, ◌<◌, min}
use native.Mathlib.Nat.{mul-le-mul}
use native.Mathlib.Omega.{arith}
use lib.ListN.{length, get_or, get_or-map}
use Rattle.automata.specs.Runs.{Len, len, endless}
use Rattle.tables.specs.Table.{Table, Offset, weight_by}
use Rattle.tables.specs.Reduction as spec
use Rattle.tables.specs.Reduction.{kept_as, folded_into, unreached, reduced, records}
use Rattle.tables.proofs.Lengths.{Below}
use Rattle.tables.proofs.Bounds.{FateWithin, events_same, rows_most, cells_most, record_most}
use Rattle.records.specs.declared.Record.{Record}
use Rattle.recording.specs.Recorded.{depth_of, fate_of, record_of}
use Rattle.weights.specs.Weights.{counted}
use Rattle.weights.proofs.Counts.{counted_few}
use Rattle.image_text.proofs.Short.{Inside}
use Rattle.image_text.proofs.Offsets.{offset_most}
use Rattle.listing.proofs.Short.{SmallDepth, SmallFate, listing_short}
use Rattle.listing.specs.Listing.{blank}
use Rattle.desk.specs.Printed.{reduction_text, printed}

-- ---- a listing

small-depth : (n : ℕ) → n ≤ 128 → (d : Len) → Below n d → SmallDepth (depth_of d)
small-depth n few (len d) h = omega arith
small-depth n few endless h = tt

small_fate : (n : ℕ) → n ≤ 128 → (f : spec.Fate) → FateWithin n f → SmallFate (fate_of f)
small_fate n few (kept_as i) h = omega arith
small_fate n few (folded_into p) h = omega arith
small_fate n few unreached h = tt

-- The listing of a table within the limits.
module _ (k : Offset) (mask : ℕ) (T : Table) (inside : Inside T) where
  abbrev told : List Record
  told = map record_of (records (weight_by mask) k T)

  record_small : (q : ℕ) → q < T.rows → SmallFate (get_or told q blank).fate × SmallDepth (get_or told q blank).depth
  record_small q h =
      let none : spec.Record = record { depth = len 0; fate = unreached } in
      let r = get_or (records (weight_by mask) k T) q none in
      let most = record_most (weight_by mask) k T inside.start_inside inside.cells_in q none h in
      rw (get_or-map record_of (records (weight_by mask) k T) q none) (small_fate T.rows inside.few_rows r.fate most.0, small-depth T.rows inside.few_rows r.depth most.1)

  reduction_short : length (reduction_text k mask T) ≤ 65535
  unfolding reduction_text
  reduction_short =
      let U = reduced (weight_by mask) k T in
      let rows : U.rows ≤ 128 = omega (arith, rows_most (weight_by mask) k T inside.start_inside inside.cells_in) in
      let line : 12 + U.events * 6 ≤ 204 = omega (arith, events_same (weight_by mask) k T) in
      let lines = mul-le-mul rows line in
      omega (
        arith,
        listing_short U.rows U.events (counted mask U.events) U.cells U.marks T.rows told (omega arith) (omega arith) (omega (arith, counted_few mask U.events)) (omega arith) (λ i. omega (arith, cells_most (weight_by mask) k T inside.start_inside inside.cells_in i)) record_small,
      )

-- ---- the input

-- For every input, also one that is no list of bytes.
pub short : (input : List ℕ) → length (printed input) < 65536
unfolding printed
short input = omega (arith, offset_most reduction_text input 65535 (omega arith) reduction_short)

-- So a buffer of 65,536 bytes takes all of it: that is what `write_text` answers for one.
pub whole : (input out : List ℕ) → length out ≡ 65536 → min (length (printed input)) (length out) ≡ length (printed input)
whole input out e = omega (arith, short input)
