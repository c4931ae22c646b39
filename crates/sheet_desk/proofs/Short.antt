-- What `sheet` prints is shorter than its buffer, whatever it reads.
use mathlib.Core.Path.{◌≡◌}
use mathlib.Core.List.{List}
use Prim.Native.Nat.{ℕ, ◌≤◌, ◌<◌, min}
use native.Mathlib.Omega.{arith}
use lib.ListN.{length, length-append}
use Rattle.tables.specs.Table.{Table, Offset, offset, none, weight_by}
use Rattle.tables.specs.Reduction.{reduced}
use Rattle.tables.proofs.Bounds.{rows_most}
use Rattle.weights.specs.Weights.{counted}
use Rattle.weights.proofs.Counts.{counted_few}
use Rattle.text.specs.Text.{text}
use Rattle.lines.specs.Lines.{pair_line}
use Rattle.text.proofs.Short.{number_short, joined_short}
use Rattle.lines.proofs.Short.{pair_short, head_short}
use Rattle.image_text.specs.ImageText.{mask_at, masked_text}
use Rattle.image_text.proofs.Short.{Inside}
use Rattle.image_text.proofs.Front.{input-short, masked_short}
use Rattle.sheet_rules.specs.Checks.{entries}
use Rattle.sheet_text.specs.Sheet.{none_line, sheet_lines}
use Rattle.sheet_desk.specs.Printed.{text_of_sheet, printed}

-- A sheet has 257 offsets at most.
sheet_short : (mask : ℕ) (T : Table) → Inside T → length (text_of_sheet mask T) ≤ 3119
unfolding none_line sheet_lines text_of_sheet
sheet_short mask T inside =
    let least : (k : Offset) → (reduced (weight_by mask) k T).rows ≤ T.rows = λ k. rows_most (weight_by mask) k T inside.start_inside inside.cells_in in
    let few = inside.few_rows in
    let lines = joined_short (entries T.rows) 12 (λ k. pair_line k (reduced (weight_by mask) (offset k) T).rows) (λ k h. pair_short k (reduced (weight_by mask) (offset k) T).rows (omega arith) (omega (arith, least (offset k)))) in
    simp length-append
    (omega (arith, head_short (text "sheet ") T.rows T.events (counted mask T.events) (omega arith) (omega (arith, inside.events_few)) (omega (arith, inside.events_few, counted_few mask T.events)), lines, number_short (reduced (weight_by mask) none T).rows (omega (arith, least none))))

-- For every input, also one that is no list of bytes.
pub short : (input : List ℕ) → length (printed input) < 65536
unfolding printed
short input =
    let mask : ℕ = mask_at input 0 in
    let room : 20 ≤ 3119 = omega arith in
    omega (arith, input-short 4 (masked_text mask (text_of_sheet mask)) 3119 room (λ T inside. masked_short mask (text_of_sheet mask) 3119 room T (sheet_short mask T inside)) input)

-- So a buffer of 65,536 bytes takes all of it: that is what `write_sheet_text` answers for one.
pub whole : (input out : List ℕ) → length out ≡ 65536 → min (length (printed input)) (length out) ≡ length (printed input)
whole input out e = omega (arith, short input)
