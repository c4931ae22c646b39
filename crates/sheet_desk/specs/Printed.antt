-- What `sheet` prints for the bytes that it reads.
use Rattle.std.specs.Prelude.{List, ℕ}
use Rattle.tables.specs.Table.{Table, offset, none, weight_by}
use Rattle.tables.specs.Reduction.{reduced}
use Rattle.weights.specs.Weights.{counted}
use Rattle.sheet_rules.specs.Checks.{entries}
use Rattle.sheet_text.specs.Sheet.{sheet_lines}
use Rattle.image_text.specs.ImageText.{mask_at, masked_text, input_text}

-- The sheet of a table: the offsets are those "from 0 to 2 × rows", and a count is the row count of that offset's reduction.
unfoldable pub text_of_sheet : ℕ → Table → List ℕ
text_of_sheet mask T =
    sheet_lines T.rows T.events (counted mask T.events) (entries T.rows) (λ k. (reduced (weight_by mask) (offset k) T).rows) (reduced (weight_by mask) none T).rows

-- The input is a mask of four bytes and an image; "or `refused NUMBER PLACE`".
unfoldable pub printed : List ℕ → List ℕ
printed input = let mask = mask_at input 0 in input_text 4 (masked_text mask (text_of_sheet mask)) input
