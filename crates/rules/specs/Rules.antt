-- "Refused, and on what": each rule as a test with its number and place, and the checks of a table in their order.
use Rattle.std.specs.Prelude.{Bool, true, false, not, ◌||◌, List, [], ◌∷◌, ◌++◌, ℕ, ◌*◌, ◌/◌, eqb, leb, ltb, length, get_or, Result, Ok, Err, Option, Some, None}
use Rattle.tables.specs.Table.{Table, Offset, offset, none, mark_byte_count}
use Rattle.tables.specs.Lists.{position, over}
use Rattle.marks.specs.Marks.{spare_bits_set}
use Rattle.weights.specs.Weights.{spare_bit_set}
use Rattle.rules.specs.declared.Limits.{Limits}
use Rattle.rules.specs.declared.Rule.{Rule}
use Rattle.rules.specs.declared.Rule.TheVariants.{Rows, Events, Lengths, Row, Target, SpareMark, Room, Short, Count, Trailing, Event, Large, List as ListRoom, Step, Pack, Mask, Seed, Run, Unlike}
use Rattle.rules.specs.declared.Refusal.{Refusal}
use Rattle.rules.specs.declared.Table as Lent

-- The number of each rule.
abbrev pub number_of : Rule → ℕ
number_of Rows = 1
number_of Events = 2
number_of Lengths = 3
number_of Row = 4
number_of Target = 5
number_of SpareMark = 6
number_of Room = 7
number_of Short = 8
number_of Count = 9
number_of Trailing = 10
number_of Event = 11
number_of Large = 12
number_of ListRoom = 13
number_of Step = 14
number_of Pack = 15
number_of Mask = 16
number_of Seed = 17
number_of Run = 18
number_of Unlike = 19

-- A rule that is broken, at a place; place is 0 where document 01 names none.
abbrev pub refusal : Rule → ℕ → Refusal
refusal r place = record { rule = r; place = place }

-- What checks say: nothing is broken, or which rule is, and where.
abbrev pub Verdict : Type 0
Verdict = Result Unit Refusal

-- Nothing is broken.
abbrev pub sound : Verdict
sound = Ok tt

-- A broken rule refuses.
abbrev pub rule : Rule → Bool → ℕ → Verdict
rule r true place = Err (refusal r place)
rule r false place = sound

-- The first refusal; then what comes after.
abbrev pub and_then : Verdict → Verdict → Verdict
and_then (Ok u) v = v
and_then (Err e) v = Err e

-- The first rule broken gives the answer.
abbrev pub judged : List Verdict → Verdict
judged [] = sound
judged (v ∷ l) = and_then v (judged l)

-- A lent buffer afterwards: s in front and what was there beyond it; all as it was if a rule is broken.
abbrev pub left_by : Verdict → List ℕ → List ℕ → List ℕ
left_by (Ok u) d s = over d 0 s
left_by (Err e) d s = d

-- The winch: 1 to 1,024 rows and 1 to 32 events.
abbrev pub winch : Limits
winch = record { rows = 1024; events = 32 }

-- A count that is 0 or above its limit.
abbrev pub outside : ℕ → ℕ → Bool
outside most n = eqb n 0 || ltb most n

-- The place of the first cell that is no row.
abbrev pub first_outside_at : ℕ → List ℕ → ℕ
first_outside_at rows cells = position (leb rows) cells

-- 1: the rows are 0 or above the limit.
abbrev pub rows_rule : Limits → ℕ → Verdict
rows_rule L rows = rule Rows (outside L.rows rows) 0

-- 2: the events are 0 or above the limit.
abbrev pub events_rule : Limits → ℕ → Verdict
events_rule L events = rule Events (outside L.events events) 0

-- 3: the given cells or mark bytes are not the number required.
abbrev pub lengths_rule : Table → Verdict
lengths_rule T = rule Lengths (not (eqb (length T.cells) (T.rows * T.events)) || not (eqb (length T.marks) (mark_byte_count T.rows))) 0

-- 4: the start, or a follower's row, is no row.
abbrev pub row_rule : ℕ → ℕ → Verdict
row_rule rows row = rule Row (leb rows row) 0

-- 5: a target is no row; place: the first such cell.
abbrev pub cells_rule : ℕ → List ℕ → Verdict
cells_rule rows cells = rule Target (ltb (first_outside_at rows cells) (length cells)) (first_outside_at rows cells)

-- 6: a spare mark bit is set, in the last byte.
abbrev pub spare_rule : ℕ → ℕ → Verdict
spare_rule rows last = rule SpareMark (spare_bits_set rows last) 0

-- 7: a lent buffer is shorter than named.
abbrev pub room_rule : ℕ → ℕ → Verdict
room_rule needed given = rule Room (ltb given needed) 0

-- 16: "a mask bit at or above the event count is set".
abbrev pub mask_rule : ℕ → ℕ → Verdict
mask_rule mask events = rule Mask (spare_bit_set mask events) 0

-- Rules 1 to 4, of a table that is given.
abbrev pub shape_checks : Limits → Table → List Verdict
shape_checks L T = rows_rule L T.rows ∷ events_rule L T.events ∷ lengths_rule T ∷ row_rule T.rows T.start ∷ []

-- Rules 5 and 6.
abbrev pub content_checks : ℕ → List ℕ → List ℕ → List Verdict
content_checks rows cells marks = cells_rule rows cells ∷ spare_rule rows (get_or marks (rows / 8) 0) ∷ []

-- Rules 1 to 6.
abbrev pub table_checks : Limits → Table → List Verdict
table_checks L T = shape_checks L T ++ content_checks T.rows T.cells T.marks

-- Rules 1 to 6, and 16 straight after 6.
abbrev pub masked_checks : Limits → ℕ → Table → List Verdict
masked_checks L mask T = table_checks L T ++ (mask_rule mask T.events ∷ [])

-- A table as it is passed to a call.
abbrev pub table_of : ℕ → ℕ → ℕ → List ℕ → List ℕ → Table
table_of rows events start cells marks = record { rows = rows; events = events; start = start; cells = cells; marks = marks }

-- A table as it is lent to a call.
abbrev pub lent : Lent.Table → Table
lent t = table_of t.rows t.events t.start t.cells.now t.marks.now

-- The offset that the code's value stands for.
abbrev pub offset_of : Option ℕ → Offset
offset_of (Some k) = offset k
offset_of None = none
