-- How long a listing is at most, where every number in it is below 100,000.
use mathlib.Core.Bool.{Bool, true, false, cond}
use mathlib.Core.List.{List}
use Prim.Native.Nat.{ℕ, ◌+◌, ◌*◌, ◌≤◌, ◌<◌}
use native.Mathlib.Omega.{arith}
use lib.Dec.{eqb}
use lib.ListN.{length, get_or, length-append}
use Rattle.tables.specs.Table.{mark_of}
use Rattle.records.specs.declared.Record.{Record}
use Rattle.records.specs.declared.Depth.{Depth}
use Rattle.records.specs.declared.Depth.TheVariants.{Number, Endless}
use Rattle.records.specs.declared.Fate.{Fate}
use Rattle.records.specs.declared.Fate.TheVariants.{Kept, Folded, Unreached}
use Rattle.text.specs.Text.{text}
use Rattle.listing.specs.Listing.{target_word, mark_words, row_line, depth_words, fate_words, record_line, blank, listing}
use Rattle.text.proofs.Short.{Small, number_short, joined_short}
use Rattle.lines.proofs.Short.{head_short}

mark_short : (mark : ℕ) → length (mark_words mark) ≤ 7
unfolding mark_words
mark_short mark = pick (eqb mark 1)
  where
    pick : (b : Bool) → length (cond b (text " ready\n") (text " wait\n")) ≤ 7
    pick true = omega arith
    pick false = omega arith

-- The line of a new row.
row_short : (events : ℕ) (cells marks : List ℕ) (row : ℕ) → Small row → ((i : ℕ) → Small (get_or cells i 0)) → length (row_line events cells marks row) ≤ 12 + events * 6
unfolding row_line target_word
row_short events cells marks row h small =
    let targets = joined_short events 6 (target_word events cells row) (λ a l. simp length-append (omega (arith, number_short _ (small (row * events + a))))) in
    simp length-append (omega (arith, number_short row h, targets, mark_short (mark_of marks row)))

-- ---- records

abbrev pub SmallDepth : Depth → Type 0
SmallDepth (Number d) = Small d
SmallDepth Endless = Unit {0}

abbrev pub SmallFate : Fate → Type 0
SmallFate (Kept number) = Small number
SmallFate (Folded row) = Small row
SmallFate Unreached = Unit {0}

depth_short : (depth : Depth) → SmallDepth depth → length (depth_words depth) ≤ 15
unfolding depth_words
depth_short (Number d) h = simp length-append (omega (arith, number_short d h))
depth_short Endless h = omega arith

fate_short : (fate : Fate) (depth : Depth) → SmallFate fate → SmallDepth depth → length (fate_words fate depth) ≤ 28
unfolding fate_words
fate_short (Kept number) depth h g = simp length-append (omega (arith, number_short number h, depth_short depth g))
fate_short (Folded row) depth h g = simp length-append (omega (arith, number_short row h, depth_short depth g))
fate_short Unreached depth h g = omega arith

-- The line of a given row.
record_short : (row : ℕ) (r : Record) → Small row → SmallFate r.fate → SmallDepth r.depth → length (record_line row r) ≤ 33
unfolding record_line
record_short row r h f d = simp length-append (omega (arith, number_short row h, fate_short r.fate r.depth f d))

-- ---- the listing

pub listing_short : (rows events counted : ℕ) (cells marks : List ℕ) (given : ℕ) (records : List Record) → Small rows → Small events → Small counted → Small given → ((i : ℕ) → Small (get_or cells i 0))
    → ((q : ℕ) → q < given → SmallFate (get_or records q blank).fate × SmallDepth (get_or records q blank).depth)
    → length (listing rows events counted cells marks given records) ≤ 36 + rows * (12 + events * 6) + given * 33
unfolding listing
listing_short rows events counted cells marks given records hr he hc hg small each =
    let lines = joined_short rows (12 + events * 6) (row_line events cells marks) (λ q l. row_short events cells marks q (omega arith) small) in
    let told = joined_short given 33 (λ q. record_line q (get_or records q blank)) (λ q l. record_short q (get_or records q blank) (omega arith) (each q l).0 (each q l).1) in
    simp length-append (omega (arith, head_short (text "table ") rows events counted hr he hc, number_short given hg, lines, told))
