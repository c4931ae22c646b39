-- What `given_up` prints for the bytes that it reads.
use Rattle.std.specs.Prelude.{List, [], ℕ}
use Rattle.tables.specs.Table.{Table, Offset, machine, events_of, weight_by}
use Rattle.tables.specs.Reduction.{Fate, kept_as, folded_into, unreached, fate_of}
use Rattle.chosen.specs.GivenUp.{Loss, given_up}
use Rattle.text.specs.Text.{joined}
use Rattle.image_text.specs.ImageText.{offset_text}
use Rattle.loss_text.specs.LossText.{loss_line}

-- The line of row q by its fate: only a folded row has one.
abbrev pub fate_line : ℕ → Loss → Fate → List ℕ
fate_line q g (folded_into p) = loss_line q p g.far g.run
fate_line q g (kept_as i) = []
fate_line q g unreached = []

-- The line of row q, where a mask says which events count.
unfoldable pub line_of : Offset → ℕ → Table → ℕ → List ℕ
line_of k mask T q = fate_line q (given_up (weight_by mask) k T q) (fate_of (events_of (weight_by mask) T) (machine T) k q)

-- The lines of a table's folded rows.
unfoldable pub text_of_losses : Offset → ℕ → Table → List ℕ
text_of_losses k mask T = joined T.rows (line_of k mask T)

-- What is printed for an input, which is that of `reduce`.
unfoldable pub printed : List ℕ → List ℕ
printed input = offset_text text_of_losses input
