-- A listing as document 01 prints it, computed from the definitions.
use mathlib.Core.Path.{◌≡◌, refl}
use mathlib.Core.List.{[], ◌∷◌}
use Rattle.records.specs.declared.Record.{Record}
use Rattle.records.specs.declared.Depth.{Depth}
use Rattle.records.specs.declared.Depth.TheVariants.{Number, Endless}
use Rattle.records.specs.declared.Fate.{Fate}
use Rattle.records.specs.declared.Fate.TheVariants.{Kept, Unreached}
use Rattle.text.specs.Text.{text, decimal_in, decimal, joined}
use Rattle.lines.specs.Lines.{pair_line, head_line}
use Rattle.listing.specs.Listing.{target_word, mark_words, row_line, depth_words, fate_words, record_line, listing}

abbrev row : Fate → Depth → Record
row fate depth = record { depth = depth; fate = fate }

-- The listing of F, with a row that is unreached; its one event counts.
pub F : listing 1 1 1 (0 ∷ []) (0 ∷ []) 2 (row (Kept 0) Endless ∷ row Unreached (Number 0) ∷ []) ≡ text "table 1 1 1\n0 0 wait\nfolds 2\n0 kept 0 depth endless\n1 unreached\n"
unfolding decimal_in decimal joined pair_line head_line target_word mark_words row_line depth_words fate_words record_line listing
F = refl
