-- A refusal as document 01 prints it, computed from the definitions.
use mathlib.Core.Path.{◌≡◌, refl}
use Rattle.text.specs.Text.{text, decimal_in, decimal}
use Rattle.lines.specs.Lines.{pair_line, refusal_line}

-- With the largest place that there is.
pub refusal : refusal_line 12 18446744073709551615 ≡ text "refused 12 18446744073709551615\n"
unfolding decimal_in decimal pair_line refusal_line
refusal = refl
