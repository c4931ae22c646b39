use mathlib.Core.Path.{ap}
use Rattle.records.specs.declared.Fate.{Fate}
use Rattle.listing.specs.Listing.{fate_words}
use Rattle.text.proofs.Buffer.{puts_as}
use Rattle.listing.proofs.put_fate.Goals as goal

pub returns-in-Kept : goal.returns-in-Kept
unfolding fate_words
returns-in-Kept c = puts_as (ap (λ (f : Fate). fate_words f c.args.depth) c.in-Kept.is) c.put_reached.ensures

pub returns-in-Folded : goal.returns-in-Folded
unfolding fate_words
returns-in-Folded c = puts_as (ap (λ (f : Fate). fate_words f c.args.depth) c.in-Folded.is) c.put_reached-in-Folded.ensures

pub returns-in-Unreached : goal.returns-in-Unreached
unfolding fate_words
returns-in-Unreached c = puts_as (ap (λ (f : Fate). fate_words f c.args.depth) c.in-Unreached.is) c.put_text.ensures
