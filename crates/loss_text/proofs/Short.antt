-- How long the line is at most, where rows and distances are below 1,000 and events below 100.
use mathlib.Core.List.{List}
use Prim.Native.Nat.{ℕ, ◌+◌, ◌*◌, ◌≤◌, ◌<◌}
use native.Mathlib.Omega.{arith}
use lib.ListN.{length, get_or, length-append}
use Rattle.text.proofs.Decimal.{decimal-length}
use Rattle.text.proofs.Short.{joined_short}
use Rattle.loss_text.specs.LossText.{event_word, loss_line}

event_short : (run : List ℕ) (i : ℕ) → get_or run i 0 < 100 → length (event_word run i) ≤ 3
unfolding event_word
event_short run i h = simp length-append (omega (arith, decimal-length 1 (get_or run i 0) h))

pub loss_short : (row into distance : ℕ) (run : List ℕ) → row < 1000 → into < 1000 → distance < 1000 → ((i : ℕ) → i < length run → get_or run i 0 < 100)
    → length (loss_line row into distance run) ≤ 32 + 3 * length run
unfolding loss_line
loss_short row into distance run h g f each =
    let events = joined_short (length run) 3 (event_word run) (λ i l. event_short run i (each i l)) in
    simp length-append (omega (arith, decimal-length 2 row h, decimal-length 2 into g, decimal-length 2 distance f, events))
