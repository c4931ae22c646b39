-- How a line goes on, number by number.
use mathlib.Core.Path.{◌≡◌, sym, ap}
use mathlib.Core.List.{List, ◌++◌}
use Prim.Native.Nat.{ℕ, ◌+◌}
use lib.ListN.{length, get_or}
use Rattle.text.specs.Text.{text, decimal, joined, Puts}
use Rattle.text.proofs.Buffer.{puts_as, puts_then, puts_next}
use Rattle.printing.specs.Lines.{spaced, line}

module _ (numbers : List ℕ) where
  -- One number more.
  pub spaced-next : {out mid exit : List ℕ} {at m end : ℕ} (i : ℕ)
      → Puts out at (joined i (spaced numbers)) mid m → Puts mid m (text " " ++ decimal (get_or numbers i 0)) exit end → Puts out at (joined (i + 1) (spaced numbers)) exit end
  unfolding spaced
  spaced-next i p q = puts_next (spaced numbers) i p q

  -- The word, all numbers, and the line's end.
  pub line-all : {out worded numbered exit word : List ℕ} {at m n end : ℕ} (i : ℕ) → i ≡ length numbers
      → Puts out at word worded m → Puts worded m (joined i (spaced numbers)) numbered n → Puts numbered n (text "\n") exit end → Puts out at (line word numbers) exit end
  unfolding line
  line-all i e p q r = puts_then (puts_then p (puts_as (ap (λ (n : ℕ). joined n (spaced numbers)) (sym e)) q)) r
