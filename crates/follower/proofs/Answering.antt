-- What is shown, by the table's shape and then the follower's row.
use mathlib.Core.Path.{◌≡◌, ap, ◌∙◌}
use mathlib.Core.List.{[], ◌∷◌}
use Prim.Native.Nat.{ℕ}
use Rattle.tables.specs.Table.{Table, Offset}
use Rattle.rules.specs.Rules.{Verdict, and_then, judged, winch, row_rule, shape_checks}
use Rattle.rules.proofs.Judged.{judged-append, then_fine}
use Rattle.follower.specs.Follow.{shown_by, shown}

pub shown_is : (k : Offset) (T : Table) (row count : ℕ) → shown k T row count ≡ shown_by (and_then (judged (shape_checks winch T)) (row_rule T.rows row)) k T row count
unfolding shown
shown_is k T row count =
    ap (λ (v : Verdict). shown_by v k T row count)
    (judged-append (shape_checks winch T) (row_rule T.rows row ∷ []) ∙ ap (and_then (judged (shape_checks winch T))) (then_fine (row_rule T.rows row)))
