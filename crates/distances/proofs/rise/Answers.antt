use Prim.Native.Nat.{ℕ, ◌≤◌, ◌<◌}
use mathlib.Core.Path.{◌≡◌, sym, ◌∙◌}
use mathlib.Core.Bool.{Bool, false, true≢false}
use mathlib.Core.List.{List}
use native.Mathlib.Omega.{arith}
use borrow.Author.Tests.{eq-eqb}
use lib.Dec.{eqb}
use lib.ListN.{length, get_or, take, length-take}
use lib.Seq.{get_or-take}
use Rattle.std.specs.List.{list_any}
use Rattle.std.proofs.lemmas.List.Folds.{list_any_at}
use Rattle.distances.proofs.Rising.{rise_begun, risen}
use Rattle.distances.proofs.rise.Goals as goal

-- A number that is found nowhere among the first cells is none of them.
absent : (s : List ℕ) (n v : ℕ) (r : Bool) → n ≤ length s → r ≡ list_any (λ y. eqb y v) (take n s) → r ≡ false → (k : ℕ) → k < n → get_or s k 0 ≡ v → ⊥
absent s n v r room found e k h here =
    true≢false
    (sym (list_any_at (λ y. eqb y v) (take n s) k 0 (omega (arith, length-take n s)) (eq-eqb _ v (get_or-take n s k 0 h ∙ here))) ∙ sym found ∙ e)

pub settle-requires : goal.settle-requires
settle-requires c = let w = c.lower in
    rise_begun c.args.level _ c.args.scratch.now w.new.scratch c.requires c.pair_cells-count.ensures w.ensures

pub returns : goal.returns
returns c = let w = c.lower in
    let g = c.settle in
    risen c.args.level _ c.args.scratch.now w.new.scratch g.new.scratch c.contains.result c.requires c.pair_cells-count.ensures w.ensures g.ensures
    (absent g.new.scratch _ c.args.level _ (omega arith) c.contains.ensures.value)
