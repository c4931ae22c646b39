-- From cleared scratch, level by level, to the distances.
use mathlib.Core.Path.{◌≡◌, refl, sym, ap, subst, ◌∙◌}
use mathlib.Core.Bool.{Bool, false}
use mathlib.Core.List.{List}
use Prim.Native.Nat.{ℕ, suc, ◌+◌, ◌-◌, ◌≤◌, ◌<◌}
use native.Mathlib.Omega.{arith}
use borrow.Author.Tests.{le-ltb}
use lib.ListN.{length, get_or, drop, replicate, length-replicate, get_or-replicate}
use lib.Seq.{get_or-take}
use Rattle.automata.specs.Runs.{Events, Machine, Light}
use Rattle.tables.specs.Lists.{over}
use Rattle.tables.specs.Lengths.{distance}
use Rattle.tables.proofs.Over.{over-length, take-over, drop-over}
use Rattle.pairs.specs.Pairs.{triangle, pair_at, pairs}
use Rattle.scratch.specs.Scratch.{len_cell, cleared}
use Rattle.pairs.proofs.Cells.{pair_greater}
use Rattle.pairs.proofs.Pairs.{over-pairs}
use Rattle.distances.specs.Search.{Cells, Given, Begun, Settled, Ready, Risen, Lowered}
use Rattle.distances.proofs.Moves.{given_same}
use Rattle.distances.proofs.Levels.{start, lowered}
use Rattle.distances.proofs.Final.{answer_early, answer-full}

-- ---- cleared scratch

module _ (s : List ℕ) (n : ℕ) (room : n ≤ length s) where
  zeros : List ℕ
  zeros = replicate n 0

  count : 0 + length zeros ≡ n
  unfolding zeros
  count = omega (arith, length-replicate {A = ℕ} n 0)

  fits : 0 + length zeros ≤ length s
  fits = omega (arith, count)

  is_over : cleared s 0 n ≡ over s 0 zeros
  unfolding cleared zeros
  is_over =
      let e : n - 0 ≡ n = omega arith in
      rw (le-ltb (length s) n room, e)

  clear_length : length (cleared s 0 n) ≡ length s
  clear_length = ap (λ (t : List ℕ). length t) is_over ∙ over-length s 0 zeros fits

  clear_rest : drop n (cleared s 0 n) ≡ drop n s
  clear_rest = ap (drop n) is_over ∙ subst (λ (k : ℕ). drop k (over s 0 zeros) ≡ drop k s) count (drop-over s 0 zeros fits)

  clear_zero : (k : ℕ) → k < n → get_or (cleared s 0 n) k 0 ≡ 0
  unfolding zeros
  clear_zero k h =
      ap (λ (t : List ℕ). get_or t k 0) is_over
      ∙ sym (get_or-take (0 + length zeros) (over s 0 zeros) k 0 (omega (arith, count)))
      ∙ ap (λ (t : List ℕ). get_or t k 0) (take-over s 0 zeros fits)
      ∙ get_or-replicate {A = ℕ} n k 0 0 h

-- What the search has come to, from s on, before a level.
pub record Rising (E : Events) (M : Machine) (level : ℕ) (s t : List ℕ) : Type 0 where
  pub above : 0 < level
  pub most : level ≤ M.rows
  pub cells : Cells E M level (level - 1) t
  pub size : length t ≡ length s
  pub rest : drop (triangle M.rows) t ≡ drop (triangle M.rows) s

module _ {E : Events} {M : Machine} where
  pub clear_begun : (s t : List ℕ) (n : ℕ) → Given E M s → n ≡ triangle M.rows → t ≡ cleared s 0 n → Begun E M 0 t
  clear_begun s t n g hn ht =
      let size = clear_length s (triangle M.rows) g.room in
      rw (ht, hn) (start (cleared s 0 (triangle M.rows)) (given_same g size) (clear_zero s (triangle M.rows) g.room))

  pub clear_settled : (s t u : List ℕ) (n : ℕ) → Given E M s → n ≡ triangle M.rows → t ≡ cleared s 0 n → Settled E M 0 t u → Settled E M 0 s u
  clear_settled s t u n g hn ht v =
      let e : t ≡ cleared s 0 (triangle M.rows) = ht ∙ ap (cleared s 0) hn in
      record {
        cells = v.cells;
        size = v.size ∙ ap (λ (l : List ℕ). length l) e ∙ clear_length s (triangle M.rows) g.room;
        rest = v.rest ∙ ap (drop (triangle M.rows)) e ∙ clear_rest s (triangle M.rows) g.room;
      }

  -- s is scratch as it was lent, t with the first level settled, u as it is now.
  module _ {level : ℕ} {s t u : List ℕ} (g : Given E M s) (f : Settled E M 0 s t) (v : Rising E M level t u) where
    -- Each cell is right, so the whole triangle is.
    whole : (w : List ℕ) → length w ≡ length u → drop (triangle M.rows) w ≡ drop (triangle M.rows) u
        → ((q p : ℕ) → q < M.rows → p < M.rows → pair_at w q p ≡ len_cell (distance E M q p))
        → w ≡ over s 0 (pairs (λ q p. len_cell (distance E M q p)) M.rows)
    whole w size rest each =
        over-pairs (λ q p. len_cell (distance E M q p)) s w M.rows (omega (arith, g.room, f.size, v.size))
        (λ q p hq hp. sym (pair_greater w q p hp) ∙ each q p hq (omega arith))
        (rest ∙ v.rest ∙ f.rest)

    pub rising-early : {w : List ℕ} {r : Bool} → Light E → level < M.rows → Risen E M level u w r → r ≡ false
        → w ≡ over s 0 (pairs (λ q p. len_cell (distance E M q p)) M.rows)
    rising-early {w} z h n e =
        whole w n.settled.size n.settled.rest (answer_early g.sound z g.few level w h n.settled.cells v.above (n.none e))

    pub rising-full : Light E → M.rows ≤ level → u ≡ over s 0 (pairs (λ q p. len_cell (distance E M q p)) M.rows)
    rising-full z h =
        let a = v.above in
        let m = v.most in
        let e : level ≡ suc (level - 1) = omega arith in
        whole u refl refl (answer-full g.sound z g.few (level - 1) u (omega arith) (subst (λ (d : ℕ). Cells E M d (level - 1) u) e v.cells) (omega arith))

  -- One level more.
  pub rise_begun : (level n : ℕ) (s t : List ℕ) → Ready E M level s → n ≡ triangle M.rows → Lowered n level s t → Begun E M level t
  rise_begun level n s t b e low = lowered level s t b (subst (λ (k : ℕ). Lowered k level s t) e low)

  pub risen : (level n : ℕ) (s t u : List ℕ) (r : Bool) → Ready E M level s → n ≡ triangle M.rows → Lowered n level s t → Settled E M level t u
      → (r ≡ false → (k : ℕ) → k < n → get_or u k 0 ≡ level → ⊥) → Risen E M level s u r
  risen level n s t u r b e low g none =
      record {
        settled = record { cells = g.cells; size = g.size ∙ low.size; rest = g.rest ∙ subst (λ (k : ℕ). drop k t ≡ drop k s) e low.rest };
        none = λ z k h. none z k (omega arith);
      }
