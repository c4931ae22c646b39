-- The rows that are left after a round that drops none are endless.
use mathlib.Core.Path.{◌≡◌, refl, sym, ap, subst, ◌∙◌}
use mathlib.Core.Bool.{Bool}
use mathlib.Core.List.{List}
use mathlib.Core.Logic.{inr}
use Prim.Native.Nat.{ℕ, zero, suc, ◌+◌, ◌*◌, ◌≤◌, ◌<◌}
use native.Mathlib.Omega.{arith}
use lib.ListN.{length, get_or, set}
use lib.Seq.{get_or-set_other}
use Rattle.automata.proofs.Runs.{Reach, ◌then◌, less}
use Rattle.tables.specs.Table.{Table, machine, events_of, weight_by}
use Rattle.rules.specs.Rules.{table_of}
use Rattle.scratch.specs.Scratch.{lead_in, cleared}
use Rattle.depths.specs.Steps.{Known}
use Rattle.depths.proofs.Moves.{grown-lead}
use Rattle.quick_depths.specs.Leads.{left_at, seen_at, Space, Marked, Grows}
use Rattle.quick_depths.specs.Rounds.{From, Spread, Fine, Dropped, Whole, SetRow, not_left, set_it, Round}
use Rattle.quick_depths.proofs.Growth.{marked_then, kept_then, kept_lead}
use Rattle.scratch.proofs.Cells.{cleared-length, cleared-before, cleared-behind, cleared_inside}

-- ---- a round
pub round_of : {mask n m : ℕ} {cells s t u v w : List ℕ} {r : Bool} → 12 * n ≤ length s → t ≡ cleared s (6 * n) (7 * n) → Spread mask n m cells t u → Spread mask n m cells u v
    → Dropped n v w r ((q : ℕ) → q < n → Fine n v q) → Round mask n m cells s w r
round_of {mask} {n} {m} {cells} {s} {t} {u} {v} {w} room e f g d =
    let tb : (k : ℕ) → k < 6 * n → get_or t k 0 ≡ get_or s k 0 = λ k h. ap (λ (x : List ℕ). get_or x k 0) e ∙ cleared-before s (6 * n) (7 * n) (omega arith) (omega arith) k h in
    let te : (k : ℕ) → 7 * n ≤ k → get_or t k 0 ≡ get_or s k 0 = λ k h. ap (λ (x : List ℕ). get_or x k 0) e ∙ cleared-behind s (6 * n) (7 * n) (omega arith) (omega arith) k h in
    let tz : (q : ℕ) → q < n → seen_at n t q ≡ 0 = λ q h. ap (λ (x : List ℕ). get_or x (6 * n + q) 0) e ∙ cleared_inside s (6 * n) (7 * n) (omega arith) (omega arith) (6 * n + q) (omega arith) (omega arith) in
    let mv : Marked n s v = record {
      size = g.size ∙ f.size ∙ ap length e ∙ cleared-length s (6 * n) (7 * n) (omega arith) (omega arith);
      before = λ k h. g.before k (omega arith) ∙ f.before k (omega arith) ∙ tb k (omega arith);
      behind = λ k h. g.behind k h ∙ f.behind k h ∙ te k (omega arith);
    } in
    record {
      marked = marked_then mv d.marked;
      whole = λ z start marks q hq l.
          let same : w ≡ v = d.same z in
          let l' : 0 < left_at n v q = subst (λ (x : List ℕ). 0 < left_at n x q) same l in
          let ok = d.rest z q hq l' in
          let from : From mask (table_of n m start cells marks) v q = g.seeing start marks (f.seeing start marks (λ y hy k. absurd (omega (arith, tz y hy)))) q hq ok.0 in
          subst (λ (x : List ℕ). (0 < lead_in x q) × From mask (table_of n m start cells marks) x q) (sym same) (ok.1, from);
    }

-- ---- runs of every size lead to the rows that are left
module _ {mask n m : ℕ} {cells s : List ℕ} (whole : Whole mask n m cells s) (start : ℕ) (marks : List ℕ) where
  abbrev T : Table
  T = table_of n m start cells marks

  every : Known (events_of (weight_by mask) T) (machine T) s → (c q : ℕ) → q < n → 0 < left_at n s q → Reach (events_of (weight_by mask) T) (machine T) q c
  every k zero q hq l = less (omega arith) (k.run q hq (whole start marks q hq l).0)
  every k (suc c) q hq l =
      let f = (whole start marks q hq l).1 in
      less (omega arith) (every k c f.row f.inside f.left then f.way)

-- The rows below q that are left have endless leads.
pub record Setting (mask n m : ℕ) (cells s t : List ℕ) : Type 0 where
  pub grows : Grows mask n m cells s t
  pub same : (k : ℕ) → n ≤ k → get_or t k 0 ≡ get_or s k 0

setting_set : {mask n m : ℕ} {cells s t : List ℕ} (q : ℕ) → Space n m cells s → Whole mask n m cells s → Setting mask n m cells s t → q < n → (left_at n t q ≡ 0 → ⊥) → Setting mask n m cells s (set t q 65535)
setting_set {mask} {n} {m} {cells} {s} {t} q u whole g hq left = record {
  grows = record {
    kept = kept_then g.grows.kept (kept_lead t q 65535 hq);
    grown = λ start marks.
        grown-lead mask (table_of n m start cells marks) t q 65535 (omega (arith, g.grows.kept.size, u.room)) (omega arith) (inr refl) (g.grows.grown start marks)
        (λ k. less (omega arith) (every whole start marks k n q hq (omega (arith, g.same (4 * n + q) (omega arith)))));
  };
  same = λ k h. get_or-set_other t q k 65535 0 (λ e. omega arith) ∙ g.same k h;
}

pub setting_next : {mask n m : ℕ} {cells s t u : List ℕ} (q : ℕ) → Space n m cells s → Whole mask n m cells s → Setting mask n m cells s t → q < n → SetRow n q t u → Setting mask n m cells s u
setting_next {mask} {n} {m} {cells} {s} q p whole g hq (not_left e) = subst (Setting mask n m cells s) (sym e) g
setting_next {mask} {n} {m} {cells} {s} q p whole g hq (set_it left e) = subst (Setting mask n m cells s) (sym e) (setting_set q p whole g hq left)
