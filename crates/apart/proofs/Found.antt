-- What either way leaves in scratch for all pairs of rows, and which is taken.
use mathlib.Core.Path.{◌≡◌, sym, ap, subst, ◌∙◌}
use mathlib.Core.Bool.{Bool, true, false}
use mathlib.Core.List.{List}
use Prim.Native.Nat.{ℕ, ◌+◌, ◌≤◌, ◌<◌}
use native.Mathlib.Omega.{arith}
use native.Mathlib.Decide.{dec_lt}
use borrow.Author.Tests.{lt-ltb, le-ltb}
use lib.ListN.{length, get_or, set}
use Rattle.automata.proofs.Tests.{clash}
use Rattle.tables.specs.Table.{Table, machine, events_of, weight_by}
use Rattle.tables.proofs.Counted.{mask_light}
use Rattle.pairs.specs.Pairs.{triangle, folds_start, needed, workable}
use Rattle.pairs.proofs.Figures.{few_fit, same_works}
use Rattle.pairs.proofs.Works.{workable-fine, workable_shape, workable_sound}
use Rattle.scratch.specs.Scratch.{len_cell, few_cells, workable_in}
use Rattle.lengths.specs.Lengths.{Holds, lengths_in}
use Rattle.lengths.proofs.Found.{lengths-size, lengths-not, lengths-hold, lengths_beyond}
use Rattle.levels.proofs.Sheet.{apart_is}
use Rattle.quick_folding.specs.Parts.{Wrote}
use Rattle.quick_folding.specs.Parting.{Aparts}
use Rattle.quick_folding.proofs.Moves.{wrote_next}
use Rattle.apart.specs.Steps.{apart_at}
use Rattle.apart.specs.Finding.{leads_from, Finding}
use Rattle.apart.proofs.Pairs.{apart_held, apart-still}

-- The next one is put.
pub put_next : (n : ℕ) (s t : List ℕ) {at q x : ℕ} → at ≡ folds_start n → needed n ≤ length s → q < n → Wrote at q (λ p. apart_at n s p n) s t → x ≡ apart_at n t q n
    → Wrote at (q + 1) (λ p. apart_at n s p n) s (set t (at + q) x)
put_next n s t {at} {q} {x} e room h d is = wrote_next x (omega arith) d (is ∙ apart-still n s t (λ i g. d.below i (omega arith)) q h n (omega arith))

-- By pairs, where r tells whether they could be found.
module _ (mask : ℕ) (T : Table) (s : List ℕ) {r : Bool} {t : List ℕ} (test : r ≡ workable T (length s)) (e : t ≡ lengths_in mask T s) where
  abbrev n : ℕ
  n = T.rows

  pub pairs-not : r ≡ false → Finding (triangle n) mask T s t
  pairs-not h = let g = sym test ∙ h in record { found = λ w. clash w g; unchanged = λ w. e ∙ lengths-not mask T s g }

  module _ (h : r ≡ true) where
    works : workable T (length s) ≡ true
    works = sym test ∙ h

    size : length t ≡ length s
    size = ap length e ∙ lengths-size mask T s

    held : Holds (events_of (weight_by mask) T) (machine T) t
    held = rw e (lengths-hold mask T s works)

    pub pairs-few : n ≤ 1024
    pairs-few = (workable_shape T (length s) works).rows_fit

    pub pairs-room : needed n ≤ length t
    pairs-room = omega (arith, size, (workable-fine T (length s) works).1)

    -- All have been put two regions behind the leads.
    pub pairs-found : {u : List ℕ} → Wrote (folds_start n) n (λ q. apart_at n t q n) t u → Finding (triangle n) mask T s u
    pairs-found d = record {
      found = λ w. record {
        size = d.size ∙ size;
        aparts = record {
          leads = λ q g. d.below (triangle n + q) (omega arith) ∙ held.leads_hold q g;
          aparts = λ q g v. d.here q g ∙ apart_held pairs-few held q g n (omega arith)
              ∙ ap len_cell (sym (apart_is (workable_sound T (length s) works (weight_by mask)) (mask_light mask T) q g v));
        };
        beyond = λ i g. d.above i (omega arith) ∙ ap (λ (l : List ℕ). get_or l i 0) e ∙ lengths_beyond mask T s i (omega arith);
      };
      unchanged = λ w. clash works w;
    }

module _ (mask : ℕ) (T : Table) (s t : List ℕ) where
  -- Nothing is done where nothing can be.
  pub not_found : (from : ℕ) → workable T (length s) ≡ false → t ≡ s → Finding from mask T s t
  not_found from h e = record { found = λ w. clash w h; unchanged = λ w. e }

  -- From 17 rows on there is room for levels.
  pub levels-found : (r : Bool) → r ≡ workable_in few_cells T (length s) → (r ≡ true → Aparts (events_of (weight_by mask) T) (machine T) 0 t) → (r ≡ false → t ≡ s)
      → length t ≡ length s → ((i : ℕ) → few_cells T.rows ≤ i → get_or t i 0 ≡ get_or s i 0) → 17 ≤ T.rows → needed T.rows ≤ length s → Finding 0 mask T s t
  levels-found r works aparts same size beyond many room =
      let few = few_fit T.rows many in
      let both = same_works few_cells needed T (length s) (omega arith) room in
      record {
        found = λ w. record { size = size; aparts = aparts (works ∙ both ∙ w); beyond = λ i h. beyond i (omega arith) };
        unchanged = λ w. same (works ∙ both ∙ w);
      }

  -- Where the leads stand.
  pub from-pairs : T.rows < 17 → {r : ℕ} → r ≡ triangle T.rows → Finding (triangle T.rows) mask T s t → (r ≡ leads_from T.rows) × Finding (leads_from T.rows) mask T s t
  from-pairs h e f =
      let g : triangle T.rows ≡ leads_from T.rows = sym (rw (lt-ltb T.rows 17 h)) in
      (e ∙ g, subst (λ (x : ℕ). Finding x mask T s t) g f)

  pub from_front : 17 ≤ T.rows → Finding 0 mask T s t → (0 ≡ leads_from T.rows) × Finding (leads_from T.rows) mask T s t
  from_front h f =
      let g : 0 ≡ leads_from T.rows = sym (rw (le-ltb T.rows 17 h)) in
      (g, subst (λ (x : ℕ). Finding x mask T s t) g f)

-- It is one of the cells that are needed.
pub from_low : (n : ℕ) → leads_from n ≤ needed n
from_low n = elim (dec_lt n 17) [
  | yes h ↦ (let g : leads_from n ≡ triangle n = rw (lt-ltb n 17 h) in omega arith)
  | no h ↦ (let g : leads_from n ≡ 0 = rw (le-ltb n 17 (omega arith)) in omega arith)
]

-- Both ways to find, for the check.
pub ruleset found_either_way = (from-pairs, from_front)
