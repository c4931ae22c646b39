-- Counting the rows that go at each offset, and what is left of them.
use mathlib.Core.Path.{◌≡◌, refl, sym, ap, subst, ◌∙◌}
use mathlib.Core.Bool.{true, false}
use mathlib.Core.List.{List}
use Prim.Native.Nat.{ℕ, zero, suc, ◌+◌, ◌-◌, ◌≤◌, ◌<◌}
use native.Mathlib.Omega.{arith}
use native.Mathlib.Decide.{ℕ_discrete, dec_lt}
use lib.Dec.{eqb, leb}
use borrow.Author.Tests.{lt-ltb, le-ltb, le-leb, eq-eqb, ne_eqb}
use lib.ListN.{length, get_or, set, length-set, replicate, length-replicate, get_or-replicate}
use lib.Seq.{get_or-set_same, get_or-set_other}
use Rattle.automata.proofs.Count.{bit, count, count_next, count_bound, count-split, count-all}
use Rattle.tables.specs.Lists.{tabulate, over}
use Rattle.tables.proofs.Lists.{tabulate-length, tabulate-same}
use Rattle.tables.proofs.Over.{over-length, over_inside, over-behind, over_again, front-tabulate, front_at}
use Rattle.scratch.specs.Scratch.{cleared}
use Rattle.scratch.proofs.Cells.{clear_front}
use Rattle.sheet_counts.specs.Steps.{goes_at, gone_at, kept_at, counted, left_of, Enough}

-- ---- rows that go

-- Of the first m rows, it has been counted in the first `many` places of l how many go at each offset.
pub record Tallied (from n : ℕ) (s : List ℕ) (many : ℕ) (l₀ l : List ℕ) (m : ℕ) : Type 0 where
  pub size : length l ≡ length l₀
  pub here : (k : ℕ) → k < many → get_or l k 0 ≡ gone_at from n s m k
  pub beyond : (k : ℕ) → many ≤ k → get_or l k 0 ≡ get_or l₀ k 0

-- One more is counted, or nothing is.
pub counted_yes : (l : List ℕ) (many at : ℕ) → at < many → set l at (get_or l at 0 + 1) ≡ counted l many at
counted_yes l many at h = sym (rw (lt-ltb at many h) refl)

pub counted_no : (l : List ℕ) (many at : ℕ) → many ≤ at → l ≡ counted l many at
counted_no l many at h = sym (rw (le-ltb at many h) refl)

module _ (from n : ℕ) (s : List ℕ) (many : ℕ) (l₀ : List ℕ) (room : many ≤ length l₀) where
  pub tallied_none : {l : List ℕ} → l ≡ cleared l₀ 0 many → Tallied from n s many l₀ l 0
  unfolding count
  tallied_none e =
      let z : List ℕ = replicate many 0 in
      let zeros : length z ≡ many = length-replicate many 0 in
      let w = e ∙ clear_front l₀ many room in
      let fits : 0 + length z ≤ length l₀ = omega arith in
      record {
        size = ap length w ∙ over-length l₀ 0 z fits;
        here = λ k h. ap (λ (x : List ℕ). get_or x k 0) w ∙ front k z fits (omega arith) ∙ get_or-replicate many k 0 0 h;
        beyond = λ k h. ap (λ (x : List ℕ). get_or x k 0) w ∙ over-behind l₀ 0 z fits k 0 (omega arith);
      }
    where
      front : (k : ℕ) (z : List ℕ) → 0 + length z ≤ length l₀ → k < length z → get_or (over l₀ 0 z) k 0 ≡ get_or z k 0
      front k z fits h =
          let g : 0 + k ≡ k = omega arith in
          subst (λ (x : ℕ). get_or (over l₀ 0 z) x 0 ≡ get_or z k 0) g (over_inside l₀ 0 z fits k 0 h)

  module _ {l : List ℕ} {m : ℕ} (t : Tallied from n s many l₀ l m) where
    -- A count is at most the number of rows seen.
    pub tallied-small : (at : ℕ) → at < many → get_or l at 0 ≤ m
    tallied-small at h = omega (arith, t.here at h, count_bound (λ q. eqb (goes_at from n s q) at) m)

    pub tallied-next : {l' : List ℕ} {at : ℕ} → at ≡ goes_at from n s m → l' ≡ counted l many at → Tallied from n s many l₀ l' (suc m)
    tallied-next {l'} {at} ha e = elim (dec_lt at many) [
      | yes h ↦ (let w : l' ≡ set l at (get_or l at 0 + 1) = e ∙ sym (counted_yes l many at h) in record {
        size = ap length w ∙ length-set l at (get_or l at 0 + 1) ∙ t.size;
        here = λ k g. ap (λ (x : List ℕ). get_or x k 0) w ∙ elim (ℕ_discrete k at) [
          | yes i ↦ ap (λ (x : ℕ). get_or (set l at (get_or l at 0 + 1)) x 0) i ∙ get_or-set_same l at (get_or l at 0 + 1) 0 (omega (arith, t.size))
              ∙ ap (λ (x : ℕ). get_or l x 0 + 1) (sym i) ∙ one k g (eq-eqb (goes_at from n s m) k (sym ha ∙ sym i))
          | no i ↦ get_or-set_other l at k (get_or l at 0 + 1) 0 i ∙ other k g (ne_eqb (goes_at from n s m) k (λ j. i (sym j ∙ sym ha)))
        ];
        beyond = λ k g. ap (λ (x : List ℕ). get_or x k 0) w ∙ get_or-set_other l at k (get_or l at 0 + 1) 0 (λ i. omega arith) ∙ t.beyond k g;
      })
      | no h ↦ (let w : l' ≡ l = e ∙ sym (counted_no l many at (omega arith)) in record {
        size = ap length w ∙ t.size;
        here = λ k g. ap (λ (x : List ℕ). get_or x k 0) w ∙ other k g (ne_eqb (goes_at from n s m) k (λ j. omega arith));
        beyond = λ k g. ap (λ (x : List ℕ). get_or x k 0) w ∙ t.beyond k g;
      })
    ]
      where
        one : (k : ℕ) → k < many → eqb (goes_at from n s m) k ≡ true → get_or l k 0 + 1 ≡ gone_at from n s (suc m) k
        one k g u = omega (arith, t.here k g, count_next (λ q. eqb (goes_at from n s q) k) m, ap bit u)

        other : (k : ℕ) → k < many → eqb (goes_at from n s m) k ≡ false → get_or l k 0 ≡ gone_at from n s (suc m) k
        other k g u = omega (arith, t.here k g, count_next (λ q. eqb (goes_at from n s q) k) m, ap bit u)

  pub tallied_all : {l : List ℕ} {m : ℕ} → Tallied from n s many l₀ l m → m ≡ n → l ≡ over l₀ 0 (tabulate many (gone_at from n s n))
  tallied_all {l} {m} t e = front-tabulate l₀ l many (gone_at from n s n) t.size room (λ k h. t.here k h ∙ ap (λ (x : ℕ). gone_at from n s x k) e) t.beyond

-- ---- rows that are left

-- In the first k places of l stands what is left of n, and `left` is what is left then.
pub record Settled (n : ℕ) (l₀ l : List ℕ) (left k : ℕ) : Type 0 where
  pub size : length l ≡ length l₀
  pub rest : left ≡ left_of n l₀ k
  pub done : (i : ℕ) → i < k → get_or l i 0 ≡ left_of n l₀ (suc i)
  pub ahead : (i : ℕ) → k ≤ i → get_or l i 0 ≡ get_or l₀ i 0

pub settled-none : (n : ℕ) (l : List ℕ) → Settled n l l n 0
unfolding left_of
settled-none n l = record { size = refl; rest = refl; done = λ i h. absurd (omega arith); ahead = λ i h. refl }

module _ {n many : ℕ} {l₀ : List ℕ} (e : Enough n many l₀) {l : List ℕ} {left k : ℕ} (t : Settled n l₀ l left k) where
  pub settled-next : k < many → Settled n l₀ (set l k (left - get_or l k 0)) (left - get_or l k 0) (k + 1)
  unfolding left_of
  settled-next h =
      let x : ℕ = left - get_or l k 0 in
      let more : x ≡ left_of n l₀ k - get_or l₀ k 0 = omega (arith, t.rest, t.ahead k (omega arith)) in
      let next : suc k ≡ k + 1 = omega arith in
      record {
        size = length-set l k x ∙ t.size;
        rest = more ∙ ap (left_of n l₀) next;
        done = λ i g. elim (ℕ_discrete i k) [
          | yes j ↦ ap (λ (y : ℕ). get_or (set l k x) y 0) j ∙ get_or-set_same l k x 0 (omega (arith, t.size, e.within)) ∙ more ∙ ap (λ (y : ℕ). left_of n l₀ (suc y)) (sym j)
          | no j ↦ get_or-set_other l k i x 0 j ∙ t.done i (omega arith)
        ];
        ahead = λ i g. get_or-set_other l k i x 0 (λ j. omega arith) ∙ t.ahead i (omega arith);
      }

  pub settled-all : k ≡ many → l ≡ over l₀ 0 (tabulate many (λ i. left_of n l₀ (i + 1)))
  settled-all h = front-tabulate l₀ l many (λ i. left_of n l₀ (i + 1)) t.size e.within
      (λ i g. (let next : suc i ≡ i + 1 = omega arith in t.done i (omega arith) ∙ ap (left_of n l₀) next)) (λ i g. t.ahead i (omega arith))

-- ---- both: what is left at an offset are the rows that are kept there

module _ (from n : ℕ) (s : List ℕ) (many : ℕ) (l : List ℕ) (room : many ≤ length l) where
  abbrev gone : List ℕ
  gone = over l 0 (tabulate many (gone_at from n s n))

  gone-size : length gone ≡ length l
  gone-size = over-length l 0 (tabulate many (gone_at from n s n)) (omega (arith, tabulate-length many (gone_at from n s n)))

  -- Those that go at k or later.
  left_is : (k : ℕ) → k ≤ many → left_of n gone k ≡ count (λ q. leb k (goes_at from n s q)) n
  unfolding left_of
  left_is zero h = sym (count-all (λ q. leb 0 (goes_at from n s q)) n (λ q g. le-leb 0 (goes_at from n s q) (omega arith)))
  left_is (suc k) h = omega (arith, left_is k (omega arith), front_at l many (gone_at from n s n) room k h, count-split (goes_at from n s) k n)

  pub gone_enough : {l₁ : List ℕ} → l₁ ≡ gone → Enough n many l₁
  gone_enough e = subst (Enough n many) (sym e) (record {
    within = omega (arith, gone-size);
    enough = λ k h. omega (arith, left_is k (omega arith), front_at l many (gone_at from n s n) room k h, count-split (goes_at from n s) k n);
  })

  pub both : {l₁ l₂ : List ℕ} → l₁ ≡ gone → l₂ ≡ over l₁ 0 (tabulate many (λ k. left_of n l₁ (k + 1))) → l₂ ≡ over l 0 (tabulate many (kept_at from n s))
  both {l₁} {l₂} e₁ e₂ =
      let a : List ℕ = tabulate many (gone_at from n s n) in
      let b : List ℕ = tabulate many (λ k. left_of n gone (k + 1)) in
      e₂ ∙ ap (λ (x : List ℕ). over x 0 (tabulate many (λ k. left_of n x (k + 1)))) e₁
      ∙ over_again l 0 a (omega (arith, tabulate-length many (gone_at from n s n))) b (omega (arith, tabulate-length many (gone_at from n s n), tabulate-length many (λ k. left_of n gone (k + 1))))
      ∙ ap (over l 0) (tabulate-same many (λ k. left_of n gone (k + 1)) (kept_at from n s) (λ k h. (let next : k + 1 ≡ suc k = omega arith in ap (left_of n gone) next ∙ left_is (suc k) h)))
