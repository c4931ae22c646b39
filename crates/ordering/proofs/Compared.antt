-- `compared_rows` says which mark is the lower after the first difference, or that there is none.
use mathlib.Core.Path.{◌≡◌, refl, sym, ap, subst, ◌∙◌}
use mathlib.Core.List.{List, [], ◌∷◌}
use mathlib.Core.Logic.{inl, inr}
use Prim.Native.Nat.{ℕ, zero, suc, ◌+◌, ◌<◌}
use native.Mathlib.Omega.{arith}
use lib.ListN.{length}
use borrow.Author.Tests.{lt-ltb, le-ltb}
use Rattle.automata.specs.Runs.{Events, Machine, Sound, Light, Run, after, Near}
use Rattle.chosen.specs.Choice.{Lower}
use Rattle.chosen.proofs.Orders.{compare}
use Rattle.ordering.specs.Order.{SameMarks, FirstDifference, by_marks, compared_at, compared_rows}
use Rattle.ordering.specs.declared.Order.{Order}
use Rattle.ordering.specs.declared.Order.TheVariants.{First, Equal, Second}
use Rattle.ordering.proofs.First.{told_none, told_at}
use Rattle.ordering.proofs.Search.{first_one, first_or_none}

-- ---- marks

pub marks_first : (x y : ℕ) → x < y → by_marks x y ≡ First
unfolding by_marks
marks_first x y h = rw (lt-ltb x y h)

pub marks_second : (x y : ℕ) → y < x → by_marks x y ≡ Second
unfolding by_marks
marks_second x y h = rw (le-ltb x y (omega arith), lt-ltb y x h)

pub marks_equal : (x y : ℕ) → x ≡ y → by_marks x y ≡ Equal
unfolding by_marks
marks_equal x y h = rw (le-ltb x y (omega arith), le-ltb y x (omega arith))

-- Which of the three it is, as a number.
abbrev tag : Order → ℕ
tag First = 0
tag Equal = 1
tag Second = 2

pub first_equal : {A : Type 0} {x : Order} → x ≡ First → x ≡ Equal → A
first_equal e f = let g : ◌≡◌ {A = ℕ} 0 1 = sym (ap tag e) ∙ ap tag f in absurd (omega arith)

pub second_equal : {A : Type 0} {x : Order} → x ≡ Second → x ≡ Equal → A
second_equal e f = let g : ◌≡◌ {A = ℕ} 2 1 = sym (ap tag e) ∙ ap tag f in absurd (omega arith)

pub first-second : {A : Type 0} {x : Order} → x ≡ First → x ≡ Second → A
first-second e f = let g : ◌≡◌ {A = ℕ} 0 2 = sym (ap tag e) ∙ ap tag f in absurd (omega arith)

marks_tell : (x y : ℕ) → ¬ (x ≡ y) → ¬ (by_marks x y ≡ Equal)
marks_tell x y h e = elim (compare x y) [
  | inl l ↦ first_equal (marks_first x y l) e
  | inr r ↦ elim r [ inl g ↦ h g | inr l ↦ second_equal (marks_second x y l) e ]
]

-- ---- rows
module _ (E : Events) (M N : Machine) where
  at_equal : (n q p : ℕ) → ((v : List ℕ) → Run E v → length v ≡ n → SameMarks M N q p v) → compared_at E M N n q p ≡ Equal
  unfolding compared_at
  at_equal zero q p h = marks_equal (M.mark q) (N.mark p) (h [] tt refl)
  at_equal (suc n) q p h = told_none _ E.count (λ a ha. at_equal n (M.target q a) (N.target p a) (λ v hv e. h (a ∷ v) (ha, hv) (omega arith)))

  at_first : (w : List ℕ) (q p : ℕ) → Run E w → ¬ SameMarks M N q p w → ((v : List ℕ) → Run E v → length v ≡ length w → Lower v w → SameMarks M N q p v)
      → compared_at E M N (length w) q p ≡ by_marks (M.mark (after M q w)) (N.mark (after N p w))
  unfolding compared_at
  at_first [] q p hw d h = refl
  at_first (a ∷ w) q p hw d h =
      let ih = at_first w (M.target q a) (N.target p a) hw.1 d (λ v hv e l. h (a ∷ v) (hw.0, hv) (omega arith) (inr (refl, l))) in
      told_at (λ b. compared_at E M N (length w) (M.target q b) (N.target p b)) a E.count hw.0
      (λ b l. at_equal (length w) (M.target q b) (N.target p b) (λ v hv e. h (b ∷ v) (omega (arith, hw.0), hv) (omega arith) (inl l)))
      (λ e. marks_tell (M.mark (after M q (a ∷ w))) (N.mark (after N p (a ∷ w))) d (sym ih ∙ e)) ∙ ih

module _ {E : Events} {M N : Machine} (s : Sound E M) (t : Sound E N) (z : Light E) where
  -- The marks after the first difference decide;
  pub rows_told : {q p : ℕ} (w : List ℕ) → q < M.rows → p < N.rows → FirstDifference E M N q p w
      → compared_rows E M N q p ≡ by_marks (M.mark (after M q w)) (N.mark (after N p w))
  unfolding compared_rows
  rows_told {q} {p} w hq hp f =
      let e = at_first E M N w q p f.run f.differ (λ v hv g l. f.before v hv (inr (g, l))) in
      told_at (λ n. compared_at E M N n q p) (length w) (M.rows + N.rows) short
      (λ n l. at_equal E M N n q p (λ v hv g. f.before v hv (inl (omega arith))))
      (λ g. marks_tell (M.mark (after M q w)) (N.mark (after N p w)) f.differ (sym e ∙ g)) ∙ e
    where
      short : length w < M.rows + N.rows
      short = elim (first_or_none s t z hq hp) [
        | inl n ↦ absurd (f.differ (n.same w f.run (omega arith)))
        | inr x ↦ subst (λ (v : List ℕ). length v < M.rows + N.rows) (first_one x.0 w x.2 f) x.1
      ]

  -- with none the rows are equal.
  pub rows_equal : {q p : ℕ} → Near E M N 0 q p → compared_rows E M N q p ≡ Equal
  unfolding compared_rows
  rows_equal {q} {p} n = told_none _ (M.rows + N.rows) (λ i l. at_equal E M N i q p (λ v hv e. n.same v hv (omega arith)))
