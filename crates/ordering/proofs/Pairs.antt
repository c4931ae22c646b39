-- The search over pairs of rows finds the order.
use mathlib.Core.Path.{◌≡◌, sym, ap, ap₂, ◌∙◌}
use Prim.Native.Nat.{ℕ, zero, suc, ◌+◌, ◌*◌, ◌/◌, ◌%◌, ◌<◌}
use native.Mathlib.Omega.{arith}
use native.Mathlib.Nat.{div-lt_iff_lt-mul, mod-lt}
use lib.Arith.{digits_lt, digits_div, digits_mod}
use Rattle.automata.specs.Runs.{Events, Machine, Sound}
use Rattle.ordering.specs.Order.{by_marks, compared_at, compared_rows}
use Rattle.ordering.specs.Found.{Inside, number_of, pairs_of, found_at}
use Rattle.ordering.specs.declared.Order.TheVariants.{Equal}
use Rattle.ordering.proofs.First.{found_same, equal_zero, number-told, told_none, told_at}

-- ---- pairs of rows
module _ {E : Events} {M N : Machine} (s : Sound E M) (t : Sound E N) where
  pub row_in : (k : ℕ) → k < M.rows * N.rows → k / N.rows < M.rows
  row_in k hk = let pos : 0 < N.rows = omega (arith, t.start_inside) in (div-lt_iff_lt-mul pos).1 hk

  pub other_in : (k : ℕ) → k % N.rows < N.rows
  other_in k = let pos : 0 < N.rows = omega (arith, t.start_inside) in mod-lt k pos

  pub pairs_inside : Inside (pairs_of E M N)
  pairs_inside k a hk ha = digits_lt (s.target_inside (k / N.rows) a (row_in k hk) ha) (t.target_inside (k % N.rows) a (other_in k) ha)

  -- What is found from a pair is what the runs say of its rows.
  pub found_pair : (n q p : ℕ) → q < M.rows → p < N.rows → found_at (pairs_of E M N) n (q * N.rows + p) ≡ number_of (compared_at E M N n q p)
  unfolding found_at compared_at
  found_pair zero q p hq hp = ap₂ (λ (x y : ℕ). number_of (by_marks (M.mark x) (N.mark y))) (digits_div q hp) (digits_mod q hp)
  found_pair (suc n) q p hq hp =
      found_same E.count _ (λ a. number_of (compared_at E M N n (M.target q a) (N.target p a))) (λ a ha.
      ap₂ (λ (x y : ℕ). found_at (pairs_of E M N) n (M.target x a * N.rows + N.target y a)) (digits_div q hp) (digits_mod q hp)
      ∙ found_pair n (M.target q a) (N.target p a) (s.target_inside q a hq ha) (t.target_inside p a hp ha))
      ∙ sym (number-told E.count (λ a. compared_at E M N n (M.target q a) (N.target p a)))

  module _ (q p : ℕ) (hq : q < M.rows) (hp : p < N.rows) where
    at_none : (n : ℕ) → found_at (pairs_of E M N) n (q * N.rows + p) ≡ 0 → compared_at E M N n q p ≡ Equal
    at_none n e = equal_zero _ (sym (found_pair n q p hq hp) ∙ e)

    -- Rows are equal if nothing is found by runs of fewer events than there are rows together.
    pub pair-equal : ((n : ℕ) → n < M.rows + N.rows → found_at (pairs_of E M N) n (q * N.rows + p) ≡ 0) → number_of (compared_rows E M N q p) ≡ 0
    unfolding compared_rows
    pair-equal h = ap number_of (told_none _ (M.rows + N.rows) (λ n l. at_none n (h n l)))

    -- The shortest runs that find anything say what they are.
    pub pair-told : (L : ℕ) → L < M.rows + N.rows → ((n : ℕ) → n < L → found_at (pairs_of E M N) n (q * N.rows + p) ≡ 0)
        → ¬ (found_at (pairs_of E M N) L (q * N.rows + p) ≡ 0) → number_of (compared_rows E M N q p) ≡ found_at (pairs_of E M N) L (q * N.rows + p)
    unfolding compared_rows
    pair-told L h none some =
        ap number_of (told_at (λ n. compared_at E M N n q p) L (M.rows + N.rows) h (λ n l. at_none n (none n l))
        (λ e. some (found_pair L q p hq hp ∙ ap number_of e)))
        ∙ sym (found_pair L q p hq hp)
