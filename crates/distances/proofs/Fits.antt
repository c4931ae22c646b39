-- Cells against runs: what is near fits, and cells that fit are near.
use mathlib.Core.Path.{◌≡◌, sym, ap, subst}
use mathlib.Core.List.{List, [], ◌∷◌}
use mathlib.Core.Logic.{⊎_elim}
use Prim.Native.Nat.{ℕ, zero, suc, ◌+◌, ◌-◌, ◌≤◌, ◌<◌}
use native.Mathlib.Nat.{eq-zero-or-pos}
use native.Mathlib.Omega.{arith}
use Rattle.automata.specs.Runs.{Events, Machine, Sound, Light, Run, size, after, Near}
use Rattle.automata.proofs.Runs.{near_up, near_step}
use Rattle.pairs.specs.Pairs.{pair_at}
use Rattle.pairs.proofs.Pairs.{pair_sym}
use Rattle.pairs.proofs.Cells.{pair_same}
use Rattle.distances.specs.Search.{Fits}

module _ {E : Events} {M : Machine} where
  near_marks : {q p : ℕ} → Near E M M 0 q p → M.mark q ≡ M.mark p
  near_marks n = n.same [] tt (omega arith)

  -- Rows that are near fit, in cells that are nowhere above what is near.
  pub near_fits : (level : ℕ) (D : ℕ → ℕ → ℕ) → Sound E M
      → ((L q p : ℕ) → L ≤ level → q < M.rows → p < M.rows → Near E M M L q p → D q p ≤ L)
      → (q p : ℕ) → q < M.rows → p < M.rows → Near E M M level q p → Fits E M D level q p
  near_fits level D so low q p hq hp n =
      record {
        marks = λ e. near_marks (subst (λ (L : ℕ). Near E M M L q p) e n);
        targets = λ a l. low (level - E.weight a) (M.target q a) (M.target p a) (omega arith) (so.target_inside q a hq l) (so.target_inside p a hp l) (near_step a l n);
      }

  -- A row and itself, and the order of two rows.
  pub fits_self : (s : List ℕ) (L q p : ℕ) → q ≡ p → Fits E M (pair_at s) L q p
  fits_self s L q p e =
      record { marks = λ z. ap M.mark e; targets = λ a l. omega (arith, pair_same s (M.target q a) (M.target p a) (ap (λ (x : ℕ). M.target x a) e)) }

  pub fits_turn : (s : List ℕ) (L q p : ℕ) → Fits E M (pair_at s) L p q → Fits E M (pair_at s) L q p
  fits_turn s L q p f =
      record { marks = λ z. sym (f.marks z); targets = λ a l. omega (arith, f.targets a l, pair_sym s (M.target q a) (M.target p a)) }

  -- Cells that all fit are near.
  module _ (so : Sound E M) (level : ℕ) (D : ℕ → ℕ → ℕ) (closed : (q p : ℕ) → q < M.rows → p < M.rows → D q p < suc level → Fits E M D (D q p) q p) where
    run : (w : List ℕ) (L q p : ℕ) → q < M.rows → p < M.rows → L ≤ level → D q p ≤ L → Run E w → L ≤ size E w → M.mark (after M q w) ≡ M.mark (after M p w)
    run [] L q p hq hp hl hd hw k = (closed q p hq hp (omega arith)).marks (omega arith)
    run (a ∷ w) L q p hq hp hl hd hw k =
        run w (L - E.weight a) (M.target q a) (M.target p a) (so.target_inside q a hq hw.0) (so.target_inside p a hp hw.0) (omega arith)
        (omega (arith, (closed q p hq hp (omega arith)).targets a hw.0))
        hw.1
        (omega arith)

    pub fits-near : (L q p : ℕ) → q < M.rows → p < M.rows → L ≤ level → D q p ≤ L → Near E M M L q p
    fits-near L q p hq hp hl hd = record { same = λ w hw k. run w L q p hq hp hl hd hw k }

  -- Where level k + 1 makes no more rows near than level k, no level does.
  module _ (so : Sound E M) (z : Light E) (k : ℕ) where
    rest-run : (L : ℕ) → ((q p : ℕ) → q < M.rows → p < M.rows → Near E M M L q p → Near E M M k q p)
        → (w : List ℕ) (q p : ℕ) → q < M.rows → p < M.rows → Near E M M (suc L) q p → Run E w → k + 1 ≤ size E w
        → M.mark (after M q w) ≡ M.mark (after M p w)
    rest-run L ih [] q p hq hp n hw l = absurd (omega arith)
    rest-run L ih (a ∷ w) q p hq hp n hw l =
        let next = near_step a hw.0 n in
        let hq' = so.target_inside q a hq hw.0 in
        let hp' = so.target_inside p a hp hw.0 in
        ⊎_elim
        (λ e. rest-run L ih w (M.target q a) (M.target p a) hq' hp' (near_up (omega arith) next) hw.1 (omega arith))
        (λ e. (ih (M.target q a) (M.target p a) hq' hp' (near_up (omega (arith, z.at_most a)) next)).same w hw.1 (omega (arith, z.at_most a)))
        (eq-zero-or-pos (E.weight a))

    pub rest : ((q p : ℕ) → q < M.rows → p < M.rows → Near E M M (k + 1) q p → Near E M M k q p)
        → (L q p : ℕ) → q < M.rows → p < M.rows → Near E M M L q p → Near E M M k q p
    rest no_more zero q p hq hp n = near_up (omega arith) n
    rest no_more (suc L) q p hq hp n = no_more q p hq hp (record { same = λ w hw l. rest-run L (rest no_more L) w q p hq hp n hw l })
