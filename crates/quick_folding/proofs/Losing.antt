-- Values that become their leaders: of all rows, or only of those that a place led alone which leads no more.
use mathlib.Core.Path.{◌≡◌, sym, ap, subst, ◌∙◌}
use mathlib.Core.List.{List}
use mathlib.Core.Logic.{◌⊎◌, inl, inr, ⊎_elim}
use Prim.Native.Nat.{ℕ, ◌+◌, ◌*◌, ◌≤◌, ◌<◌}
use native.Mathlib.Omega.{arith}
use lib.ListN.{length, get_or}
use Rattle.scratch.proofs.Numbers.{eq_or_ne}
use Rattle.splitting.specs.Places.{nxt_at, jump_at}
use Rattle.quick_folding.specs.Parts.{value_at, list_at, stamp_at, Leading, Renewable, Relabelled, stayed, changed, Relabelling, Losing, Alone, Passed}
use Rattle.quick_folding.proofs.Moves.{set2_size, set2_other, set2_first, set2_second}

module _ {n u level lost x : ℕ} {s t : List ℕ} (p : Renewable n u level lost s) (few : lost ≤ 1024) (alone : Alone n lost s) (h : x < lost) (d : Losing n level x s t) where
  -- The place that is next on the list, and its row.
  abbrev z : ℕ
  z = jump_at n s x

  abbrev row : ℕ
  row = list_at n s z

  fit : x < n
  fit = omega (arith, p.many few)

  lead : Leading n u s z
  lead = p.losers few x h

  place : z < n
  place = omega (arith, lead.place, p.fits)

  row_in : row < n
  row_in = p.rows z lead.place

  pub place_read : get_or t (7 * n + x) 0 ≡ z
  place_read = d.above (7 * n + x) (omega arith)

  pub row_read : (y : ℕ) → y ≡ z → get_or t (3 * n + y) 0 ≡ row
  row_read y e = let w = place in ap (λ (c : ℕ). get_or t (3 * n + c) 0) e ∙ d.between (3 * n + z) (omega arith) (omega arith)

  nxt_still : (c : ℕ) → c < n → nxt_at n t c ≡ nxt_at n s c
  nxt_still c l = d.between (4 * n + c) (omega arith) (omega arith)

  -- Its value now: as it was, or the leader already.
  value_now : (value_at n t row ≡ z) ⊎ (value_at n t row ≡ nxt_at n s z)
  value_now = ⊎_elim (λ e. inl (e ∙ lead.own)) (λ e. inr (e.0 ∙ ap (nxt_at n s) lead.own)) (d.any row row_in)

  -- Its leader.
  next_is : nxt_at n t (value_at n t row) ≡ nxt_at n s z
  next_is = ⊎_elim
      (λ e. ap (nxt_at n t) e ∙ nxt_still z place)
      (λ e. ap (nxt_at n t) e ∙ nxt_still (nxt_at n s z) (p.lower few x h) ∙ p.leads few x h)
      value_now

  -- A row with that value is this one.
  only : (q y : ℕ) → q < n → y ≡ x → value_at n s q ≡ jump_at n s y → q ≡ row
  only q y l e g = alone x q row h l row_in (g ∙ ap (jump_at n s) e) lead.own

  module _ {w : List ℕ} (r : Relabelled n level row t w) where
    -- What stands then: at this row the leader, elsewhere what stood.
    here : value_at n w row ≡ nxt_at n s z
    here = pick r
      where
        pick : Relabelled n level row t w → value_at n w row ≡ nxt_at n s z
        pick (stayed e te) = ap (λ (l : List ℕ). value_at n l row) te ∙ sym e ∙ next_is
        pick (changed te) = ap (λ (l : List ℕ). value_at n l row) te
            ∙ set2_first t (2 * n + row) (nxt_at n t (value_at n t row)) (5 * n + row) level (omega (arith, row_in, d.size, p.room)) (λ e. omega (arith, row_in)) ∙ next_is

    other : (k : ℕ) → (k ≡ 2 * n + row → ⊥) → (k ≡ 5 * n + row → ⊥) → get_or w k 0 ≡ get_or t k 0
    other k a b = pick r
      where
        pick : Relabelled n level row t w → get_or w k 0 ≡ get_or t k 0
        pick (stayed e te) = ap (λ (l : List ℕ). get_or l k 0) te
        pick (changed te) = ap (λ (l : List ℕ). get_or l k 0) te ∙ set2_other t (2 * n + row) (nxt_at n t (value_at n t row)) (5 * n + row) level k a b

    any_here : (value_at n w row ≡ value_at n s row) ⊎ ((value_at n w row ≡ nxt_at n s (value_at n s row)) × (stamp_at n w row ≡ level))
    any_here = pick r
      where
        pick : Relabelled n level row t w → (value_at n w row ≡ value_at n s row) ⊎ ((value_at n w row ≡ nxt_at n s (value_at n s row)) × (stamp_at n w row ≡ level))
        pick (stayed e te) = subst (λ (l : List ℕ). (value_at n l row ≡ value_at n s row) ⊎ ((value_at n l row ≡ nxt_at n s (value_at n s row)) × (stamp_at n l row ≡ level))) (sym te) (d.any row row_in)
        pick (changed te) = inr (
          here ∙ ap (nxt_at n s) (sym lead.own),
          ap (λ (l : List ℕ). stamp_at n l row) te
              ∙ set2_second t (2 * n + row) (nxt_at n t (value_at n t row)) (5 * n + row) level (omega (arith, row_in, d.size, p.room)),
        )

    size-w : length w ≡ length t
    size-w = pick r
      where
        pick : Relabelled n level row t w → length w ≡ length t
        pick (stayed e te) = ap length te
        pick (changed te) = ap length te ∙ set2_size t (2 * n + row) (nxt_at n t (value_at n t row)) (5 * n + row) level

    pub losing-next : Losing n level (x + 1) s w
    losing-next =
        let ri = row_in in
        record {
          size = size-w ∙ d.size;
          below = λ k l. other k (λ e. omega arith) (λ e. omega arith) ∙ d.below k l;
          between = λ k l g. other k (λ e. omega arith) (λ e. omega arith) ∙ d.between k l g;
          above = λ k l. other k (λ e. omega arith) (λ e. omega arith) ∙ d.above k l;
          gone = λ q y l g e. ⊎_elim
              (λ z. (let o = only q y l z e in
              ap (value_at n w) o ∙ here ∙ ap (nxt_at n s) (sym (e ∙ ap (jump_at n s) z))))
              (λ ne. ⊎_elim
              (λ o. ap (value_at n w) o ∙ here ∙ ap (nxt_at n s) (sym lead.own ∙ ap (value_at n s) (sym o)))
              (λ o. other (2 * n + q) (λ c. o (omega arith)) (λ c. omega arith) ∙ d.gone q y l (omega arith) e)
              (eq_or_ne q row))
              (eq_or_ne y x);
          any = λ q l. ⊎_elim
              (λ o. subst (λ (y : ℕ). (value_at n w y ≡ value_at n s y) ⊎ ((value_at n w y ≡ nxt_at n s (value_at n s y)) × (stamp_at n w y ≡ level))) (sym o) any_here)
              (λ o. ⊎_elim (λ a. inl (other (2 * n + q) (λ c. o (omega arith)) (λ c. omega arith) ∙ a))
              (λ a. inr (other (2 * n + q) (λ c. o (omega arith)) (λ c. omega arith) ∙ a.0, other (5 * n + q) (λ c. omega arith) (λ c. o (omega arith)) ∙ a.1))
              (d.any q l))
              (eq_or_ne q row);
        }

-- ---- what both ways come to
pub passed-all : {n u level : ℕ} {s t : List ℕ} → Relabelling n level n s t → Passed n u level s t
passed-all d =
    record {
      size = d.size;
      below = d.below;
      between = λ k h l. d.between k (omega arith) l;
      above = d.above;
      here = λ q h l. d.here q h;
      any = λ q h. inr (d.here q h);
      noted = d.noted;
    }

-- Where a place has lost its lead, there are places.
pub some_below : {n u level lost : ℕ} {s : List ℕ} → Renewable n u level lost s → lost ≤ 1024 → (lost ≡ 0 → ⊥) → 0 < u
some_below p few some = omega (arith, (p.losers few 0 (omega arith)).place)

pub passed_lost : {n u level lost : ℕ} {s t : List ℕ} → Renewable n u level lost s → lost ≤ 1024 → Losing n level lost s t → Passed n u level s t
passed_lost {n} {u} {level} {lost} {s} {t} p few d =
    record {
      size = d.size;
      below = d.below;
      between = d.between;
      above = d.above;
      here = λ q h l. ⊎_elim
          (λ e. ⊎_elim (λ a. a ∙ sym e) (λ a. a.0) (d.any q h))
          (λ ne. (let y = p.listed few (value_at n s q) l ne in d.gone q y.0 h y.1 (sym y.2)))
          (eq_or_ne (nxt_at n s (value_at n s q)) (value_at n s q));
      any = λ q h. ⊎_elim (λ a. inl a) (λ a. inr a.0) (d.any q h);
      noted = λ q h. ⊎_elim (λ a. inl a) (λ a. inr a.1) (d.any q h);
    }
