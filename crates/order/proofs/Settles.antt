-- A sweep that tells pairs of a level what those of the next say, and what it leaves.
use mathlib.Core.Path.{◌≡◌, sym, ap, subst, ◌∙◌}
use mathlib.Core.List.{List}
use mathlib.Core.Logic.{inl, inr}
use Prim.Native.Nat.{ℕ, zero, suc, ◌+◌, ◌-◌, ◌*◌, ◌/◌, ◌%◌, ◌≤◌, ◌<◌}
use native.Mathlib.Omega.{arith}
use native.Mathlib.Decide.{ℕ_discrete, dec_lt}
use borrow.Author.Tests.{eq-eqb, ne_eqb}
use lib.ListN.{length, get_or, set, length-set}
use lib.Seq.{get_or-set_same, get_or-set_other}
use Rattle.automata.proofs.Tests.{last_or_less}
use Rattle.ordering.specs.Found.{Graph, Inside, found_at}
use Rattle.ordering.proofs.First.{found_same}
use Rattle.ordering.proofs.Found.{found_back, met_same}
use Rattle.order.specs.Cells.{level_at, tells}
use Rattle.order.specs.Search.{Framed, told_from, settled_to, Settling, Told}

-- ---- what a cell tells

tells_at : (level c : ℕ) → c % 4096 ≡ level → tells level c ≡ c / 4096
tells_at level c e = rw (eq-eqb (c % 4096) level e)

pub tells_none : (level c : ℕ) → ¬ (c % 4096 ≡ level) → tells level c ≡ 0
tells_none level c h = rw (ne_eqb (c % 4096) level h)

-- The cell of a pair afterwards.
module _ (G : Graph) (level : ℕ) (s : List ℕ) (k : ℕ) where
  settled_at_lem : get_or s k 0 ≡ level → settled_to G level s k ≡ 4096 * told_from G level s k + level
  settled_at_lem e = rw (eq-eqb (get_or s k 0) level e)

  settled_other : ¬ (get_or s k 0 ≡ level) → settled_to G level s k ≡ get_or s k 0
  settled_other h = rw (ne_eqb (get_or s k 0) level h)

module _ {G : Graph} {level : ℕ} (small : level < 4095) where
  -- ---- the sweep
  module _ {s t : List ℕ} {at : ℕ} (w : Settling G level at s t) where
    -- A cell keeps its level.
    same-level : (k : ℕ) → k < G.places → level_at t k ≡ level_at s k
    same-level k hk = elim (dec_lt k at) [
      | no h ↦ ap (λ (c : ℕ). c % 4096) (w.left k (omega arith))
      | yes h ↦ elim (ℕ_discrete (get_or s k 0) level) [
        | yes e ↦ (let f : get_or t k 0 ≡ 4096 * told_from G level s k + level = w.done k hk h ∙ settled_at_lem G level s k e in omega arith)
        | no e ↦ ap (λ (c : ℕ). c % 4096) (w.done k hk h ∙ settled_other G level s k e)
      ]
    ]

    -- Pairs of the next level say what they said.
    same-told : (k : ℕ) → k < G.places → tells (suc level) (get_or t k 0) ≡ tells (suc level) (get_or s k 0)
    same-told k hk = elim (dec_lt k at) [
      | no h ↦ ap (tells (suc level)) (w.left k (omega arith))
      | yes h ↦ elim (ℕ_discrete (get_or s k 0) level) [
        | yes e ↦
            let l = same-level k hk in
            tells_none (suc level) (get_or t k 0) (λ f. omega arith) ∙ sym (tells_none (suc level) (get_or s k 0) (λ f. omega arith))
        | no e ↦ ap (tells (suc level)) (w.done k hk h ∙ settled_other G level s k e)
      ]
    ]

    module _ (inside : Inside G) (hat : at < G.places) where
      same_from : told_from G level t at ≡ told_from G level s at
      same_from = found_same G.count (λ a. tells (suc level) (get_or t (G.step at a) 0)) (λ a. tells (suc level) (get_or s (G.step at a) 0)) (λ a ha. same-told (G.step at a) (inside at a hat ha))

      -- A pair of the level is told.
      pub settle-pair : {x : ℕ} → at < length t → get_or t at 0 ≡ level → x ≡ 4096 * told_from G level t at + level → Settling G level (at + 1) s (set t at x)
      settle-pair {x} room e hx = record {
        done = λ k hk h. elim (last_or_less k at (omega arith)) [
          | inl f ↦
              subst (λ (j : ℕ). get_or (set t at x) j 0 ≡ settled_to G level s j) (sym f)
              (get_or-set_same t at x 0 room ∙ hx ∙ ap (λ (y : ℕ). 4096 * y + level) same_from ∙ sym (settled_at_lem G level s at (sym (w.left at (omega arith)) ∙ e)))
          | inr f ↦ get_or-set_other t at k x 0 (λ g. omega arith) ∙ w.done k hk f
        ];
        left = λ k h. get_or-set_other t at k x 0 (λ g. omega arith) ∙ w.left k (omega arith);
        size = length-set t at x ∙ w.size;
      }

      -- Another is left as it is.
      pub settle_other : ¬ (get_or t at 0 ≡ level) → Settling G level (at + 1) s t
      settle_other h = record {
        done = λ k hk l. elim (last_or_less k at (omega arith)) [
          | inl f ↦
              subst (λ (j : ℕ). get_or t j 0 ≡ settled_to G level s j) (sym f)
              (w.left at (omega arith) ∙ sym (settled_other G level s at (λ e. h (w.left at (omega arith) ∙ e))))
          | inr f ↦ w.done k hk f
        ];
        left = λ k l. w.left k (omega arith);
        size = w.size;
      }

-- ---- what the sweep over level i leaves
module _ {G : Graph} {start : ℕ} (hs : start < G.places) (inside : Inside G) {L i : ℕ} {s t : List ℕ} (small : suc i < 4095) (lower : i < L) (few : suc L < 4096)
    (g : Told G start L (suc i) s) (w : Settling G (suc i) G.places s t) where
  level_same : (k : ℕ) → k < G.places → level_at t k ≡ level_at s k
  level_same = same-level small w

  -- A pair of another level.
  kept : (k j : ℕ) → k < G.places → level_at s k ≡ suc j → ¬ (j ≡ i) → get_or t k 0 ≡ get_or s k 0
  kept k j hk e h = w.done k hk hk ∙ settled_other G (suc i) s k (λ f. h (omega arith))

  -- A pair of the level: it is told what the pairs of the next say.
  told_here : (k n : ℕ) → k < G.places → level_at s k ≡ suc i → i + suc n ≡ L → get_or t k 0 ≡ 4096 * found_at G (suc n) k + suc i
  told_here k n hk e h =
      w.done k hk hk ∙ settled_at_lem G (suc i) s k (g.left k i hk e (omega arith))
      ∙ ap (λ (x : ℕ). 4096 * x + suc i)
      (found_back g.met inside k i n hk e h (λ a. tells (suc (suc i)) (get_or s (G.step k a) 0))
      (λ a ha l. tells_at (suc (suc i)) (get_or s (G.step k a) 0) l ∙ (let f = g.told (G.step k a) (suc i) n (inside k a hk ha) l (omega arith) (omega arith) in omega arith))
      (λ a ha l. tells_none (suc (suc i)) (get_or s (G.step k a) 0) l))

  told-before : Told G start L i t
  told-before = record {
    met = met_same hs inside g.met level_same;
    told = λ k j n hk e h f. elim (ℕ_discrete j i) [
      | no d ↦ kept k j hk (sym (level_same k hk) ∙ e) d ∙ g.told k j n hk (sym (level_same k hk) ∙ e) (omega arith) f
      | yes d ↦ here k j n hk (sym (level_same k hk) ∙ e) d f
    ];
    left = λ k j hk e h. kept k j hk (sym (level_same k hk) ∙ e) (λ d. omega arith) ∙ g.left k j hk (sym (level_same k hk) ∙ e) (omega arith);
  }
    where
      here : (k j n : ℕ) → k < G.places → level_at s k ≡ suc j → j ≡ i → j + n ≡ L → get_or t k 0 ≡ 4096 * found_at G n k + suc j
      here k j zero hk e d f = absurd (omega arith)
      here k j (suc n) hk e d f = told_here k n hk (e ∙ ap suc d) (omega arith) ∙ ap (λ (x : ℕ). 4096 * found_at G (suc n) k + suc x) (sym d)

-- The same for the level of which the code tells next: from one level to the one before it.
module _ {G : Graph} {start : ℕ} (hs : start < G.places) (inside : Inside G) where
  pub told_back : {last level : ℕ} {s t : List ℕ} → 1 < level → level ≤ last → last < 4095 → Told G start (last - 1) (level - 1) s → Settling G (level - 1) G.places s t
      → Told G start (last - 1) (level - 1 - 1) t
  told_back {last} {level} {s} {t} h l b g w =
      let e : level - 1 ≡ suc (level - 1 - 1) = omega arith in
      told-before hs inside (omega arith) (omega arith) (omega arith) (subst (λ (i : ℕ). Told G start (last - 1) i s) e g) (subst (λ (i : ℕ). Settling G i G.places s t) e w)

pub settle_framed : {G : Graph} {level : ℕ} {s t : List ℕ} → Settling G level G.places s t → Framed G s t
settle_framed w = record { size = w.size; beyond = w.left }
