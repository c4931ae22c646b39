-- Level by level: what a sweep leaves, and what it means that nothing was met or that marks differ.
use mathlib.Core.Path.{◌≡◌, sym, ap, ◌∙◌}
use mathlib.Core.List.{List}
use mathlib.Core.Logic.{◌⊎◌, inl, inr}
use Prim.Native.Nat.{ℕ, zero, suc, ◌+◌, ◌*◌, ◌%◌, ◌≤◌, ◌<◌}
use native.Mathlib.Omega.{arith}
use native.Mathlib.Decide.{ℕ_discrete}
use lib.ListN.{length, get_or, set, length-set}
use lib.Seq.{get_or-set_same, get_or-set_other}
use Rattle.automata.specs.Runs.{Events, Machine}
use Rattle.ordering.specs.Found.{Graph, Inside, found_at, Wider}
use Rattle.ordering.proofs.Found.{found_before, found_upto, found_start, met-first, met_next, met-rest}
use Rattle.order.specs.Cells.{level_at}
use Rattle.order.specs.Search.{Framed, Given, Spreading, Reached, Quiet, Bare, Told}

-- The level that stands in a cell.
level_in : (c m l : ℕ) → l < 4096 → c ≡ 4096 * m + l → c % 4096 ≡ l
level_in c m l h e = omega arith

module _ {G : Graph} {start : ℕ} (hs : start < G.places) where
  -- ---- the first level
  module _ {s : List ℕ} (room : G.places ≤ length s) (b : Bare G start s) where
    here : get_or (set s start 1) start 0 ≡ 1
    here = get_or-set_same s start 1 0 (omega (arith, hs))

    other : (k : ℕ) → k < G.places → ¬ (k ≡ start) → get_or (set s start 1) k 0 ≡ 0
    other k hk h = get_or-set_other s start k 1 0 h ∙ b.zeros k hk

    pub reached-first : Reached G start 0 (set s start 1)
    reached-first = record {
      met = met-first hs (ap (λ (c : ℕ). c % 4096) here) (λ k hk h. ap (λ (c : ℕ). c % 4096) (other k hk h));
      cells = λ k hk. elim (ℕ_discrete k start) [
        | yes e ↦ inr (
          omega (arith, here, ap (λ (j : ℕ). get_or (set s start 1) j 0) e),
          omega (arith, here, ap (λ (j : ℕ). get_or (set s start 1) j 0) e, b.same, ap G.mark e),
        )
        | no e ↦ inl (other k hk e)
      ];
    }

    pub quiet-first : Quiet G 0 (set s start 1)
    quiet-first k hk e = elim (ℕ_discrete k start) [ yes f ↦ ap G.mark f ∙ b.same | no f ↦ absurd (omega (arith, other k hk f)) ]

    pub framed-first : Framed G s (set s start 1)
    framed-first = record { size = length-set s start 1; beyond = λ i h. get_or-set_other s start i 1 0 (λ e. omega arith) }

  -- ---- a sweep over level L
  module _ (inside : Inside G) {L most : ℕ} {s t : List ℕ} (small : suc L < 4095) (g : Reached G start L s) (top : Quiet G L s) (w : Spreading G (suc L) G.places 0 s t most) where
    -- A cell says as much as its level.
    cell-level : (k : ℕ) → k < G.places → level_at s k ≡ suc L → get_or s k 0 ≡ suc L
    cell-level k hk e = elim (g.cells k hk) [ inl f ↦ absurd (omega arith) | inr f ↦ omega (arith, f.1, top k hk e) ]

    unmet : (k : ℕ) → k < G.places → level_at s k ≡ 0 → get_or s k 0 ≡ 0
    unmet k hk e = elim (g.cells k hk) [ inl f ↦ f | inr f ↦ absurd (omega (arith, f.0)) ]

    new-level : (x : ℕ) → get_or t x 0 ≡ 4096 * G.mark x + suc (suc L) → level_at t x ≡ suc (suc L)
    new-level x e = level_in (get_or t x 0) (G.mark x) (suc (suc L)) (omega arith) e

    cells-next : (k : ℕ) → k < G.places → (get_or t k 0 ≡ 0) ⊎ ((0 < level_at t k) × (get_or t k 0 ≡ 4096 * G.mark k + level_at t k))
    cells-next k hk = elim (w.each k hk) [
      | inl e ↦ elim (g.cells k hk) [
        | inl f ↦ inl (e ∙ f)
        | inr f ↦ (let l : level_at t k ≡ level_at s k = ap (λ (c : ℕ). c % 4096) e in inr (omega (arith, f.0, l), e ∙ f.1 ∙ ap (λ (i : ℕ). 4096 * G.mark k + i) (sym l)))
      ]
      | inr e ↦ (let l = new-level k e.1 in inr (omega (arith, l), e.1 ∙ ap (λ (i : ℕ). 4096 * G.mark k + i) (sym l)))
    ]

    some_level : (k : ℕ) → k < G.places → 0 < get_or t k 0 → 0 < level_at t k
    some_level k hk h = elim (cells-next k hk) [ inl e ↦ absurd (omega arith) | inr e ↦ e.0 ]

    wider : Wider G L (level_at s) (level_at t)
    wider = record {
      kept = λ k hk h. elim (w.each k hk) [ inl e ↦ ap (λ (c : ℕ). c % 4096) e | inr e ↦ absurd (omega (arith, e.0)) ];
      new = λ k hk z h. elim (w.each k hk) [
        | inl e ↦ absurd (omega (arith, e, unmet k hk z))
        | inr e ↦ (let y = e.2 in (new-level k e.1, (y.0, y.1, level_in (get_or s y.0 0) 0 (suc L) (omega arith) (omega (arith, y.2)), y.3)))
      ];
      all = λ y a hy e ha. some_level (G.step y a) (inside y a hy ha) (w.met y a hy ha (cell-level y hy e) (inl hy));
    }

    pub reached-next : Reached G start (suc L) t
    reached-next = record { met = met_next hs inside g.met top wider; cells = cells-next }

    -- A pair of the next level is new.
    fresh : (k : ℕ) → k < G.places → level_at t k ≡ suc (suc L) → get_or s k 0 ≡ 0
    fresh k hk e = elim (w.each k hk) [ inl f ↦ absurd (omega (arith, g.met.at_most k hk, ap (λ (c : ℕ). c % 4096) f)) | inr f ↦ f.0 ]

    pub quiet_next : most ≤ 1 → Quiet G (suc L) t
    quiet_next h k hk e = w.quiet h k hk (fresh k hk e) (omega arith)

    -- Nothing was met: nothing is found.
    pub still-none : most ≡ 0 → (n : ℕ) → found_at G n start ≡ 0
    still-none h n =
        let m = met-rest hs reached-next.met (λ k hk e. absurd (omega (arith, fresh k hk e, ap (λ (u : List ℕ). get_or u k 0) (w.still h)))) (suc L + suc n) (omega arith) in
        found_before m inside n start 0 hs m.begins (omega arith)

    -- Marks differ: something is found at the next level, and nothing before it.
    pub told-next : 2 ≤ most → Told G start (suc L) (suc L) t × ((n : ℕ) → n < suc L → found_at G n start ≡ 0) × (¬ (found_at G (suc L) start ≡ 0))
    unfolding found_at
    told-next h = (
      record { met = reached-next.met; told = last; left = before },
      λ n l. found_before reached-next.met inside n start 0 hs reached-next.met.begins (omega arith),
      differ,
    )
      where
        last : (k j n : ℕ) → k < G.places → level_at t k ≡ suc j → suc L ≤ j → j + n ≡ suc L → get_or t k 0 ≡ 4096 * found_at G n k + suc j
        last k j zero hk e l f = elim (cells-next k hk) [ inl z ↦ absurd (omega arith) | inr z ↦ omega (arith, z.1) ]
        last k j (suc n) hk e l f = absurd (omega arith)

        before : (k j : ℕ) → k < G.places → level_at t k ≡ suc j → j < suc L → get_or t k 0 ≡ suc j
        before k j hk e l = elim (cells-next k hk) [ inl z ↦ absurd (omega arith) | inr z ↦ omega (arith, z.1, reached-next.met.quiet k j hk e l) ]

        differ : ¬ (found_at G (suc L) start ≡ 0)
        differ f =
            let y = w.told h in
            let at : level_at t y.0 ≡ suc (suc L) = elim (w.each y.0 y.1) [ inl e ↦ absurd (omega (arith, e, y.2, y.3)) | inr e ↦ new-level y.0 e.1 ] in
            let e : suc L + 0 ≡ suc L = omega arith in
            found_start reached-next.met inside (suc L) 0 y.0 y.1 at y.4 (ap (λ (i : ℕ). found_at G i start) e ∙ f)

  -- As far as all levels are quiet, nothing is found.
  pub quiet_none : (inside : Inside G) {L : ℕ} {s : List ℕ} → Reached G start L s → Quiet G L s → (n : ℕ) → n ≤ L → found_at G n start ≡ 0
  quiet_none inside g top n h = found_upto g.met inside top n start 0 hs g.met.begins (omega arith)

-- What is framed by two steps.
pub framed_then : {G : Graph} {s t u : List ℕ} → Framed G s t → Framed G t u → Framed G s u
framed_then f g = record { size = g.size ∙ f.size; beyond = λ i h. g.beyond i h ∙ f.beyond i h }

pub given_after : {E : Events} {M N : Machine} {s t : List ℕ} → Given E M N s → length t ≡ length s → Given E M N t
given_after g e = record { first = g.first; second = g.second; room = omega (arith, g.room) }
