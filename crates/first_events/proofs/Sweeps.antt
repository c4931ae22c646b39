-- A pass over all pairs: what was made of a pair by the cells that there are now, is made of it by those before the pass.
use mathlib.Core.Path.{◌≡◌, refl, sym, ap, subst, subst₂, ◌∙◌}
use mathlib.Core.Bool.{Bool, true, false, ◌||◌, true≢false}
use mathlib.Core.List.{List}
use mathlib.Core.Logic.{◌⊎◌, inl, inr, ⊎_elim}
use Prim.Native.Nat.{ℕ, ◌+◌, ◌≤◌, ◌<◌}
use native.Mathlib.Omega.{arith}
use native.Mathlib.Numerals.{add-one}
use lib.ListN.{length, get_or, set, drop, length-set}
use lib.Seq.{get_or-set_same, get_or-set_other, set-get_or, drop-set-lt}
use Rattle.automata.specs.Runs.{Events, Machine, Sound}
use Rattle.chosen.specs.declared.First.TheVariants.{Unsettled}
use Rattle.pairs.specs.Pairs.{triangle, pair_at}
use Rattle.pairs.proofs.Cells.{pair_greater, pair_same}
use Rattle.pairs.proofs.Pairs.{pair_sym}
use Rattle.pairs.proofs.Triangle.{triangle-next, triangle-one}
use Rattle.scratch.proofs.Numbers.{lt_or_ge, eq_or_ne}
use Rattle.measures.specs.declared.Measure.{Measure}
use Rattle.measures.specs.Measures.{settled_at, measure_in}
use Rattle.measures.proofs.Codes.{read_low}
use Rattle.first_events.specs.declared.Pass.{Pass}
use Rattle.first_events.specs.declared.Pass.TheVariants.{Ends, Takes, Settles}
use Rattle.first_events.specs.Passes.{led, Ready, Lowest, Ended, Taken, Settled, Turned, Visited, Before, Sweeping, Swept}

-- What a pass may make of a number: only a distance becomes an event, and only an event becomes settled.
abbrev pub Moved : Pass → ℕ → ℕ → Type 0
Moved Ends x y = Unit {0}
Moved (Takes most) x y = (y ≡ x) ⊎ ((x ≤ most) × (1024 ≤ y) × (y < 1056))
Moved Settles x y = (y ≡ x) ⊎ ((1024 ≤ x) × (x < 1056))

same_moved : (pass : Pass) (x y : ℕ) → y ≡ x → Moved pass x y
same_moved Ends x y e = tt
same_moved (Takes most) x y e = inl e
same_moved Settles x y e = inl e

-- Nothing is known below 1,056.
pub low_first : (x : ℕ) → x < 1056 → (measure_in x).first ≡ Unsettled
low_first x h = ap (λ (m : Measure). m.first) (read_low x h)

module _ (E : Events) (M : Machine) (few : E.count ≤ 32) where
  turned-moved : (pass : Pass) (c : ℕ → ℕ → ℕ) (q p x : ℕ) → Turned pass E M c q p x → Moved pass (c q p) x
  turned-moved Ends c q p x t = tt
  turned-moved (Takes most) c q p x (inl t) = inl t.1
  turned-moved (Takes most) c q p x (inr t) = elim t.1.2 [ inl y ↦ inr (t.0, omega (arith, y.1), omega (arith, y.0, y.1)) | inr y ↦ inl y.1 ]
  turned-moved Settles c q p x (inl t) = inl t.1
  turned-moved Settles c q p x (inr t) = inr (omega (arith, t.1), omega (arith, t.1, t.2))

  -- The cells c₀ before a pass, and c under way.
  module _ (so : Sound E M) (c₀ c : ℕ → ℕ → ℕ) where
    ended-before : (q p x : ℕ) → c q p ≡ c₀ q p → Ended E M c q p x → Ended E M c₀ q p x
    ended-before q p x e (inl t) = inl (sym e ∙ t.0, t.1, t.2)
    ended-before q p x e (inr t) = inr (λ y. t.0 (e ∙ y.0, y.1), t.1 ∙ e)

    module _ (most : ℕ) (low : most < 1024) (moved : (q p : ℕ) → q < M.rows → p < M.rows → Moved (Takes most) (c₀ q p) (c q p)) where
      -- A pair of targets says the same, or nothing is known of its run.
      ready-one : (d q p a x y : ℕ) → (y ≡ x) ⊎ ((x ≤ most) × (1024 ≤ y) × (y < 1056)) → led E M c q p a ≡ y → led E M c₀ q p a ≡ x
          → (Ready E M c d q p a → Ready E M c₀ d q p a) × (Ready E M c₀ d q p a → Ready E M c d q p a)
      ready-one d q p a x y (inl e) hy hx =
          let g = ap measure_in (hy ∙ e ∙ sym hx) in (
            λ r. record { known = λ z. r.known (ap (λ (m : Measure). m.first) g ∙ z); less = ap (λ (m : Measure). m.distance + E.weight a) (sym g) ∙ r.less },
            λ r. record { known = λ z. r.known (ap (λ (m : Measure). m.first) (sym g) ∙ z); less = ap (λ (m : Measure). m.distance + E.weight a) g ∙ r.less },
          )
      ready-one d q p a x y (inr h) hy hx = (
        λ r. absurd (r.known (ap (λ (z : ℕ). (measure_in z).first) hy ∙ low_first y h.2)),
        λ r. absurd (r.known (ap (λ (z : ℕ). (measure_in z).first) hx ∙ low_first x (omega (arith, h.0)))),
      )

      ready-both : (d q p a : ℕ) → q < M.rows → p < M.rows → a < E.count → (Ready E M c d q p a → Ready E M c₀ d q p a) × (Ready E M c₀ d q p a → Ready E M c d q p a)
      ready-both d q p a hq hp ha = ready-one d q p a (led E M c₀ q p a) (led E M c q p a) (moved _ _ (so.target_inside q a hq ha) (so.target_inside p a hp ha)) refl refl

      lowest-before : (d q p a : ℕ) → q < M.rows → p < M.rows → Lowest E M c d q p E.count a → Lowest E M c₀ d q p E.count a
      lowest-before d q p a hq hp l = record {
        at_most = l.at_most;
        ready = λ h. (ready-both d q p a hq hp h).0 (l.ready h);
        none_lower = λ b h r. l.none_lower b h ((ready-both d q p b hq hp (omega (arith, l.at_most))).1 r);
      }

      taken-before : (q p x : ℕ) → q < M.rows → p < M.rows → c q p ≡ c₀ q p → Taken E M c most q p x → Taken E M c₀ most q p x
      taken-before q p x hq hp e (inl t) = inl (omega (arith, e, t.0), t.1 ∙ e)
      taken-before q p x hq hp e (inr t) = inr (
        omega (arith, e, t.0),
        (
          t.1.0,
          subst (λ (d : ℕ). Lowest E M c₀ d q p E.count t.1.0) e (lowest-before (c q p) q p t.1.0 hq hp t.1.1),
          elim t.1.2 [ inl y ↦ inl y | inr y ↦ inr (y.0, y.1 ∙ e) ],
        ),
      )

    module _ (before : Before Settles E M c₀) (moved : (q p : ℕ) → q < M.rows → p < M.rows → Moved Settles (c₀ q p) (c q p)) where
      led-same : (q p a : ℕ) → q < M.rows → p < M.rows → a < 32 → c₀ q p ≡ 1024 + a → led E M c q p a ≡ led E M c₀ q p a
      led-same q p a hq hp ha e =
          let b = before q p a hq hp e ha in
          elim (moved _ _ (so.target_inside q a hq b.0) (so.target_inside p a hp b.0)) [ inl g ↦ g | inr g ↦ absurd (b.1 (low_first _ g.1)) ]

      settled_before : (q p x : ℕ) → q < M.rows → p < M.rows → c q p ≡ c₀ q p → Settled E M c q p x → Settled E M c₀ q p x
      settled_before q p x hq hp e (inl t) = inl (elim t.0 [ inl h ↦ inl (omega (arith, e)) | inr h ↦ inr (omega (arith, e)) ], t.1 ∙ e)
      settled_before q p x hq hp e (inr t) =
          let g = sym e ∙ t.1 in
          let d : (measure_in (led E M c q p t.0)).distance + E.weight t.0 ≡ (measure_in (led E M c₀ q p t.0)).distance + E.weight t.0 = ap (λ (y : ℕ). (measure_in y).distance + E.weight t.0) (led-same q p t.0 hq hp t.2 g) in
          inr (
            t.0,
            g,
            t.2,
            elim t.3 [
              | inl y ↦ inl (omega (arith, d, y.0), y.1 ∙ ap (λ (z : ℕ). settled_at z t.0) d)
              | inr y ↦ inr (omega (arith, d, y.0), y.1 ∙ e)
            ],
          )

    turned-before : (pass : Pass) → Before pass E M c₀ → ((q p : ℕ) → q < M.rows → p < M.rows → Moved pass (c₀ q p) (c q p))
        → (q p x : ℕ) → q < M.rows → p < M.rows → c q p ≡ c₀ q p → Turned pass E M c q p x → Turned pass E M c₀ q p x
    turned-before Ends b m q p x hq hp e t = ended-before q p x e t
    turned-before (Takes most) b m q p x hq hp e t = taken-before most b m q p x hq hp e t
    turned-before Settles b m q p x hq hp e t = settled_before b m q p x hq hp e t

  -- ---- the sweep
  module _ {pass : Pass} {at : ℕ} {s₀ s : List ℕ} (w : Sweeping pass E M at s₀ s) where
    moved-below : (q p : ℕ) → q < M.rows → p < q → Moved pass (pair_at s₀ q p) (pair_at s q p)
    moved-below q p hq hp =
        ⊎_elim
        (λ l. turned-moved pass (pair_at s₀) q p (pair_at s q p) (w.done q p hq hp l))
        (λ g. same_moved pass (pair_at s₀ q p) (pair_at s q p) (w.left q p hq hp g))
        (lt_or_ge (triangle q + p) at)

    pub sweeping-moved : (q p : ℕ) → q < M.rows → p < M.rows → Moved pass (pair_at s₀ q p) (pair_at s q p)
    sweeping-moved q p hq hp =
        ⊎_elim
        (λ l. moved-below q p hq l)
        (λ g.
        ⊎_elim
        (λ l. subst₂ (Moved pass) (pair_sym s₀ p q) (pair_sym s p q) (moved-below p q hp l))
        (λ k. same_moved pass _ _ (pair_same s q p (omega arith) ∙ sym (pair_same s₀ q p (omega arith))))
        (lt_or_ge q p))
        (lt_or_ge p q)

  -- A pass begins,
  pub sweeping_begins : (pass : Pass) (s : List ℕ) → Sweeping pass E M 0 s s
  sweeping_begins pass s = record { done = λ q p hq hp l. absurd (omega arith); left = λ q p hq hp l. refl; size = refl; rest = refl }

  -- and goes on by one pair's turn.
  module _ (so : Sound E M) {pass : Pass} {s₀ s t : List ℕ} {r : Bool} (q p : ℕ) (hq : q < M.rows) (hp : p < q) (room : triangle M.rows ≤ length s₀)
      (before : Before pass E M (pair_at s₀)) (w : Sweeping pass E M (triangle q + p) s₀ s) (v : Visited pass E M q p s t r) where
    here : triangle q + p < length s
    here = omega (arith, triangle-next q M.rows hq, w.size)

    cell-here : pair_at t q p ≡ v.cell
    cell-here = pair_greater t q p hp ∙ ap (λ (l : List ℕ). get_or l (triangle q + p) 0) v.put ∙ get_or-set_same s (triangle q + p) v.cell 0 here

    cell-there : (x y : ℕ) → y < x → (triangle x + y ≡ triangle q + p → ⊥) → pair_at t x y ≡ pair_at s x y
    cell-there x y l other =
        pair_greater t x y l
        ∙ ap (λ (l : List ℕ). get_or l (triangle x + y) 0) v.put
        ∙ get_or-set_other s (triangle q + p) (triangle x + y) v.cell 0 other
        ∙ sym (pair_greater s x y l)

    turned-here : Turned pass E M (pair_at s₀) q p v.cell
    turned-here = turned-before so (pair_at s₀) (pair_at s) pass before (sweeping-moved w) q p v.cell hq (omega arith) (w.left q p hq hp (omega arith)) v.turned

    done_next : (x y : ℕ) → x < M.rows → y < x → triangle x + y < triangle q + p + 1 → Turned pass E M (pair_at s₀) x y (pair_at t x y)
    done_next x y hx hy l =
        ⊎_elim
        (λ e.
        let k = triangle-one x y q p hy hp e in
        subst₂ (λ (i j : ℕ). Turned pass E M (pair_at s₀) i j (pair_at t i j)) (sym k.0) (sym k.1) (subst (Turned pass E M (pair_at s₀) q p) (sym cell-here) turned-here))
        (λ n. subst (Turned pass E M (pair_at s₀) x y) (sym (cell-there x y hy n)) (w.done x y hx hy (omega arith)))
        (eq_or_ne (triangle x + y) (triangle q + p))

    pub sweeping-next : Sweeping pass E M (triangle q + (p + 1)) s₀ t
    sweeping-next = record {
      done = λ x y hx hy l. done_next x y hx hy (omega arith);
      left = λ x y hx hy l. cell-there x y hy (λ e. omega arith) ∙ w.left x y hx hy (omega arith);
      size = ap (λ (l : List ℕ). length l) v.put ∙ length-set s (triangle q + p) v.cell ∙ w.size;
      rest = ap (drop (triangle M.rows)) v.put ∙ drop-set-lt (triangle M.rows) s (triangle q + p) v.cell (omega (arith, triangle-next q M.rows hq)) ∙ w.rest;
    }

-- ---- one pair's turn, at the place that the code computes for its cell

pub read_at : (s : List ℕ) (q p : ℕ) {at x : ℕ} → at ≡ triangle q + p → p < q → x ≡ get_or s at 0 → x ≡ pair_at s q p
read_at s q p ha hp hx = hx ∙ ap (λ (k : ℕ). get_or s k 0) ha ∙ sym (pair_greater s q p hp)

module _ (pass : Pass) (E : Events) (M : Machine) (q p : ℕ) (x : ℕ) {s : List ℕ} {at : ℕ} (ha : at ≡ triangle q + p) (hp : p < q) (t : Turned pass E M (pair_at s) q p x) where
  pub visited_same : {y : ℕ} → y ≡ get_or s at 0 → x ≡ y → Visited pass E M q p s s false
  visited_same hy e = record {
    cell = x;
    turned = t;
    put = sym (ap (set s (triangle q + p)) (e ∙ hy ∙ ap (λ (k : ℕ). get_or s k 0) ha) ∙ set-get_or s (triangle q + p) 0);
    kept = λ h. refl;
  }

  pub visited_new : {s' : List ℕ} → s' ≡ set s at x → Visited pass E M q p s s' true
  visited_new h = record { cell = x; turned = t; put = h ∙ ap (λ (k : ℕ). set s k x) ha; kept = λ e. absurd (true≢false e) }

-- ---- passes over some pairs, one after the other
neither : (a b : Bool) → a || b ≡ false → (a ≡ false) × (b ≡ false)
neither true b e = absurd (true≢false e)
neither false b e = (refl, e)

-- The cells of a row end where those of the next begin.
pub triangle-more : (q : ℕ) → triangle q + q ≡ triangle (q + 1)
unfolding triangle
triangle-more q = rw add-one

pub swept_none : (pass : Pass) (E : Events) (M : Machine) {from to : ℕ} (s : List ℕ) → from ≡ to → Swept pass E M from to s s false
swept_none pass E M s e = record { goes = λ s₀ so room b w. subst (λ (at : ℕ). Sweeping pass E M at s₀ s) e w; size = refl; kept = λ e. refl }

pub swept_to : {pass : Pass} {E : Events} {M : Machine} {from to end : ℕ} {s t : List ℕ} {r : Bool} → to ≡ end → Swept pass E M from to s t r → Swept pass E M from end s t r
swept_to {pass} {E} {M} {from} {to} {end} {s} {t} {r} e x = subst (λ (at : ℕ). Swept pass E M from at s t r) e x

pub swept_one : (pass : Pass) (E : Events) (M : Machine) {s t : List ℕ} {r : Bool} (q p : ℕ) → E.count ≤ 32 → q < M.rows → p < q → Visited pass E M q p s t r
    → Swept pass E M (triangle q + p) (triangle q + (p + 1)) s t r
swept_one pass E M {s} {t} {r} q p few hq hp v = record {
  goes = λ s₀ so room b w. sweeping-next E M few so q p hq hp room b w v;
  size = ap (λ (l : List ℕ). length l) v.put ∙ length-set s (triangle q + p) v.cell;
  kept = v.kept;
}

module _ {pass : Pass} {E : Events} {M : Machine} {from mid to : ℕ} {s t u : List ℕ} {a b : Bool} (x : Swept pass E M from mid s t a) (y : Swept pass E M mid to t u b) where
  both_go : (s₀ : List ℕ) → Sound E M → triangle M.rows ≤ length s₀ → Before pass E M (pair_at s₀) → Sweeping pass E M from s₀ s → Sweeping pass E M to s₀ u
  both_go s₀ so room h w = y.goes s₀ so room h (x.goes s₀ so room h w)

  pub swept_then : Swept pass E M from to s u (a || b)
  swept_then = record { goes = both_go; size = y.size ∙ x.size; kept = λ e. let w = neither a b e in y.kept w.1 ∙ x.kept w.0 }
