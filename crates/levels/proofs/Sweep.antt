-- What one level of the sweep makes of the leaders of the level before, and rest.
use mathlib.Core.Path.{◌≡◌, refl, sym, ap, subst, ◌∙◌}
use mathlib.Core.Bool.{true}
use mathlib.Core.List.{[], ◌∷◌, ◌++◌}
use Prim.Native.Nat.{ℕ, suc, ◌+◌, ◌-◌, ◌≤◌, ◌<◌}
use native.Mathlib.Omega.{arith}
use native.Mathlib.Decide.{dec_le, dec_lt}
use lib.ListN.{length, get_or}
use Rattle.automata.specs.Runs.{Events, Machine, Sound, Light, Near}
use Rattle.automata.proofs.Tests.{not_true}
use Rattle.automata.proofs.Runs.{near_sym, near_trans, near_up, near_cast}
use Rattle.tables.specs.Table.{offset}
use Rattle.tables.specs.Reduction.{order, similar, fold}
use Rattle.levels.specs.Levels.{row_at, need_at}
use Rattle.levels.specs.Sweep.{Rests, kept_to, listed, Placed, Border, Led, Labelled, Settled}
use Rattle.levels.proofs.Closure.{Closed, rests_wider, rest-near}
use Rattle.levels.proofs.Lists.{first-at}
use Rattle.levels.proofs.Order.{one_place}
use Rattle.levels.proofs.Folds.{at-near, at_similar, fold_listed, kept_adds, kept_skips, leader, leader_fold}
use Rattle.levels.proofs.Borders.{placed_closed, placed_into}
use Rattle.levels.proofs.Kept.{kept_placed, kept_ahead, kept_stays, listed_old, listed_new, listed-length, listed-before}

-- Before the first level there is no row.
pub led-none : (E : Events) (M : Machine) (k L : ℕ) (val : ℕ → ℕ) → Led E M k L 0 val
led-none E M k L val = record { inside = λ j h. absurd (omega arith); close = λ j h. absurd (omega arith); least = λ j x h g n. omega arith }

-- ---- leaders class the rows
module _ {E : Events} {M : Machine} {k L i : ℕ} {val : ℕ → ℕ} (l : Led E M k L i val) where
  near_leader : (q : ℕ) → Placed E M i q → Near E M M L q (get_or (kept_to E M k i) (val q) 0)
  near_leader q p = subst (λ (x : ℕ). Near E M M L x (get_or (kept_to E M k i) (val x) 0)) p.2 (l.close p.0 p.1)

  pub led_exact : (q p : ℕ) → Placed E M i q → Placed E M i p → val q ≡ val p → Near E M M L q p
  led_exact q p hq hp e = near_trans (near_leader q hq) (near_cast (ap (λ (c : ℕ). get_or (kept_to E M k i) c 0) (sym e)) refl (near_sym (near_leader p hp)))

  pub led_sound : (q p : ℕ) → Placed E M i q → Placed E M i p → Near E M M L q p → val q ≡ val p
  led_sound q p hq hp n = omega (arith, below q p hq hp n, below p q hp hq (near_sym n))
    where
      below : (q p : ℕ) → Placed E M i q → Placed E M i p → Near E M M L q p → val q ≤ val p
      below q p hq hp n = elim (dec_le (val q) (val p)) [
        | yes g ↦ g
        | no g ↦ absurd (l.least hq.0 (val p) hq.1 (subst (λ (x : ℕ). val p < val x) (sym hq.2) (omega arith)) (near_cast (sym hq.2) refl (near_trans n (near_leader p hp))))
      ]

module _ {E : Events} {M : Machine} (s : Sound E M) (z : Light E) (k : ℕ) where
  -- ---- where the rows that come in at a level fold

  -- The row into which the row at place j folds is the first of the kept ones that is near it, at the level it needs.
  kept_least : (i j c h : ℕ) → j < length (order E M) → c < length (kept_to E M k i) → get_or (kept_to E M k i) c 0 ≡ fold E M (offset k) (row_at E M j)
      → h < c → Near E M M (need_at E M k (row_at E M j)) (row_at E M j) (get_or (kept_to E M k i) h 0) → ⊥
  kept_least i j c h hj hc e hh n =
      let r = leader s z k j hj in
      let p = kept_placed E M k i h (omega arith) in
      let before = kept_ahead E M k i h c p.0 r.0 hh hc p.2 (omega (arith, r.1.no_later)) p.3 (sym (leader_fold s z k r.0 j hj r.1) ∙ sym e) in
      r.1.none_before p.0 before (near_cast refl (sym p.3) n)

  -- The first place of `listed` that is near the row at place j, at the level it needs, has the row into which it folds.
  listed_fold : (u e j c : ℕ) → u ≤ j → j < e → e ≤ length (order E M) → c ≤ length (kept_to E M k u) + (j - u)
      → Near E M M (need_at E M k (row_at E M j)) (row_at E M j) (get_or (listed E M k u e) c 0)
      → ((h : ℕ) → h < c → Near E M M (need_at E M k (row_at E M j)) (row_at E M j) (get_or (listed E M k u e) h 0) → ⊥)
      → fold E M (offset k) (row_at E M j) ≡ get_or (listed E M k u e) c 0
  listed_fold u e j c uj je fit cj n away =
      fold_listed s z k u j e 0 (omega arith) je (omega arith)
      ∙ first-at (similar E M (offset k) (row_at E M j)) (listed E M k u e) c 0 0 (omega (arith, listed-length E M k u e (omega arith) fit))
      (let p = stands c cj in subst (λ (x : ℕ). similar E M (offset k) (row_at E M j) x ≡ true) p.2 (at_similar s z k p.0 j p.1 (omega arith) (near_cast refl (sym p.2) n)))
      (λ h g. not_true (similar E M (offset k) (row_at E M j) (get_or (listed E M k u e) h 0)) (λ t.
      let p = stands h (omega arith) in
      away h g (near_cast refl p.2 (at-near s z k p.0 j p.1 (omega arith) (subst (λ (x : ℕ). similar E M (offset k) (row_at E M j) x ≡ true) (sym p.2) t)))))
    where
      stands : (c : ℕ) → c ≤ length (kept_to E M k u) + (j - u) → (x : ℕ) × (x ≤ j) × (row_at E M x ≡ get_or (listed E M k u e) c 0)
      stands c h = elim (dec_lt c (length (kept_to E M k u) + (j - u))) [
        | yes g ↦ (let p = listed-before E M k u e j c uj (omega arith) g in (p.0, omega (arith, p.1), p.2))
        | no g ↦ (let b : length (kept_to E M k u) + (j - u) ≡ c = omega arith in (j, omega arith, sym (listed_new E M k u e j uj je) ∙ ap (λ (i : ℕ). get_or (listed E M k u e) i 0) b))
      ]

  -- Labels are final once written: old ones stay, new ones are the places of the rows into which the new rows fold.
  pub labelled_next : (u e : ℕ) (lab next : ℕ → ℕ) → u ≤ e → Labelled E M k u lab → ((j : ℕ) → j < u → next (row_at E M j) ≡ lab (row_at E M j))
      → ((j : ℕ) → u ≤ j → j < e → next (row_at E M j) < length (kept_to E M k e))
      → ((j : ℕ) → u ≤ j → j < e → get_or (kept_to E M k e) (next (row_at E M j)) 0 ≡ fold E M (offset k) (row_at E M j)) → Labelled E M k e next
  labelled_next u e lab next ue l old in_kept is = record {
    inside = λ j h. elim (dec_lt j u) [ yes g ↦ omega (arith, old j g, (kept_stays E M k u e (lab (row_at E M j)) ue (l.inside j g)).0) | no g ↦ in_kept j (omega arith) h ];
    folds = λ j h. elim (dec_lt j u) [
      | yes g ↦ ap (λ (c : ℕ). get_or (kept_to E M k e) c 0) (old j g) ∙ (kept_stays E M k u e (lab (row_at E M j)) ue (l.inside j g)).1 ∙ l.folds j g
      | no g ↦ is j (omega arith) h
    ];
  }

  -- The rows from place u up to e need level K, and `nxt` gives the leaders of what is listed at that level.
  module _ (K u e : ℕ) (nxt : ℕ → ℕ) (settled : Settled E M k K u e nxt) (ue : u ≤ e) (fit : e ≤ length (order E M))
      (needs : (j : ℕ) → u ≤ j → j < e → need_at E M k (row_at E M j) ≡ K) where
    -- the place at which a new row is listed
    abbrev at : ℕ → ℕ
    at j = length (kept_to E M k u) + (j - u)

    -- A new row folds into the row at its leader's place.
    pub new-fold : (j : ℕ) → u ≤ j → j < e → fold E M (offset k) (row_at E M j) ≡ get_or (listed E M k u e) (nxt (at j)) 0
    new-fold j uj je =
        let b : at j < length (listed E M k u e) = omega (arith, listed-length E M k u e ue fit) in
        let r : get_or (listed E M k u e) (at j) 0 ≡ row_at E M j = listed_new E M k u e j uj je in
        listed_fold u e j (nxt (at j)) uj je fit (settled.no_later (at j) b)
        (rw (needs j uj je) (near_cast r refl (settled.close (at j) b)))
        (λ h g n. settled.least (at j) h b g (near_cast (sym r) refl (rw (needs j uj je) at n)))

    -- So it is kept just if it leads.
    pub new-adds : (j : ℕ) → u ≤ j → j < e → nxt (at j) ≡ at j → kept_to E M k (suc j) ≡ kept_to E M k j ++ (row_at E M j ∷ [])
    new-adds j uj je g = kept_adds s z k j (omega arith) (new-fold j uj je ∙ ap (λ (i : ℕ). get_or (listed E M k u e) i 0) g ∙ listed_new E M k u e j uj je)

    pub new-skips : (j : ℕ) → u ≤ j → j < e → (nxt (at j) ≡ at j → ⊥) → kept_to E M k (suc j) ≡ kept_to E M k j
    new-skips j uj je ne = kept_skips s z k j (omega arith) (λ own.
        let c : nxt (at j) < at j = omega (arith, leads-down ne) in
        let p = listed-before E M k u e j (nxt (at j)) uj (omega arith) c in
        omega (arith, p.1, one_place E M p.0 j (omega (arith, p.1)) (omega arith) (p.2 ∙ sym (new-fold j uj je) ∙ own)))
      where
        leads-down : (nxt (at j) ≡ at j → ⊥) → nxt (at j) < at j
        leads-down ne = elim (dec_lt (nxt (at j)) (at j)) [
          | yes g ↦ g
          | no g ↦ absurd (ne (omega (arith, settled.no_later (at j) (omega (arith, listed-length E M k u e ue fit)))))
        ]

    -- From the leaders of the first u rows at a level L to those of the first e at level K: an old row has its leader's leader,
    -- a new one the place at which its leader's row stands among the kept ones.
    module _ (L : ℕ) (val next : ℕ → ℕ) (led : Led E M k L u val) (up : L ≤ K) where
      pub led-next : ((j : ℕ) → j < u → next (row_at E M j) ≡ nxt (val (row_at E M j)))
          → ((j : ℕ) → u ≤ j → j < e → next (row_at E M j) < length (kept_to E M k e))
          → ((j : ℕ) → u ≤ j → j < e → get_or (kept_to E M k e) (next (row_at E M j)) 0 ≡ fold E M (offset k) (row_at E M j))
          → Led E M k K e next
      led-next old in_kept is = record {
        inside = λ j h. elim (dec_lt j u) [ yes g ↦ old-in j g | no g ↦ in_kept j (omega arith) h ];
        close = λ j h. elim (dec_lt j u) [
          | yes g ↦ near_trans (near_up up (led.close j g)) (near_cast (here j g) (there j g) (settled.close (val (row_at E M j)) (inside j g)))
          | no g ↦
              (let r = leader s z k j (omega arith) in
              near_cast refl (sym (leader_fold s z k r.0 j (omega arith) r.1) ∙ sym (is j (omega arith) h)) (rw (needs j (omega arith) h) at r.1.close))
        ];
        least = λ j x h b n. elim (dec_lt j u) [
          | yes g ↦
              (let nx : x < nxt (val (row_at E M j)) = omega (arith, old j g) in
              let bx : x < length (kept_to E M k u) = omega (arith, settled.no_later (val (row_at E M j)) (inside j g), led.inside j g) in
              settled.least (val (row_at E M j)) x (inside j g) nx
              (near_trans (near_cast (sym (here j g)) refl (near_sym (near_up up (led.close j g))))
              (near_cast refl ((kept_stays E M k u e x ue bx).1 ∙ sym (listed_old E M k u e x bx)) n)))
          | no g ↦ kept_least e j (next (row_at E M j)) x (omega arith) (in_kept j (omega arith) h) (is j (omega arith) h) b (rw (needs j (omega arith) h) n)
        ];
      }
        where
          inside : (j : ℕ) → j < u → val (row_at E M j) < length (listed E M k u e)
          inside j g = omega (arith, led.inside j g, listed-length E M k u e ue fit)

          low : (j : ℕ) → j < u → nxt (val (row_at E M j)) < length (kept_to E M k u)
          low j g = omega (arith, settled.no_later (val (row_at E M j)) (inside j g), led.inside j g)

          old-in : (j : ℕ) → j < u → next (row_at E M j) < length (kept_to E M k e)
          old-in j g = omega (arith, old j g, (kept_stays E M k u e (nxt (val (row_at E M j))) ue (low j g)).0)

          here : (j : ℕ) → j < u → get_or (listed E M k u e) (val (row_at E M j)) 0 ≡ get_or (kept_to E M k u) (val (row_at E M j)) 0
          here j g = listed_old E M k u e (val (row_at E M j)) (led.inside j g)

          there : (j : ℕ) → j < u → get_or (listed E M k u e) (nxt (val (row_at E M j))) 0 ≡ get_or (kept_to E M k e) (next (row_at E M j)) 0
          there j g = listed_old E M k u e (nxt (val (row_at E M j))) (low j g) ∙ sym (kept_stays E M k u e (nxt (val (row_at E M j))) ue (low j g)).1
              ∙ ap (λ (i : ℕ). get_or (kept_to E M k e) i 0) (sym (old j g))

  -- ---- rest

  -- At rest, leaders stay leaders at all later levels.
  pub led-rest : (L K i : ℕ) (val : ℕ → ℕ) → L ≤ K → Closed E M (Placed E M i) → Rests E M (Placed E M i) L → Led E M k L i val → Led E M k K i val
  led-rest L K i val up cl r l = record {
    inside = l.inside;
    close = λ j h. near_up up (l.close j h);
    least = λ j h b g n.
        let p = kept_placed E M k i h (omega (arith, l.inside j b)) in
        l.least j h b g (rest-near z (Placed E M i) cl L K r (row_at E M j) (get_or (kept_to E M k i) h 0) (j, b, refl) (p.0, p.1, p.3) n);
  }

  -- Where no old row's leader changes from level K to the next, the old rows are at rest at level K, and so all of them at the next.
  module _ (K u e : ℕ) (val nxt : ℕ → ℕ) (ue : u ≤ e) (b : Border E M k K u) (f : Border E M k (suc K) e) (led : Led E M k K u val) (settled : Settled E M k (suc K) u e nxt)
      (same : (j : ℕ) → j < u → nxt (val (row_at E M j)) ≡ val (row_at E M j)) where
    near-listed : (j : ℕ) → j < u → Near E M M (suc K) (row_at E M j) (get_or (listed E M k u e) (val (row_at E M j)) 0)
    near-listed j h = near_cast refl (sym (listed_old E M k u e (val (row_at E M j)) (led.inside j h))) (near_up (omega arith) (led.close j h))

    no-higher : (i j : ℕ) → i < u → j < u → Near E M M (suc K) (row_at E M i) (row_at E M j) → val (row_at E M i) ≤ val (row_at E M j)
    no-higher i j hi hj n = elim (dec_lt (val (row_at E M j)) (val (row_at E M i))) [
      | yes g ↦ absurd (settled.least (val (row_at E M i)) (val (row_at E M j)) (omega (arith, led.inside i hi, listed-length E M k u e ue f.within)) (omega (arith, same i hi))
          (near_trans (near_sym (near-listed i hi)) (near_trans n (near-listed j hj))))
      | no g ↦ omega arith
    ]

    rest-old : Rests E M (Placed E M u) K
    rest-old = record {
      down = λ q p hq hp n.
          let m = near_cast (sym hq.2) (sym hp.2) n in
          near_cast hq.2 hp.2 (led_exact led (row_at E M hq.0) (row_at E M hp.0) (hq.0, hq.1, refl) (hp.0, hp.1, refl)
          (omega (arith, no-higher hq.0 hp.0 hq.1 hp.1 m, no-higher hp.0 hq.0 hp.1 hq.1 (near_sym m))));
    }

    pub rest_all : Rests E M (Placed E M e) (suc K)
    rest_all = rests_wider z (Placed E M u) (placed_closed s z k K u b) (Placed E M e) (placed_closed s z k (suc K) e f) (placed_into s z k K u b e f) K rest-old
