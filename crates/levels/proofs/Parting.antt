-- The least distance of a row from the rows before it is the level at which it loses its lead, in the sweep at offset 0.
use mathlib.Core.Path.{◌≡◌, refl, sym, ap, subst, ◌∙◌}
use mathlib.Core.List.{[]}
use Prim.Native.Nat.{ℕ, ◌≤◌, ◌<◌}
use native.Mathlib.Omega.{arith}
use native.Mathlib.Decide.{dec_lt, ℕ_discrete}
use lib.ListN.{length, get_or}
use lib.Seq.{take-length}
use Rattle.automata.specs.Runs.{Events, Machine, Sound, Light, Len, len, endless}
use Rattle.automata.proofs.Lists.{Mem}
use Rattle.automata.proofs.Runs.{near_refl, near_up, near_cast}
use Rattle.tables.specs.Table.{offset}
use Rattle.tables.specs.Lists.{sift}
use Rattle.tables.specs.Lengths.{depth}
use Rattle.tables.specs.Reduction.{order, similar, kept, fold}
use Rattle.tables.proofs.Lists.{at_mem}
use Rattle.levels.specs.Levels.{need, row_at, need_at, apart}
use Rattle.levels.specs.Sweep.{Rests, Placed, kept_to, Led, Labelled}
use Rattle.levels.proofs.Closure.{Closed, rest-near}
use Rattle.levels.proofs.Folds.{kept_lone, leader, leader_fold}
use Rattle.levels.proofs.Kept.{kept_placed, kept_ahead}
use Rattle.levels.proofs.Order.{one_place}
use Rattle.levels.proofs.Sheet.{Within, apart_holds, apart-found}
use Rattle.levels.proofs.Sweep.{led_sound}

-- At offset 0 no row needs more than level 0.
none_needed : (d : Len) → need 0 d ≤ 0
none_needed (len d) = omega arith
none_needed endless = omega arith

pub no_need : (E : Events) (M : Machine) (q : ℕ) → need_at E M 0 q ≤ 0
no_need E M q = none_needed (depth E M q)

-- The kept rows of the whole order are all kept rows.
all_kept : (E : Events) (M : Machine) (k : ℕ) → kept_to E M k (length (order E M)) ≡ kept E M (offset k)
unfolding kept_to kept
all_kept E M k = ap (sift (similar E M (offset k)) []) (take-length (order E M))

module _ {E : Events} {M : Machine} (s : Sound E M) (z : Light E) where
  abbrev all : ℕ
  all = length (order E M)

  -- A row that folds into another at level 0 is at distance 0 from it.
  pub folded-apart : (j : ℕ) → j < all → (fold E M (offset 0) (row_at E M j) ≡ row_at E M j → ⊥) → Within (apart E M (row_at E M j)) 0
  folded-apart j h ne =
      let r = leader s z 0 j h in
      let own : r.0 ≡ j → ⊥ = λ e. ne (leader_fold s z 0 r.0 j h r.1 ∙ ap (row_at E M) e) in
      elim (dec_lt r.0 j) [
        | yes l ↦ apart-found s z r.0 j 0 l h (near_up (no_need E M (row_at E M j)) r.1.close)
        | no l ↦ absurd (own (omega (arith, r.1.no_later)))
      ]

  -- One that is kept is not.
  pub kept_apart : (c : ℕ) → c < length (kept_to E M 0 all) → Within (apart E M (get_or (kept_to E M 0 all) c 0)) 0 → ⊥
  kept_apart c h w =
      let p = kept_placed E M 0 all c h in
      let x = apart_holds s z p.0 0 p.2 (subst (λ (q : ℕ). Within (apart E M q) 0) (sym p.3) w) in
      kept_lone s z 0 x.0 p.0 x.1 p.2
      (subst (λ (q : ℕ). Mem q (kept E M (offset 0))) (sym p.3) (rw (← all_kept E M 0) (at_mem (kept_to E M 0 all) c 0 h)))
      (near_up (omega arith) x.2)

  -- At rest no later level brings a row near.
  pub rest-apart : (L K j : ℕ) → Closed E M (Placed E M all) → Rests E M (Placed E M all) L → j < all → Within (apart E M (row_at E M j)) K → Within (apart E M (row_at E M j)) L
  rest-apart L K j cl r h w =
      let x = apart_holds s z j K h w in
      let b : x.0 < all = omega (arith, x.1) in
      apart-found s z x.0 j L x.1 h (rest-near z (Placed E M all) cl L K r (row_at E M j) (row_at E M x.0) (j, h, refl) (x.0, b, refl) x.2)

  module _ (L : ℕ) (val lab : ℕ → ℕ) (led : Led E M 0 L all val) (labelled : Labelled E M 0 all lab) (c : ℕ) (h : c < length (kept_to E M 0 all)) where
    abbrev q : ℕ
    q = get_or (kept_to E M 0 all) c 0

    -- Its leader is no later place.
    lower : (val q ≡ c → ⊥) → val q < c
    lower ne = elim (dec_lt (val q) c) [
      | yes g ↦ g
      | no g ↦
          (let p = kept_placed E M 0 all c h in
          let far : c < val q = elim (ℕ_discrete (val q) c) [ yes e ↦ absurd (ne e) | no d ↦ omega arith ] in
          absurd (led.least p.0 c p.1 (omega (arith, ap val p.3)) (near_cast refl p.3 near_refl)))
    ]

    -- A kept row that leads no more has a row before it that is near.
    pub lost-apart : (val q ≡ c → ⊥) → Within (apart E M q) L
    lost-apart ne = at (kept_placed E M 0 all c h) (kept_placed E M 0 all (val q) (omega (arith, lower ne)))
      where
        at : (x : ℕ) × (x < all) × (x < all) × (row_at E M x ≡ q) → (x : ℕ) × (x < all) × (x < all) × (row_at E M x ≡ get_or (kept_to E M 0 all) (val q) 0) → Within (apart E M q) L
        at p o = subst (λ (x : ℕ). Within (apart E M x) L) p.3
            (apart-found s z o.0 p.0 L (kept_ahead E M 0 all (val q) c o.0 p.0 (lower ne) h o.2 p.2 o.3 p.3) p.2
            (near_cast refl (ap (λ (x : ℕ). get_or (kept_to E M 0 all) (val x) 0) p.3 ∙ sym o.3) (led.close p.0 p.1)))

    -- One that leads has none: the first of the rows near it at level 0 would lead in its place.
    pub lead-apart : val q ≡ c → Within (apart E M q) L → ⊥
    lead-apart e w =
        let p = kept_placed E M 0 all c h in
        let x = apart_holds s z p.0 L p.2 (subst (λ (y : ℕ). Within (apart E M y) L) (sym p.3) w) in
        let hx : x.0 < all = omega (arith, x.1, p.2) in
        let r = leader s z 0 x.0 hx in
        let d : ℕ = lab (row_at E M x.0) in
        let own : row_at E M r.0 ≡ get_or (kept_to E M 0 all) d 0 = sym (leader_fold s z 0 r.0 x.0 hx r.1) ∙ sym (labelled.folds x.0 hx) in
        let same : val (row_at E M p.0) ≡ val (row_at E M x.0)
        = led_sound led (row_at E M p.0) (row_at E M x.0) (p.0, p.1, refl) (x.0, hx, refl) x.2 in
        let mine : val (row_at E M p.0) ≡ c = ap val p.3 ∙ e in
        elim (dec_lt d c) [
          | yes g ↦ led.least x.0 d hx (omega arith) (near_cast refl own (near_up (omega (arith, no_need E M (row_at E M x.0))) r.1.close))
          | no g ↦ elim (ℕ_discrete d c) [
            | yes f ↦ omega (
              arith,
              x.1,
              r.1.no_later,
              one_place E M r.0 p.0 (omega (arith, r.1.no_later)) p.2 (own ∙ ap (λ (y : ℕ). get_or (kept_to E M 0 all) y 0) f ∙ sym p.3),
            )
            | no f ↦ omega (
              arith,
              x.1,
              r.1.no_later,
              kept_ahead E M 0 all c d p.0 r.0 (omega arith) (labelled.inside x.0 hx) p.2 (omega (arith, r.1.no_later)) p.3 own,
            )
          ]
        ]
