-- The new rows taken one by one.
use mathlib.Core.Path.{◌≡◌, refl, sym, ap, subst, ◌∙◌}
use mathlib.Core.Bool.{Bool, cond}
use mathlib.Core.List.{List}
use mathlib.Core.Logic.{◌⊎◌, inl, inr, ⊎_elim}
use Prim.Native.Nat.{ℕ, zero, suc, ◌+◌, ◌-◌, ◌*◌, ◌≤◌, ◌<◌}
use native.Mathlib.Omega.{arith}
use native.Mathlib.Decide.{dec_lt}
use native.Mathlib.Numerals.{add-one}
use borrow.Author.Tests.{lt-ltb, le-ltb, eq-eqb, ne_eqb}
use lib.ListN.{length, get_or, set}
use Rattle.scratch.proofs.Numbers.{eq_or_ne}
use Rattle.splitting.specs.Places.{nxt_at, jump_at}
use Rattle.quick_folding.specs.Parts.{list_at, seats, seat_of, Seated, leading, following, joining, Seating, Takable, Taken, Follows}
use Rattle.quick_folding.proofs.Moves.{set2_size, set2_other, set2_first, set2_second}

-- ---- the places behind the kept rows
module _ (f : ℕ → ℕ) (u : ℕ) where
  pub seats_adds : (d : ℕ) → f (u + d) ≡ u + d → seats f u (d + 1) ≡ seats f u d + 1
  unfolding seats
  seats_adds d e = ap (seats f u) (add-one d) ∙ ap (λ (b : Bool). seats f u d + cond b 1 0) (eq-eqb (f (u + d)) (u + d) e)

  pub seats-stays : (d : ℕ) → (f (u + d) ≡ u + d → ⊥) → seats f u (d + 1) ≡ seats f u d
  unfolding seats
  seats-stays d ne =
      let z : seats f u d + 0 ≡ seats f u d = omega arith in
      ap (seats f u) (add-one d) ∙ ap (λ (b : Bool). seats f u d + cond b 1 0) (ne_eqb (f (u + d)) (u + d) ne) ∙ z

  seats-more : (d : ℕ) → (seats f u d ≤ seats f u (d + 1)) × (seats f u (d + 1) ≤ seats f u d + 1)
  seats-more d = ⊎_elim (λ e. (omega (arith, seats_adds d e), omega (arith, seats_adds d e))) (λ e. (omega (arith, seats-stays d e), omega (arith, seats-stays d e))) (eq_or_ne (f (u + d)) (u + d))

  pub seats-none : seats f u 0 ≡ u
  unfolding seats
  seats-none = refl

  seats_by : (x i : ℕ) → seats f u x ≤ seats f u (x + i)
  seats_by x zero = let e : x + 0 ≡ x = omega arith in omega (arith, ap (seats f u) e)
  seats_by x (suc i) =
      let e : x + suc i ≡ x + i + 1 = omega arith in
      omega (arith, ap (seats f u) e, (seats-more (x + i)).0, seats_by x i)

  pub seats_le : (x y : ℕ) → x ≤ y → seats f u x ≤ seats f u y
  seats_le x y h = let e : x + (y - x) ≡ y = omega arith in omega (arith, ap (seats f u) e, seats_by x (y - x))

  seats_lt : (x y : ℕ) → x < y → f (u + x) ≡ u + x → seats f u x < seats f u y
  seats_lt x y h e = omega (arith, seats_adds x e, seats_le (x + 1) y (omega arith))

  pub seats_low : (d : ℕ) → u ≤ seats f u d
  seats_low d = omega (arith, seats-none, seats_le 0 d (omega arith))

  seats_high : (d : ℕ) → seats f u d ≤ u + d
  seats_high zero = omega (arith, seats-none)
  seats_high (suc d) = omega (arith, seats_high d, (seats-more d).1, ap (seats f u) (add-one d))

  pub seat_old : (c : ℕ) → f c < u → seat_of f u c ≡ f c
  seat_old c h = rw (lt-ltb (f c) u h)

  pub seat_new : (c : ℕ) → u ≤ f c → seat_of f u c ≡ seats f u (f c - u)
  seat_new c h = rw (le-ltb (f c) u h)

  -- A leader's place, as one of the new ones.
  pub leader_new : (to d : ℕ) → Follows u to f → u + d < to → u ≤ f (u + d) → (x : ℕ) × (x ≤ d) × (f (u + d) ≡ u + x) × (f (u + x) ≡ u + x)
  leader_new to d c h g =
      let e : f (u + d) ≡ u + (f (u + d) - u) = omega arith in
      (f (u + d) - u, omega (arith, c.down (u + d) h), e, subst (λ (y : ℕ). f y ≡ y) e (c.leads (u + d) (omega arith) h))

  pub seat_in : (to d : ℕ) → Follows u to f → u + d < to → seat_of f u (u + d) < seats f u (d + 1)
  seat_in to d c h = elim (dec_lt (f (u + d)) u) [
    | yes g ↦ omega (arith, seat_old (u + d) g, seats_low (d + 1))
    | no g ↦
        (let l = leader_new to d c h (omega arith) in
        let e : f (u + d) - u ≡ l.0 = omega (arith, l.2) in
        omega (arith, seat_new (u + d) (omega arith), ap (seats f u) e, seats_lt l.0 (d + 1) (omega (arith, l.1)) l.3))
  ]

pub taken_none : {n u : ℕ} (s : List ℕ) → Taken n u 0 u s s
taken_none {n} {u} s =
    record {
      size = refl;
      many = sym (seats-none (nxt_at n s) u);
      seated = λ x h. absurd (omega arith);
      listed = λ x h. absurd (omega arith);
      olds = λ c h. refl;
      later = λ k h g. refl;
      leads = λ k h. refl;
      behind = λ k h. refl;
      labels = λ x h. absurd (omega arith);
      values = λ x h. absurd (omega arith);
      other_labels = λ q h ne. refl;
      other_values = λ q h ne. refl;
    }

-- ---- one row
module _ {n u more d count : ℕ} {s t : List ℕ} (p : Takable n u more s) (k : Taken n u d count s t) (l : d < more) where
  abbrev f : ℕ → ℕ
  f = nxt_at n s

  place_in : u + d < n
  place_in = omega (arith, p.fits)

  count_low : u ≤ count
  count_low = omega (arith, k.many, seats_low f u d)

  count_high : count ≤ u + d
  count_high = omega (arith, k.many, seats_high f u d)

  leader_is : nxt_at n t (u + d) ≡ f (u + d)
  leader_is = let b = place_in in k.later (4 * n + (u + d)) (omega arith) (omega arith)

  pub row_is : get_or t (3 * n + (u + d)) 0 ≡ list_at n s (u + d)
  row_is = let b = place_in in k.later (3 * n + (u + d)) (omega arith) (omega arith)

  pub seating : Seating n u (u + d) count t
  seating =
      let b = place_in in
      record {
        few = p.few;
        room = omega (arith, p.room, k.size);
        place = b;
        down = count_high;
        leader = omega (arith, leader_is, p.follows.down (u + d) (omega arith));
      }

  -- Its place.
  seat_is : {t₁ : List ℕ} {at : ℕ} → Seated n u (u + d) count t t₁ at
      → (at ≡ seat_of f u (u + d)) × (((f (u + d) ≡ u + d) × (at ≡ count) × (t₁ ≡ set (set t (7 * n + (u + d)) count) (3 * n + count) (list_at n s (u + d)))) ⊎ ((f (u + d) ≡ u + d → ⊥) × (at < count) × (t₁ ≡ t)))
  seat_is {t₁} {at} (leading e g₁ r) =
      let g : f (u + d) ≡ u + d = sym leader_is ∙ e in
      let h : f (u + d) - u ≡ d = omega arith in
      (r ∙ k.many ∙ ap (seats f u) (sym h) ∙ sym (seat_new f u (u + d) (omega arith)), inl (g, r, g₁ ∙ ap (λ (y : ℕ). set (set t (7 * n + (u + d)) count) (3 * n + count) y) row_is))
  seat_is {t₁} {at} (following ne h g₁ r) =
      let g : f (u + d) < u = omega (arith, leader_is) in
      (r ∙ leader_is ∙ sym (seat_old f u (u + d) g), inr ((λ e. ne (leader_is ∙ e)), omega (arith, leader_is, count_low), g₁))
  seat_is {t₁} {at} (joining ne h e r) =
      let x = leader_new f u (u + more) d p.follows (omega arith) (omega (arith, leader_is)) in
      let ne2 : f (u + d) ≡ u + d → ⊥ = λ e. ne (leader_is ∙ e) in
      let xd : x.0 < d = ⊎_elim (λ (z : x.0 ≡ d). absurd (ne2 (omega (arith, x.2)))) (λ z. omega (arith, x.1)) (eq_or_ne x.0 d) in
      let y : f (u + d) - u ≡ x.0 = omega (arith, x.2) in
      let j : at ≡ seats f u x.0 = r ∙ ap (jump_at n t) (leader_is ∙ x.2) ∙ k.seated x.0 xd x.3 in
      (j ∙ ap (seats f u) (sym y) ∙ sym (seat_new f u (u + d) (omega (arith, leader_is))), inr (ne2, omega (arith, j, k.many, seats_lt f u x.0 d xd x.3), e))

  -- With the row seated, and its label and value still to come.
  record Half (count₁ : ℕ) (t₁ : List ℕ) : Type 0 where
    size : length t₁ ≡ length s
    many : count₁ ≡ seats f u (d + 1)
    seated : (x : ℕ) → x < d + 1 → f (u + x) ≡ u + x → jump_at n t₁ (u + x) ≡ seats f u x
    listed : (x : ℕ) → x < d + 1 → f (u + x) ≡ u + x → list_at n t₁ (seats f u x) ≡ list_at n s (u + x)
    olds : (c : ℕ) → c < u → list_at n t₁ c ≡ list_at n s c
    later : (k : ℕ) → 3 * n + (u + (d + 1)) ≤ k → k < 7 * n → get_or t₁ k 0 ≡ get_or s k 0
    front : (k : ℕ) → k < 3 * n → get_or t₁ k 0 ≡ get_or t k 0
    behind : (k : ℕ) → 8 * n ≤ k → get_or t₁ k 0 ≡ get_or s k 0

  half_lead : f (u + d) ≡ u + d → Half (count + 1) (set (set t (7 * n + (u + d)) count) (3 * n + count) (list_at n s (u + d)))
  half_lead e =
      let b = place_in in
      let lo = count_low in
      let hi = count_high in
      let room = p.room in
      let z = k.size in
      let m = k.many in
      let a : ℕ = 7 * n + (u + d) in
      let c : ℕ = 3 * n + count in
      let y : ℕ = list_at n s (u + d) in
      record {
        size = set2_size t a count c y ∙ z;
        many = omega (arith, seats_adds f u d e);
        seated = λ x h g.
            ⊎_elim
            (λ w. let v : 7 * n + (u + x) ≡ 7 * n + (u + d) = omega arith in rw v (set2_first t a count c y (omega arith) (λ q. omega arith)) ∙ m ∙ ap (seats f u) (sym w))
            (λ w. set2_other t a count c y (7 * n + (u + x)) (λ q. w (omega arith)) (λ q. omega arith) ∙ k.seated x (omega arith) g)
            (eq_or_ne x d);
        listed = λ x h g.
            ⊎_elim
            (λ w.
            let v : 3 * n + seats f u x ≡ 3 * n + count = omega (arith, ap (seats f u) w) in
            rw v (set2_second t a count c y (omega arith)) ∙ ap (λ (i : ℕ). list_at n s (u + i)) (sym w))
            (λ w.
            let v : seats f u x < seats f u d = seats_lt f u x d (omega arith) g in
            set2_other t a count c y (3 * n + seats f u x) (λ q. omega arith) (λ q. omega arith) ∙ k.listed x (omega arith) g)
            (eq_or_ne x d);
        olds = λ i h. set2_other t a count c y (3 * n + i) (λ q. omega arith) (λ q. omega arith) ∙ k.olds i h;
        later = λ i h g. set2_other t a count c y i (λ q. omega arith) (λ q. omega arith) ∙ k.later i (omega arith) g;
        front = λ i h. set2_other t a count c y i (λ q. omega arith) (λ q. omega arith);
        behind = λ i h. set2_other t a count c y i (λ q. omega arith) (λ q. omega arith) ∙ k.behind i h;
      }

  half_stay : (f (u + d) ≡ u + d → ⊥) → Half count t
  half_stay ne =
      record {
        size = k.size;
        many = k.many ∙ sym (seats-stays f u d ne);
        seated = λ x h g. ⊎_elim (λ w. absurd (ne (subst (λ (i : ℕ). f (u + i) ≡ u + i) w g))) (λ w. k.seated x (omega arith) g) (eq_or_ne x d);
        listed = λ x h g. ⊎_elim (λ w. absurd (ne (subst (λ (i : ℕ). f (u + i) ≡ u + i) w g))) (λ w. k.listed x (omega arith) g) (eq_or_ne x d);
        olds = k.olds;
        later = λ i h g. k.later i (omega arith) g;
        front = λ i h. refl;
        behind = k.behind;
      }

  half_taken : {count₁ : ℕ} {t₁ : List ℕ} (q at : ℕ) → Half count₁ t₁ → q ≡ list_at n s (u + d) → at ≡ seat_of f u (u + d) → Taken n u (d + 1) count₁ s (set (set t₁ (n + q) at) (2 * n + q) at)
  half_taken {count₁} {t₁} q at h is e =
      let b = place_in in
      let room = p.room in
      let z = h.size in
      let qn : q < n = omega (arith, p.rows.inside d l) in
      let a : ℕ = n + q in
      let c : ℕ = 2 * n + q in
      record {
        size = set2_size t₁ a at c at ∙ z;
        many = h.many;
        seated = λ x g i. set2_other t₁ a at c at (7 * n + (u + x)) (λ y. omega arith) (λ y. omega arith) ∙ h.seated x g i;
        listed = λ x g i. set2_other t₁ a at c at (3 * n + seats f u x) (λ y. omega arith) (λ y. omega arith) ∙ h.listed x g i;
        olds = λ i g. set2_other t₁ a at c at (3 * n + i) (λ y. omega arith) (λ y. omega arith) ∙ h.olds i g;
        later = λ i g j. set2_other t₁ a at c at i (λ y. omega arith) (λ y. omega arith) ∙ h.later i g j;
        leads = λ i g. set2_other t₁ a at c at i (λ y. omega arith) (λ y. omega arith) ∙ h.front i (omega arith) ∙ k.leads i g;
        behind = λ i g. set2_other t₁ a at c at i (λ y. omega arith) (λ y. omega arith) ∙ h.behind i g;
        labels = λ x g.
            ⊎_elim
            (λ w. let v : n + list_at n s (u + x) ≡ n + q = ap (λ (i : ℕ). n + list_at n s (u + i)) w ∙ ap (λ (i : ℕ). n + i) (sym is) in
            rw v (set2_first t₁ a at c at (omega arith) (λ y. omega arith)) ∙ e ∙ ap (λ (i : ℕ). seat_of f u (u + i)) (sym w))
            (λ w.
            let r = p.rows.inside x (omega arith) in
            set2_other t₁ a at c at (n + list_at n s (u + x)) (λ y. w (p.rows.once x d (omega arith) l (omega arith))) (λ y. omega arith)
            ∙ h.front (n + list_at n s (u + x)) (omega arith) ∙ k.labels x (omega arith))
            (eq_or_ne x d);
        values = λ x g.
            ⊎_elim
            (λ w. let v : 2 * n + list_at n s (u + x) ≡ 2 * n + q = ap (λ (i : ℕ). 2 * n + list_at n s (u + i)) w ∙ ap (λ (i : ℕ). 2 * n + i) (sym is) in
            rw v (set2_second t₁ a at c at (omega arith)) ∙ e ∙ ap (λ (i : ℕ). seat_of f u (u + i)) (sym w))
            (λ w.
            let r = p.rows.inside x (omega arith) in
            set2_other t₁ a at c at (2 * n + list_at n s (u + x)) (λ y. omega arith) (λ y. w (p.rows.once x d (omega arith) l (omega arith)))
            ∙ h.front (2 * n + list_at n s (u + x)) (omega arith) ∙ k.values x (omega arith))
            (eq_or_ne x d);
        other_labels = λ r g ne. set2_other t₁ a at c at (n + r) (λ y. ne d (omega arith) (omega arith)) (λ y. omega arith) ∙ h.front (n + r) (omega arith) ∙ k.other_labels r g (λ x i. ne x (omega arith));
        other_values = λ r g ne. set2_other t₁ a at c at (2 * n + r) (λ y. omega arith) (λ y. ne d (omega arith) (omega arith)) ∙ h.front (2 * n + r) (omega arith) ∙ k.other_values r g (λ x i. ne x (omega arith));
      }

  pub taken_hit : {t₁ : List ℕ} (q at : ℕ) → Seated n u (u + d) count t t₁ at → q ≡ list_at n s (u + d) → at ≡ count → Taken n u (d + 1) (count + 1) s (set (set t₁ (n + q) at) (2 * n + q) at)
  taken_hit {t₁} q at g is e =
      let r = seat_is g in
      half_taken q at (⊎_elim (λ y. subst (Half (count + 1)) (sym y.2) (half_lead y.0)) (λ y. absurd (omega (arith, y.1))) r.1) is r.0

  pub taken_miss : {t₁ : List ℕ} (q at : ℕ) → Seated n u (u + d) count t t₁ at → q ≡ list_at n s (u + d) → (at ≡ count → ⊥) → Taken n u (d + 1) count s (set (set t₁ (n + q) at) (2 * n + q) at)
  taken_miss {t₁} q at g is ne =
      let r = seat_is g in
      half_taken q at (⊎_elim (λ y. absurd (ne y.1)) (λ y. subst (Half count) (sym y.2) (half_stay y.0)) r.1) is r.0
