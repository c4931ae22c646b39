-- What a level makes: from the leaders of its places to the invariant of the sweep.
use mathlib.Core.Path.{◌≡◌, refl, sym, ap, subst, ◌∙◌}
use mathlib.Core.Bool.{Bool, true}
use mathlib.Core.List.{List, [], ◌∷◌, ◌++◌}
use mathlib.Core.Logic.{◌⊎◌, inl, inr, ⊎_elim}
use Prim.Native.Nat.{ℕ, zero, suc, ◌+◌, ◌-◌, ◌*◌, ◌≤◌, ◌<◌}
use native.Mathlib.Omega.{arith}
use native.Mathlib.Decide.{dec_lt}
use native.Mathlib.Numerals.{add-one}
use lib.ListN.{length, get_or, length-append, get_or-append}
use lib.Seq.{get_or-append_seam}
use Rattle.automata.proofs.Runs.{near_sym, near_cast}
use Rattle.automata.proofs.Tests.{clash}
use Rattle.automata.specs.Runs.{Events, Machine, Sound, Light}
use Rattle.tables.specs.Table.{Table, weight_by, machine, events_of, offset}
use Rattle.tables.specs.Reduction.{order, fold}
use Rattle.tables.proofs.Counted.{mask_light}
use Rattle.scratch.proofs.Numbers.{eq_or_ne}
use Rattle.levels.specs.Levels.{row_at, need_at}
use Rattle.levels.specs.Sweep.{Rests, Placed, kept_to, listed, Led, Labelled, Settled}
use Rattle.levels.proofs.Order.{at_row, one_place}
use Rattle.levels.proofs.Borders.{border_needs}
use Rattle.levels.proofs.Kept.{kept_stays, kept_placed, listed_old}
use Rattle.levels.proofs.Sweep.{led_sound, labelled_next, new-fold, new-adds, new-skips, led-next, rest_all}
use Rattle.splitting.specs.Places.{nxt_at, jump_at}
use Rattle.quick_folding.specs.Parts.{label_at, value_at, list_at, seats, seat_of, Appended, Leading, Renewable, Renewed, still, passed, Follows, Takable, Taken}
use Rattle.quick_folding.specs.State.{Fits, Before, After}
use Rattle.quick_folding.proofs.Takes.{seats-none, seats_adds, seats-stays, seats_le, seats_low, seat_old, seat_new, leader_new, seat_in}
use Rattle.quick_folding.proofs.Grouping.{Grouping}
use Rattle.quick_folding.proofs.Entering as In

module _ {T : Table} (mask : ℕ) {k L i j u : ℕ} {s : List ℕ} (v : Fits T k s) (b : Before (events_of (weight_by mask) T) (machine T) k L i j u s)
    {t₁ : List ℕ} (a : Appended T.rows u i (j - i) s t₁) {t₂ : List ℕ} {lost : ℕ} {f : ℕ → ℕ} (d : Grouping mask T k L i j u s t₁ t₂ lost f) where
  abbrev n : ℕ
  n = T.rows

  abbrev E : Events
  E = events_of (weight_by mask) T

  abbrev M : Machine
  M = machine T

  sound : Sound E M
  sound = In.sound v mask

  light : Light E
  light = mask_light mask T

  bounds : (u ≤ i) × (i ≤ j) × (j ≤ n) × (j ≤ length (order E M))
  bounds = In.bounds mask v b

  -- ---- behind `group`
  same_front : (x : ℕ) → x < 4 * n → get_or t₂ x 0 ≡ get_or t₁ x 0
  same_front = d.front

  row₂ : (c : ℕ) → c < u + (j - i) → list_at n t₂ c ≡ get_or (listed E M k i j) c 0
  row₂ c h = same_front (3 * n + c) (omega (arith, bounds.0, bounds.1, bounds.2)) ∙ In.row_listed mask v b a c h

  new₂ : (x : ℕ) → x < j - i → list_at n t₂ (u + x) ≡ row_at E M (i + x)
  new₂ x h = same_front (3 * n + (u + x)) (omega (arith, bounds.0, bounds.1, bounds.2)) ∙ a.listed x h ∙ In.row_in mask v b x h

  size₂ : length t₂ ≡ length s
  size₂ = d.size ∙ a.size

  val₂ : (q : ℕ) → q < n → value_at n t₂ q ≡ value_at n t₁ q
  val₂ q h = same_front (2 * n + q) (omega arith)

  -- What `renew` asks.
  pub renewable : L ≤ 65535 → Renewable n u L lost t₂
  renewable low =
      record {
        few = (In.shape v).rows_fit;
        room = omega (arith, size₂, In.room v);
        values = λ q h. omega (arith, val₂ q h, In.value_low mask v b a q h, bounds.0, bounds.1, bounds.2);
        fits = omega (arith, bounds.0, bounds.1, bounds.2);
        rows = λ c h.
            let p = kept_placed E M k i c (omega (arith, b.gone.many)) in
            omega (arith, row₂ c (omega arith), listed_old E M k i j c (omega (arith, b.gone.many)), p.3, at_row E M p.0 p.2);
        low = low;
        many = d.many;
        losers = d.losers;
        lower = λ l x h.
            let o = (d.losers l x h).place in
            let y = bounds.0 in
            let z = bounds.1 in
            let r = bounds.2 in
            omega (arith, d.follows.down (jump_at n t₂ x) (omega arith));
        leads = d.leads;
        listed = d.listed;
      }

  -- ---- behind `renew`
  module _ {t₃ : List ℕ} {r : Bool} (w : Renewed n u L lost t₂ t₃ r) where
    abbrev f₃ : ℕ → ℕ
    f₃ = nxt_at n t₃

    -- Only values and stamps have changed.
    pub same₃ : (x : ℕ) → (x < 2 * n) ⊎ (((3 * n ≤ x) × (x < 5 * n)) ⊎ (6 * n ≤ x)) → get_or t₃ x 0 ≡ get_or t₂ x 0
    same₃ = pick w
      where
        pick : Renewed n u L lost t₂ t₃ r → (x : ℕ) → (x < 2 * n) ⊎ (((3 * n ≤ x) × (x < 5 * n)) ⊎ (6 * n ≤ x)) → get_or t₃ x 0 ≡ get_or t₂ x 0
        pick (still why te re) x h = ap (λ (l : List ℕ). get_or l x 0) te
        pick (passed some p re) x (inl h) = p.below x h
        pick (passed some p re) x (inr (inl h)) = p.between x h.0 h.1
        pick (passed some p re) x (inr (inr h)) = p.above x h

    size₃ : length t₃ ≡ length s
    size₃ = pick w ∙ size₂
      where
        pick : Renewed n u L lost t₂ t₃ r → length t₃ ≡ length t₂
        pick (still why te re) = ap length te
        pick (passed some p re) = p.size

    nxt-is : (c : ℕ) → c < n → f₃ c ≡ nxt_at n t₂ c
    nxt-is c h = same₃ (4 * n + c) (inr (inl (omega arith, omega arith)))

    follows₃ : Follows u (u + (j - i)) f₃
    follows₃ =
        let q = bounds.0 in
        let y = bounds.1 in
        let z = bounds.2 in
        record {
          down = λ c h. omega (arith, nxt-is c (omega arith), d.follows.down c h);
          leads = λ c l h.
              let x = d.follows.down c h in
              ap f₃ (nxt-is c (omega arith)) ∙ nxt-is (nxt_at n t₂ c) (omega arith) ∙ d.follows.leads c l h ∙ sym (nxt-is c (omega arith));
        }

    row₃ : (c : ℕ) → c < u + (j - i) → list_at n t₃ c ≡ get_or (listed E M k i j) c 0
    row₃ c h = same₃ (3 * n + c) (inr (inl (omega arith, omega (arith, bounds.0, bounds.1, bounds.2)))) ∙ row₂ c h

    new₃ : (x : ℕ) → x < j - i → list_at n t₃ (u + x) ≡ row_at E M (i + x)
    new₃ x h = same₃ (3 * n + (u + x)) (inr (inl (omega arith, omega (arith, bounds.0, bounds.1, bounds.2)))) ∙ new₂ x h

    -- A new place has the leader of the level.
    f-new : (x : ℕ) → x < j - i → f (u + x) ≡ f₃ (u + x)
    f-new x h = d.new_led x h ∙ sym (nxt-is (u + x) (omega (arith, bounds.0, bounds.1, bounds.2)))

    -- What `take_new` asks.
    pub takable : Takable n u (j - i) t₃
    takable =
        record {
          few = (In.shape v).rows_fit;
          room = omega (arith, size₃, In.room v);
          fits = omega (arith, bounds.0, bounds.1, bounds.2);
          follows = follows₃;
          rows =
              record {
                inside = λ x h. omega (arith, new₃ x h, at_row E M (i + x) (omega (arith, bounds.3)));
                once = λ x y h g e. omega (arith, one_place E M (i + x) (i + y) (omega (arith, bounds.3)) (omega (arith, bounds.3)) (sym (new₃ x h) ∙ e ∙ new₃ y g));
              };
        }

    settled : Settled E M k L i j f
    settled = d.settled

    -- Old rows: the leader of the value.
    level-of : (y : ℕ) → y < i → (K : ℕ) × (L ≡ suc K)
    level-of y h = pick L refl
      where
        pick : (H : ℕ) → L ≡ H → (K : ℕ) × (L ≡ suc K)
        pick zero e = absurd (omega (arith, b.first e))
        pick (suc K) e = (K, e)

    -- The value of an old row is a place.
    value_in : (y : ℕ) → y < i → value_at n s (row_at E M y) < u
    value_in y h = omega (arith, b.led.inside y h, b.gone.many)

    old-value₂ : (y : ℕ) → y < i → value_at n t₂ (row_at E M y) ≡ value_at n s (row_at E M y)
    old-value₂ y h = val₂ (row_at E M y) (at_row E M y (omega (arith, bounds.1, bounds.3))) ∙ In.value-old mask v b a y h

    -- It led at the level before.
    own₂ : (y : ℕ) → y < i → value_at n t₂ (list_at n t₂ (value_at n s (row_at E M y))) ≡ value_at n s (row_at E M y)
    own₂ y h =
        let K = level-of y h in
        let led = In.led-last mask v b K.0 K.1 in
        let c : ℕ = value_at n s (row_at E M y) in
        let l : c < length (kept_to E M k i) = led.inside y h in
        let p = kept_placed E M k i c l in
        let q : list_at n t₂ c ≡ row_at E M p.0 = row₂ c (omega (arith, b.gone.many)) ∙ listed_old E M k i j c l ∙ sym p.3 in
        ap (value_at n t₂) q
        ∙ val₂ (row_at E M p.0) (at_row E M p.0 p.2) ∙ In.value-old mask v b a p.0 p.1
        ∙ led_sound led (row_at E M p.0) (row_at E M y) (p.0, p.1, refl) (y, h, refl)
        (near_sym (near_cast refl (sym p.3) (led.close y h)))

    leading₂ : (y : ℕ) → y < i → Leading n u t₂ (value_at n t₂ (row_at E M y))
    leading₂ y h = subst (Leading n u t₂) (sym (old-value₂ y h)) (record { place = value_in y h; own = own₂ y h })

    old-same : r ≡ true → (y : ℕ) → y < i → f (value_at n s (row_at E M y)) ≡ value_at n s (row_at E M y)
    old-same e y h = d.old_led y h ∙ pick w
      where
        pick : Renewed n u L lost t₂ t₃ r → nxt_at n t₂ (value_at n s (row_at E M y)) ≡ value_at n s (row_at E M y)
        pick (still (inl z) te re) = d.calm z y h
        pick (still (inr z) te re) = z (value_at n s (row_at E M y)) (value_in y h) ∙ own₂ y h
        pick (passed some p re) = clash e re

    old_value : (y : ℕ) → y < i → value_at n t₃ (row_at E M y) ≡ f (value_at n s (row_at E M y))
    old_value y h = pick w
      where
        pick : Renewed n u L lost t₂ t₃ r → value_at n t₃ (row_at E M y) ≡ f (value_at n s (row_at E M y))
        pick (still why te re) = ap (λ (l : List ℕ). value_at n l (row_at E M y)) te ∙ old-value₂ y h ∙ sym (old-same re y h)
        pick (passed some p re) =
            p.here (row_at E M y) (at_row E M y (omega (arith, bounds.1, bounds.3))) (leading₂ y h) ∙ ap (nxt_at n t₂) (old-value₂ y h) ∙ sym (d.old_led y h)

    needs : (y : ℕ) → i ≤ y → y < j → need_at E M k (row_at E M y) ≡ L
    needs y h g = pick L refl
      where
        pick : (H : ℕ) → L ≡ H → need_at E M k (row_at E M y) ≡ L
        pick zero e = omega (arith, b.border.low y g)
        pick (suc K) e = border_needs E M k K i j (b.last K e) (In.border-next mask v b K e) y h g ∙ sym e

    -- At rest.
    resting : r ≡ true → 0 < L → Rests E M (Placed E M j) L
    resting e pos =
        let K : ℕ = L - 1 in
        let z : L ≡ suc K = omega arith in
        subst (λ (H : ℕ). Rests E M (Placed E M j) H) (sym z)
        (rest_all sound light k K i j (value_at n s) f b.to (b.last K z) (In.border-next mask v b K z) (In.led-last mask v b K z)
        (subst (λ (H : ℕ). Settled E M k H i j f) z settled) (old-same e))

    -- ---- behind `take_new`
    module _ {t₄ : List ℕ} {count : ℕ} (g : Taken n u (j - i) count t₃ t₄) where
      adds : (x : ℕ) → x < j - i → f₃ (u + x) ≡ u + x → kept_to E M k (suc (i + x)) ≡ kept_to E M k (i + x) ++ (row_at E M (i + x) ∷ [])
      adds x h e =
          let c : u + x ≡ length (kept_to E M k i) + (i + x - i) = omega (arith, b.gone.many) in
          new-adds sound light k L i j f settled b.to b.border.within needs (i + x) (omega arith) (omega arith)
          (subst (λ (y : ℕ). f y ≡ y) c (f-new x h ∙ e))

      skips : (x : ℕ) → x < j - i → (f₃ (u + x) ≡ u + x → ⊥) → kept_to E M k (suc (i + x)) ≡ kept_to E M k (i + x)
      skips x h ne =
          let c : u + x ≡ length (kept_to E M k i) + (i + x - i) = omega (arith, b.gone.many) in
          new-skips sound light k L i j f settled b.to b.border.within needs (i + x) (omega arith) (omega arith)
          (λ e. ne (sym (f-new x h) ∙ subst (λ (y : ℕ). f y ≡ y) (sym c) e))

      -- The kept rows so far, and the places behind them.
      kept-so : (x : ℕ) → x ≤ j - i → (seats f₃ u x ≡ length (kept_to E M k (i + x))) × ((c : ℕ) → c < seats f₃ u x → list_at n t₄ c ≡ get_or (kept_to E M k (i + x)) c 0)
      kept-so zero h =
          let e : i ≡ i + 0 = omega arith in
          subst (λ (y : ℕ). (seats f₃ u 0 ≡ length (kept_to E M k y)) × ((c : ℕ) → c < seats f₃ u 0 → list_at n t₄ c ≡ get_or (kept_to E M k y) c 0)) e (
            seats-none f₃ u ∙ b.gone.many,
            λ c l.
                let cu : c < u = omega (arith, seats-none f₃ u) in
                g.olds c cu ∙ row₃ c (omega arith) ∙ listed_old E M k i j c (omega (arith, b.gone.many)),
          )
      kept-so (suc x) h = more (kept-so x (omega arith)) (eq_or_ne (f₃ (u + x)) (u + x))
        where
          next : i + suc x ≡ suc (i + x)
          next = omega arith

          one : seats f₃ u (suc x) ≡ seats f₃ u (x + 1)
          one = ap (seats f₃ u) (sym (add-one x))

          more : (seats f₃ u x ≡ length (kept_to E M k (i + x))) × ((c : ℕ) → c < seats f₃ u x → list_at n t₄ c ≡ get_or (kept_to E M k (i + x)) c 0)
              → (f₃ (u + x) ≡ u + x) ⊎ (f₃ (u + x) ≡ u + x → ⊥)
              → (seats f₃ u (suc x) ≡ length (kept_to E M k (i + suc x))) × ((c : ℕ) → c < seats f₃ u (suc x) → list_at n t₄ c ≡ get_or (kept_to E M k (i + suc x)) c 0)
          more ih (inl e) =
              let l : kept_to E M k (i + suc x) ≡ kept_to E M k (i + x) ++ (row_at E M (i + x) ∷ []) = ap (kept_to E M k) next ∙ adds x h e in
              let z : seats f₃ u (suc x) ≡ seats f₃ u x + 1 = one ∙ seats_adds f₃ u x e in (
                omega (arith, ap length l, length-append (kept_to E M k (i + x)) (row_at E M (i + x) ∷ []), ih.0),
                λ c hc.
                    elim (dec_lt c (seats f₃ u x)) [
                      | yes p ↦ ih.1 c p ∙ sym (ap (λ (y : List ℕ). get_or y c 0) l ∙ get_or-append (kept_to E M k (i + x)) (row_at E M (i + x) ∷ []) 0 c (omega (arith, ih.0)))
                      | no p ↦
                          (let ce : c ≡ seats f₃ u x = omega arith in
                          let cl : c ≡ length (kept_to E M k (i + x)) = ce ∙ ih.0 in
                          ap (list_at n t₄) ce ∙ g.listed x h e ∙ new₃ x h
                          ∙ sym (ap (λ (y : List ℕ). get_or y c 0) l ∙ ap (λ (y : ℕ). get_or (kept_to E M k (i + x) ++ (row_at E M (i + x) ∷ [])) y 0) cl
                          ∙ get_or-append_seam (kept_to E M k (i + x)) (row_at E M (i + x)) [] 0))
                    ],
              )
          more ih (inr ne) =
              let l : kept_to E M k (i + suc x) ≡ kept_to E M k (i + x) = ap (kept_to E M k) next ∙ skips x h ne in
              let z : seats f₃ u (suc x) ≡ seats f₃ u x = one ∙ seats-stays f₃ u x ne in
              (z ∙ ih.0 ∙ ap length (sym l), λ c hc. ih.1 c (omega arith) ∙ ap (λ (y : List ℕ). get_or y c 0) (sym l))

      kept-all : (count ≡ length (kept_to E M k j)) × ((c : ℕ) → c < count → list_at n t₄ c ≡ get_or (kept_to E M k j) c 0)
      kept-all =
          let e : i + (j - i) ≡ j = omega (arith, bounds.1) in
          let x = kept-so (j - i) (omega arith) in (
            g.many ∙ x.0 ∙ ap (λ (y : ℕ). length (kept_to E M k y)) e,
            λ c h.
                x.1 c (omega (arith, g.many)) ∙ ap (λ (y : ℕ). get_or (kept_to E M k y) c 0) e,
          )

      seat-below : (x : ℕ) → x < j - i → seat_of f₃ u (u + x) < count
      seat-below x h = omega (arith, seat_in f₃ u (u + (j - i)) x follows₃ (omega arith), seats_le f₃ u (x + 1) (j - i) (omega arith), g.many)

      -- The row at a new row's seat is that of its leader.
      seat-row : (x : ℕ) → x < j - i → get_or (kept_to E M k j) (seat_of f₃ u (u + x)) 0 ≡ get_or (listed E M k i j) (f₃ (u + x)) 0
      seat-row x h = elim (dec_lt (f₃ (u + x)) u) [
        | yes l ↦
            (let c : f₃ (u + x) < length (kept_to E M k i) = omega (arith, b.gone.many) in
            ap (λ (y : ℕ). get_or (kept_to E M k j) y 0) (seat_old f₃ u (u + x) l) ∙ (kept_stays E M k i j (f₃ (u + x)) b.to c).1 ∙ sym (listed_old E M k i j (f₃ (u + x)) c))
        | no l ↦
            (let y = leader_new f₃ u (u + (j - i)) x follows₃ (omega arith) (omega arith) in
            let e : f₃ (u + x) - u ≡ y.0 = omega (arith, y.2) in
            let o : seat_of f₃ u (u + x) ≡ seats f₃ u y.0 = seat_new f₃ u (u + x) (omega arith) ∙ ap (seats f₃ u) e in
            let hy : y.0 < j - i = omega (arith, y.1) in
            sym (kept-all.1 (seat_of f₃ u (u + x)) (seat-below x h)) ∙ ap (list_at n t₄) o ∙ g.listed y.0 hy y.3
            ∙ row₃ (u + y.0) (omega arith) ∙ ap (λ (z : ℕ). get_or (listed E M k i j) z 0) (sym y.2))
      ]

      -- A new row, by its place in the order.
      module _ (y : ℕ) (h : i ≤ y) (l : y < j) where
        at_new : list_at n t₃ (u + (y - i)) ≡ row_at E M y
        at_new = let e : i + (y - i) ≡ y = omega arith in new₃ (y - i) (omega arith) ∙ ap (row_at E M) e

        new-label : label_at n t₄ (row_at E M y) ≡ seat_of f₃ u (u + (y - i))
        new-label = ap (label_at n t₄) (sym at_new) ∙ g.labels (y - i) (omega arith)

        new-value : value_at n t₄ (row_at E M y) ≡ seat_of f₃ u (u + (y - i))
        new-value = ap (value_at n t₄) (sym at_new) ∙ g.values (y - i) (omega arith)

        new-folds : get_or (kept_to E M k j) (seat_of f₃ u (u + (y - i))) 0 ≡ fold E M (offset k) (row_at E M y)
        new-folds = seat-row (y - i) (omega arith) ∙ ap (λ (c : ℕ). get_or (listed E M k i j) c 0) (sym (f-new (y - i) (omega arith))) ∙ ap (λ (c : ℕ). get_or (listed E M k i j) (f (c + (y - i))) 0) b.gone.many
            ∙ sym (new-fold sound light k L i j f settled b.to b.border.within needs y h l)

      pub old_apart : (y : ℕ) → y < i → (x : ℕ) → x < j - i → list_at n t₃ (u + x) ≡ row_at E M y → ⊥
      old_apart y h x l e = In.old_not_new mask v b y h x l (In.row_in mask v b x l ∙ sym (new₃ x l) ∙ e)

      labelled : Labelled E M k j (label_at n t₄)
      labelled = labelled_next sound light k i j (label_at n s) (label_at n t₄) b.to b.gone.labelled
          (λ y h.
          let q = at_row E M y (omega (arith, bounds.1, bounds.3)) in
          g.other_labels (row_at E M y) q (old_apart y h) ∙ same₃ (n + row_at E M y) (inl (omega arith)) ∙ same_front (n + row_at E M y) (omega arith) ∙ a.front (n + row_at E M y) (omega arith))
          (λ y h l. omega (arith, new-label y h l, seat-below (y - i) (omega arith), kept-all.0))
          (λ y h l. ap (λ (c : ℕ). get_or (kept_to E M k j) c 0) (new-label y h l) ∙ new-folds y h l)

      led : Led E M k L j (value_at n t₄)
      led = led-next sound light k L i j f settled b.to b.border.within needs (L - 1) (value_at n s) (value_at n t₄) b.led (omega arith)
          (λ y h. g.other_values (row_at E M y) (at_row E M y (omega (arith, bounds.1, bounds.3))) (old_apart y h) ∙ old_value y h)
          (λ y h l. omega (arith, new-value y h l, seat-below (y - i) (omega arith), kept-all.0))
          (λ y h l. ap (λ (c : ℕ). get_or (kept_to E M k j) c 0) (new-value y h l) ∙ new-folds y h l)

      low₃ : (q : ℕ) → q < n → ((x : ℕ) → x < j - i → list_at n t₃ (u + x) ≡ q → ⊥) → value_at n t₃ q ≤ u - 1
      low₃ q h ne = pick w
        where
          o : value_at n t₂ q ≡ value_at n s q
          o = val₂ q h ∙ a.others q h (λ x l e. ne x l (new₃ x l ∙ sym (In.row_in mask v b x l) ∙ e))

          pick : Renewed n u L lost t₂ t₃ r → value_at n t₃ q ≤ u - 1
          pick (still why te re) = omega (arith, ap (λ (z : List ℕ). value_at n z q) te, o, b.gone.low q h)
          pick (passed some p re) =
              let lo = b.gone.low q h in
              ⊎_elim (λ e. omega (arith, e, o)) (λ e. omega (arith, e, ap (nxt_at n t₂) o, d.follows.down (value_at n s q) (omega arith))) (p.any q h)

      low : (q : ℕ) → q < n → value_at n t₄ q ≤ count - 1
      low q h = ⊎_elim
          (λ x. omega (arith, ap (value_at n t₄) x.2, g.values x.0 x.1, seat-below x.0 x.1))
          (λ ne. omega (arith, g.other_values q h ne, low₃ q h ne, g.many, seats_low f₃ u (j - i)))
          (In.found (λ x. list_at n t₃ (u + x)) q (j - i))

      leads-same : (x : ℕ) → x < n → get_or t₄ x 0 ≡ get_or s x 0
      leads-same x h = g.leads x h ∙ same₃ x (inl (omega arith)) ∙ same_front x (omega arith) ∙ a.front x (omega arith)

      pub level-after : After E M k L j s t₄ count r
      level-after =
          record {
            apart =
                record {
                  size = g.size ∙ size₃;
                  leads = leads-same;
                  behind = λ x h.
                      g.behind x (omega arith) ∙ same₃ x (inr (inr (omega arith))) ∙ d.behind x h
                      ∙ a.behind x (omega (arith, bounds.0, bounds.1, bounds.2));
                };
            noted = λ pos x h l. g.behind x (omega arith) ∙ same₃ x (inr (inr (omega arith))) ∙ d.spare pos x h l ∙ a.behind x (omega (arith, bounds.0, bounds.1, bounds.2));
            swept =
                record {
                  gone =
                      record {
                        laid =
                            record {
                              leads = λ q h. leads-same q h ∙ b.gone.laid.leads q h;
                              order_from = λ x h l.
                                  let fo = In.order_short E M in
                                  let lo = bounds.0 in
                                  let hi = bounds.1 in
                                  g.later (3 * n + x) (omega arith) (omega arith) ∙ same₃ (3 * n + x) (inr (inl (omega arith, omega arith))) ∙ same_front (3 * n + x) (omega arith)
                                  ∙ a.behind (3 * n + x) (omega arith) ∙ b.gone.laid.order_from x (omega arith) l;
                            };
                        many = kept-all.0;
                        listed = kept-all.1;
                        low = low;
                        labelled = labelled;
                      };
                  border = b.border;
                  led = led;
                };
            rests = resting;
          }
