-- One level: what the table of leaders asks, and the classes that come of it, or of splits.
use mathlib.Core.Path.{◌≡◌, refl, sym, ap, subst, ◌∙◌}
use mathlib.Core.List.{List}
use mathlib.Core.Logic.{⊎_elim}
use Prim.Native.Nat.{ℕ, suc, ◌+◌, ◌-◌, ◌*◌, ◌≤◌, ◌<◌}
use native.Mathlib.Omega.{arith}
use native.Mathlib.Decide.{dec_lt}
use borrow.Author.Tests.{ne_eqb}
use lib.Dec.{eqb}
use lib.ListN.{length, get_or}
use Rattle.automata.specs.Runs.{Events, Machine, Near}
use Rattle.automata.proofs.Runs.{near_refl, near_sym, near_up, near_cast}
use Rattle.tables.specs.Table.{Table, weight_by, machine, events_of}
use Rattle.tables.specs.Reduction.{order}
use Rattle.tables.proofs.Counted.{mask_light}
use Rattle.scratch.proofs.Numbers.{eq_or_ne}
use Rattle.levels.specs.Levels.{row_at}
use Rattle.levels.specs.Sweep.{Placed, kept_to, listed, Led, Settled}
use Rattle.levels.proofs.Order.{at_row, at-reached}
use Rattle.levels.proofs.Borders.{placed_closed}
use Rattle.levels.proofs.Kept.{kept_placed, listed-length, listed_placed}
use Rattle.levels.proofs.Sweep.{led_sound}
use Rattle.levels.proofs.Signed.{settled-signed}
use Rattle.splitting.specs.Places.{nxt_at, jump_at}
use Rattle.classes.specs.Steps as Classes
use Rattle.classes.proofs.Reading.{front_read}
use Rattle.leaders.specs.Leaders.{Known, Begun, Kept, Joins}
use Rattle.leaders.proofs.Regions.{kept_front}
use Rattle.leaders.proofs.After.{known_still}
use Rattle.quick_folding.specs.Parts.{value_at, list_at, Appended}
use Rattle.quick_folding.specs.State.{Fits, Stays, Tabled, Before}
use Rattle.quick_folding.proofs.Moves.{same_behind}
use Rattle.quick_folding.proofs.Grouping.{Grouping}
use Rattle.quick_folding.proofs.Entering as In

module _ {T : Table} (mask : ℕ) {k L i j u : ℕ} {s : List ℕ} (v : Fits T k s) (b : Before (events_of (weight_by mask) T) (machine T) k L i j u s)
    {t₁ : List ℕ} (a : Appended T.rows u i (j - i) s t₁) where
  abbrev n : ℕ
  n = T.rows

  abbrev E : Events
  E = events_of (weight_by mask) T

  abbrev M : Machine
  M = machine T

  abbrev to : ℕ
  to = u + (j - i)

  fit : to ≤ n
  fit = let x = In.bounds mask v b in omega (arith, x.0, x.1, x.2)

  -- ---- by splits
  pub by_splits : {t₂ : List ℕ} {lost : ℕ} → 1024 < lost → Classes.Settled n (In.seen mask v b a (eqb L 0)) t₁ t₂ → Grouping mask T k L i j u s t₁ t₂ lost (nxt_at n t₂)
  by_splits {t₂} many d =
      record {
        size = d.frame.size;
        front = λ x h. sym (front_read n t₂ x h) ∙ ap (λ (l : List ℕ). get_or l x 0) d.frame.before ∙ front_read n t₁ x h;
        spare = λ pos. d.frame.spare (ne_eqb L 0 (λ z. omega arith));
        behind = λ x h. same_behind (12 * n) t₂ t₁ d.frame.behind x h;
        settled = In.settled mask v b a d;
        new_led = λ x h. refl;
        old_led = λ y h. refl;
        follows = record { down = d.canon.down; leads = λ c l h. d.canon.leads c h };
        calm = λ z. absurd (omega arith);
        many = λ l. absurd (omega arith);
        losers = λ l. absurd (omega arith);
        leads = λ l. absurd (omega arith);
        listed = λ l. absurd (omega arith);
      }

  -- ---- by the table of leaders
  module _ (K : ℕ) (e : L ≡ suc K) where
    led : Led E M k K i (value_at n s)
    led = In.led-last mask v b K e

    -- A kept row is an old one, and so are its targets.
    pub kept_is : (c : ℕ) → c < u → (y : ℕ) × (y < i) × (list_at n s c ≡ row_at E M y)
    kept_is c h = let p = kept_placed E M k i c (omega (arith, b.gone.many)) in (p.0, p.1, b.gone.listed c h ∙ sym p.3)

    pub target-old : (c x : ℕ) → c < u → x < T.events → Placed E M i (get_or T.cells (list_at n s c * T.events + x) 0)
    target-old c x h l =
        let p = kept_is c h in
        (placed_closed (In.sound v mask) (mask_light mask T) k K i (b.last K e)).leads (list_at n s c) x (p.0, p.1, sym p.2) l

    -- The values of old rows are as they were.
    value_same : (q : ℕ) → Placed E M i q → value_at n t₁ q ≡ value_at n s q
    value_same q p = subst (λ (x : ℕ). value_at n t₁ x ≡ value_at n s x) p.2 (In.value-old mask v b a p.0 p.1)

    -- What is known of the table still is.
    known_on : {known last : ℕ} → Tabled mask T u known last s → Known mask n T.events known last T.cells t₁
    known_on t =
        let f = t.few in
        let q = fit in
        known_still t.past
        (λ c h. a.olds c (omega arith))
        (λ c h. let p = kept_is c (omega arith) in value_same (list_at n s c) (p.0, p.1, sym p.2))
        (λ c x h l. value_same (get_or T.cells (list_at n s c * T.events + x) 0) (target-old c x (omega arith) l))
        (λ c x h l. a.behind (5 * n + get_or T.cells (list_at n s c * T.events + x) 0) (omega arith))
        (λ c h. a.behind (4 * n + c) (omega arith))
        (λ c h. a.behind (6 * n + c) (omega arith))
        (λ x h. a.behind (9 * n + x) (omega arith))

    -- The leader of a place at the level before.
    abbrev pub own : ℕ → ℕ
    own c = value_at n t₁ (list_at n t₁ c)

    pub own_old : (c : ℕ) → c < u → (y : ℕ) × (y < i) × (list_at n t₁ c ≡ row_at E M y) × (own c ≡ value_at n s (row_at E M y))
    own_old c h =
        let p = kept_is c h in
        let r : list_at n t₁ c ≡ row_at E M p.0 = a.olds c h ∙ p.2 in
        (p.0, p.1, r, ap (value_at n t₁) r ∙ In.value-old mask v b a p.0 p.1)

    own_new : (c : ℕ) → (c < u → ⊥) → c < to → own c ≡ c
    own_new c ne h =
        let x : ℕ = c - u in
        let z : c ≡ u + x = omega arith in
        ap (λ (y : ℕ). value_at n t₁ (list_at n t₁ y)) z ∙ ap (value_at n t₁) (a.listed x (omega arith)) ∙ a.valued x (omega arith) ∙ sym z

    pub own-low : (c : ℕ) → c < to → own c ≤ c
    own-low c h = elim (dec_lt c u) [
      | yes l ↦
          (let p = own_old c l in
          elim (dec_lt c (value_at n s (row_at E M p.0))) [
            | yes g ↦ absurd (led.least p.0 c p.1 g (near_cast refl (sym p.2 ∙ a.olds c l ∙ b.gone.listed c l) near_refl))
            | no g ↦ omega (arith, p.3)
          ])
      | no l ↦ omega (arith, own_new c l h)
    ]

    -- The leader of an old row, as a place.
    pub led-row : (y : ℕ) → y < i → (value_at n s (row_at E M y) < u) × (own (value_at n s (row_at E M y)) ≡ value_at n s (row_at E M y))
    led-row y h =
        let c : ℕ = value_at n s (row_at E M y) in
        let l : c < length (kept_to E M k i) = led.inside y h in
        let lu : c < u = omega (arith, b.gone.many) in
        let p = own_old c lu in
        let r : row_at E M p.0 ≡ get_or (kept_to E M k i) c 0 = sym p.2 ∙ a.olds c lu ∙ b.gone.listed c lu in
        (lu, p.3 ∙ led_sound led (row_at E M p.0) (row_at E M y) (p.0, p.1, refl) (y, h, refl) (near_sym (near_cast refl (sym r) (led.close y h))))

    pub own-own : (c : ℕ) → c < to → own (own c) ≡ own c
    own-own c h = elim (dec_lt c u) [
      | yes l ↦ (let p = own_old c l in ap own p.3 ∙ (led-row p.0 p.1).1 ∙ sym p.3)
      | no l ↦ ap own (own_new c l h)
    ]

    rows_in : (q : ℕ) → Placed E M j q → q < n
    rows_in q p = subst (λ (x : ℕ). x < n) p.2 (at_row E M p.0 (omega (arith, p.1, (In.bounds mask v b).3)))

    long : length (listed E M k i j) ≡ to
    long = listed-length E M k i j b.to b.border.within ∙ ap (λ (x : ℕ). x + (j - i)) (sym b.gone.many)

    in-hand : (c : ℕ) → c < to → Placed E M j (list_at n t₁ c)
    in-hand c h = subst (Placed E M j) (sym (In.row_listed mask v b a c h)) (listed_placed E M k i j c b.to b.border.within (omega (arith, long)))

    -- What the joining asks.
    pub begun : {known last : ℕ} → Tabled mask T u known last s → Begun mask n T.events to known last T.cells t₁
    begun t =
        record {
          hand =
              record {
                rows = λ c h. rows_in (list_at n t₁ c) (in-hand c h);
                targets = λ c x h l.
                    rows_in (get_or T.cells (list_at n t₁ c * T.events + x) 0)
                    ((placed_closed (In.sound v mask) (mask_light mask T) k L j b.border).leads (list_at n t₁ c) x (in-hand c h) l);
              };
          low = own-low;
          past = known_on t;
        }

    -- The leaders of the level before, among what is listed now.
    led₁ : Led E M k K i (value_at n t₁)
    led₁ =
        record {
          inside = λ y h. omega (arith, same y h, led.inside y h);
          close = λ y h. near_cast refl (ap (λ (c : ℕ). get_or (kept_to E M k i) c 0) (sym (same y h))) (led.close y h);
          least = λ y x h l near. led.least y x h (omega (arith, same y h)) near;
        }
      where
        same : (y : ℕ) → y < i → value_at n t₁ (row_at E M y) ≡ value_at n s (row_at E M y)
        same y h = In.value-old mask v b a y h

    own-near : (c : ℕ) → c < to → Near E M M (suc K) (list_at n t₁ c) (list_at n t₁ (own c))
    own-near c h = elim (dec_lt c u) [
      | yes l ↦
          (let p = own_old c l in
          let q = led-row p.0 p.1 in
          near_up (omega arith) (near_cast (sym p.2) (sym (b.gone.listed (value_at n s (row_at E M p.0)) q.0) ∙ sym (a.olds (value_at n s (row_at E M p.0)) q.0) ∙ ap (list_at n t₁) (sym p.3))
          (led.close p.0 p.1)))
      | no l ↦ near_cast refl (ap (list_at n t₁) (sym (own_new c l h))) near_refl
    ]

    module _ (stay : Stays E M) {t₂ : List ℕ} {lost : ℕ} (f : Kept n t₁ t₂) (d : Joins mask n T.events u to T.cells t₁ t₂ lost) where
      at : (c : ℕ) → c < length (listed E M k i j) → get_or (listed E M k i j) c 0 ≡ list_at n t₁ c
      at c h = sym (In.row_listed mask v b a c (omega (arith, long)))

      joined-settled : Settled E M k (suc K) i j (λ c. nxt_at n t₂ (own c))
      joined-settled = settled-signed (In.sound v mask) (mask_light mask T) k K i j b.to (b.last K e) (In.border-next mask v b K e)
          (λ q x p h w. subst (λ (y : ℕ). M.target y x ≡ y) p.2 (stay.stays (row_at E M p.0) x (at_row E M p.0 (in_order p.0 p.1)) (at-reached E M p.0 (in_order p.0 p.1)) h w))
          led₁ own (nxt_at n t₂)
          (λ c h. own-low c (omega (arith, long)))
          (λ c h. own-own c (omega (arith, long)))
          (λ c h. near_cast (sym (at c h)) (sym (at (own c) (omega (arith, own-low c (omega (arith, long)))))) (own-near c (omega (arith, long))))
          (λ c h. d.down c (omega (arith, long)))
          (λ c h o. d.leads c (omega (arith, long)) o)
          (λ c h o. (let r = d.down c (omega (arith, long)) in
          rw (at c h, at (nxt_at n t₂ c) (omega arith)) (d.signed c (omega (arith, long)) o)))
          (λ c x hc hx lc lx same. d.table.lone c x (omega (arith, long)) (omega (arith, long)) lc lx (omega (arith, long)) (omega (arith, long)) (rw (sym (at c hc), sym (at x hx)) same))
        where
          in_order : (y : ℕ) → y < j → y < length (order E M)
          in_order y h = omega (arith, (In.bounds mask v b).3)

      -- A place's leader of the level before is read as it was.
      front-own : (c : ℕ) → c < u → value_at n t₂ (list_at n t₂ c) ≡ own c
      front-own c h =
          let q = fit in
          let p = own_old c h in
          ap (value_at n t₂) (kept_front f (3 * n + c) (omega arith)) ∙ kept_front f (2 * n + list_at n t₁ c) (omega (arith, p.2, at_row E M p.0 (omega (arith, p.1, (In.bounds mask v b).1, (In.bounds mask v b).3))))

      pub by-leaders : Grouping mask T k L i j u s t₁ t₂ lost (λ c. nxt_at n t₂ (own c))
      by-leaders =
          record {
            size = f.frame.size;
            front = kept_front f;
            spare = λ pos. f.frame.spare;
            behind = λ x h. same_behind (12 * n) t₂ t₁ f.frame.behind x h;
            settled = subst (λ (H : ℕ). Settled E M k H i j (λ c. nxt_at n t₂ (own c))) (sym e) joined-settled;
            new_led = λ x h. ap (nxt_at n t₂) (own_new (u + x) (λ l. omega arith) (omega arith));
            old_led = λ y h. ap (nxt_at n t₂) (led-row y h).1;
            follows = record { down = d.down; leads = λ c l h. d.leads c h (own_new c (λ g. omega arith) h) };
            calm = λ z y h.
                let r = led-row y h in
                ⊎_elim (λ g. g) (λ ne. (let x = d.listed (value_at n s (row_at E M y)) r.0 r.1 ne in absurd (omega (arith, x.1)))) (eq_or_ne (nxt_at n t₂ (value_at n s (row_at E M y))) (value_at n s (row_at E M y)));
            many = λ l. omega (arith, d.few, fit);
            losers = λ l x h.
                let o = d.losers x h in
                record { place = o.0; own = front-own (jump_at n t₂ x) o.0 ∙ o.1 };
            leads = λ l x h. let o = d.losers x h in d.leads (jump_at n t₂ x) (omega (arith, o.0)) o.1;
            listed = λ l c o ne. d.listed c o.place (sym (front-own c o.place) ∙ o.own) ne;
          }
