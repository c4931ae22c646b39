-- Losses of lead noted level by level, and the least distances that they are.
use mathlib.Core.Path.{◌≡◌, refl, sym, ap, subst, ◌∙◌}
use mathlib.Core.Bool.{Bool, true}
use mathlib.Core.List.{List}
use mathlib.Core.Logic.{⊎_elim}
use Prim.Native.Nat.{ℕ, ◌+◌, ◌-◌, ◌*◌, ◌≤◌, ◌<◌}
use native.Mathlib.Omega.{arith}
use native.Mathlib.Decide.{dec_le}
use borrow.Author.Tests.{le-leb, lt-leb, eq-eqb, ne_eqb}
use lib.ListN.{length, get_or}
use Rattle.automata.specs.Runs.{Events, Machine, Len, len, endless}
use Rattle.automata.proofs.Runs.{near_cast}
use Rattle.tables.specs.Table.{Table, weight_by, machine, events_of, offset}
use Rattle.tables.specs.Reduction.{order, fold}
use Rattle.tables.proofs.Counted.{mask_light}
use Rattle.tables.proofs.Lengths.{Below}
use Rattle.scratch.specs.Scratch.{lead_in, len_cell, cleared}
use Rattle.scratch.proofs.Cells.{cleared-length, cleared-before, cleared-behind, cleared_inside}
use Rattle.scratch.proofs.Numbers.{eq_or_ne}
use Rattle.levels.specs.Levels.{row_at, apart}
use Rattle.levels.specs.Sweep.{Placed, Rests, kept_to, Led, Border}
use Rattle.levels.specs.Cells.{far_cell}
use Rattle.levels.proofs.Cells.{far_some}
use Rattle.levels.proofs.Borders.{placed_closed, border_jump}
use Rattle.levels.proofs.Kept.{kept_few, kept_placed}
use Rattle.levels.proofs.Order.{at_row, at-reached, place_of}
use Rattle.levels.proofs.Parting.{no_need, folded-apart, kept_apart, rest-apart, lost-apart, lead-apart}
use Rattle.levels.proofs.Sheet.{Within, apart_below}
use Rattle.levels.proofs.Sweep.{led-rest}
use Rattle.quick_folding.specs.Parts.{label_at, value_at, list_at, Wrote, Valued, Labels}
use Rattle.leaders.proofs.After.{known_still}
use Rattle.quick_folding.specs.State.{Fits, Tabled, Apart, Swept, Before, After, Going}
use Rattle.quick_folding.specs.Parting.{noted_at, loss_at, apart_at, up_to, Noting, Parted, Measured}
use Rattle.quick_folding.proofs.Entering.{order_short, shape, sound, room}
use Rattle.quick_folding.proofs.Ending.{apart_then}
use Rattle.quick_folding.proofs.Whole.{cell-reached}

-- ---- what is noted of a place
module _ (n level : ℕ) (s : List ℕ) (c : ℕ) where
  pub loss-before : (noted_at n s c ≡ 0 → ⊥) → noted_at n s c ≡ loss_at n level s c
  unfolding loss_at
  loss-before ne = sym (rw (ne_eqb (noted_at n s c) 0 ne) refl)

  module _ (e : noted_at n s c ≡ 0) where
    pub loss-none : value_at n s (list_at n s c) ≡ c → 0 ≡ loss_at n level s c
    unfolding loss_at
    loss-none v = sym (rw (eq-eqb (noted_at n s c) 0 e, eq-eqb (value_at n s (list_at n s c)) c v) refl)

    pub loss-now : (value_at n s (list_at n s c) ≡ c → ⊥) → level ≡ loss_at n level s c
    unfolding loss_at
    loss-now v = sym (rw (eq-eqb (noted_at n s c) 0 e, ne_eqb (value_at n s (list_at n s c)) c v) refl)

-- Notes of earlier places change nothing.
module _ {n u level c : ℕ} {f : ℕ → ℕ} {s t : List ℕ} (p : Noting n u level s) (d : Wrote (8 * n) c f s t) where
  pub loss-still : c < u → {r : ℕ} → r ≡ loss_at n level t c → r ≡ loss_at n level s c
  unfolding loss_at
  loss-still h e =
      let row : list_at n t c ≡ list_at n s c = d.below (3 * n + c) (omega (arith, p.places)) in
      e ∙ rw (d.above (8 * n + c) (omega arith), row, d.below (2 * n + list_at n s c) (omega (arith, p.rows c h)))

-- ---- the least distance of a row that has a lead
module _ (n : ℕ) (s : List ℕ) (q : ℕ) (r : lead_in s q ≡ 0 → ⊥) where
  pub apart-folded : (list_at n s (label_at n s q) ≡ q → ⊥) → 0 ≡ apart_at n s q
  unfolding apart_at
  apart-folded ne = sym (rw (ne_eqb (lead_in s q) 0 r, ne_eqb (list_at n s (label_at n s q)) q ne) refl)

  pub apart-kept : list_at n s (label_at n s q) ≡ q → apart_at n s q ≡ far_cell (noted_at n s (label_at n s q))
  unfolding apart_at
  apart-kept e = rw (ne_eqb (lead_in s q) 0 r, eq-eqb (list_at n s (label_at n s q)) q e)

pub apart-still : {n count : ℕ} {f : ℕ → ℕ} {s t : List ℕ} → Labels n s → Valued n count f s t → (q : ℕ) → q < n → count ≤ n → apart_at n t q ≡ apart_at n s q
unfolding apart_at
apart-still {n} {count} {f} {s} {t} l d q h fits = rw (
  d.below q (omega arith),
  d.below (n + q) (omega arith),
  d.above (3 * n + label_at n s q) (omega arith),
  d.above (8 * n + label_at n s q) (omega arith),
)

-- ---- lengths up to a level
up_in : (L a : ℕ) → a ≤ L → up_to L (len a) ≡ a
up_in L a h = rw (le-leb a L h)

up_out : (L a : ℕ) → L < a → up_to L (len a) ≡ 0
up_out L a h = rw (lt-leb a L h)

up_none : (x : Len) → up_to 0 x ≡ 0
up_none (len a) = elim (dec_le a 0) [ yes h ↦ omega (arith, up_in 0 a h) | no h ↦ up_out 0 a (omega arith) ]
up_none endless = refl

up_far : (L : ℕ) (x : Len) → (Within x L → ⊥) → 0 ≡ up_to L x
up_far L (len a) ne = elim (dec_le a L) [ yes h ↦ absurd (ne h) | no h ↦ sym (up_out L a (omega arith)) ]
up_far L endless ne = refl

up_same : (L K : ℕ) (x : Len) → L ≤ K → (Within x K → Within x L) → up_to L x ≡ up_to K x
up_same L K (len a) h w = elim (dec_le a K) [
  | yes g ↦ up_in L a (w g) ∙ sym (up_in K a g)
  | no g ↦ up_out L a (omega arith) ∙ sym (up_out K a (omega arith))
]
up_same L K endless h w = refl

up_before : (L : ℕ) (x : Len) → (up_to L x ≡ 0 → ⊥) → up_to L x ≡ up_to (L + 1) x
up_before L (len a) ne = elim (dec_le a L) [ yes h ↦ up_in L a h ∙ sym (up_in (L + 1) a (omega arith)) | no h ↦ absurd (ne (up_out L a (omega arith))) ]
up_before L endless ne = absurd (ne refl)

up_now : (L : ℕ) (x : Len) → up_to L x ≡ 0 → (Within x 0 → ⊥) → Within x (L + 1) → L + 1 ≡ up_to (L + 1) x
up_now L (len a) e ne w = elim (dec_le a L) [
  | yes h ↦ absurd (ne (omega (arith, up_in L a h)))
  | no h ↦ omega (arith, up_in (L + 1) a w)
]
up_now L endless e ne w = absurd w

up_cell : (n : ℕ) (x : Len) → Below n x → (Within x 0 → ⊥) → far_cell (up_to n x) ≡ len_cell x
up_cell n (len a) b ne = ap far_cell (up_in n a (omega arith)) ∙ sym (far_some a (λ e. ne (omega arith)))
up_cell n endless b ne = refl

zero-cell : (x : Len) → Within x 0 → 0 ≡ len_cell x
zero-cell (len a) w = omega arith
zero-cell endless w = absurd w

-- ---- the state

-- The sweep looks at the first four regions.
swept_same : {E : Events} {M : Machine} {k L i u : ℕ} {s t : List ℕ} → ((x : ℕ) → x < 4 * M.rows → get_or t x 0 ≡ get_or s x 0) → Swept E M k L i u s → Swept E M k L i u t
swept_same {E} {M} {k} {L} {i} {u} {s} {t} same w =
    let g = w.gone in
    let short = order_short E M in
    let fit = w.border.within in
    let n : ℕ = M.rows in
    record {
      gone = record {
        laid = record {
          leads = λ q h. same q (omega arith) ∙ g.laid.leads q h;
          order_from = λ x h l. same (3 * n + x) (omega arith) ∙ g.laid.order_from x h l;
        };
        many = g.many;
        listed = λ c h. same (3 * n + c) (omega (arith, g.many, kept_few E M k i)) ∙ g.listed c h;
        low = λ q h. omega (arith, same (2 * n + q) (omega arith), g.low q h);
        labelled = record {
          inside = λ j h. omega (arith, label j h, g.labelled.inside j h);
          folds = λ j h. ap (λ (c : ℕ). get_or (kept_to E M k i) c 0) (label j h) ∙ g.labelled.folds j h;
        };
      };
      border = w.border;
      led = record {
        inside = λ j h. omega (arith, value j h, w.led.inside j h);
        close = λ j h. near_cast refl (ap (λ (c : ℕ). get_or (kept_to E M k i) c 0) (sym (value j h))) (w.led.close j h);
        least = λ j x h l near. w.led.least j x h (omega (arith, value j h)) near;
      };
    }
  where
    label : (j : ℕ) → j < i → label_at M.rows t (row_at E M j) ≡ label_at M.rows s (row_at E M j)
    label j h = same (M.rows + row_at E M j) (omega (arith, at_row E M j (omega (arith, w.border.within))))

    value : (j : ℕ) → j < i → value_at M.rows t (row_at E M j) ≡ value_at M.rows s (row_at E M j)
    value j h = same (2 * M.rows + row_at E M j) (omega (arith, at_row E M j (omega (arith, w.border.within))))

-- By the numbers that say where the sweep stands.
pub parted_at : {E : Events} {M : Machine} {L L' u u' : ℕ} {s : List ℕ} → L' ≡ L → u' ≡ u → Parted E M L u s → Parted E M L' u' s
parted_at {E} {M} {L} {L'} {u} {u'} {s} le ue p = subst (λ (x : ℕ). Parted E M x u' s) (sym le) (subst (λ (x : ℕ). Parted E M L x s) (sym ue) p)

module _ {T : Table} (mask : ℕ) {s : List ℕ} (f : Fits T 0 s) where
  abbrev E : Events
  E = events_of (weight_by mask) T

  abbrev M : Machine
  M = machine T

  abbrev n : ℕ
  n = T.rows

  abbrev all : ℕ
  all = length (order E M)

  few_kept : {L u : ℕ} {t : List ℕ} → Swept E M 0 L all u t → u ≤ n
  few_kept w = omega (arith, w.gone.many, kept_few E M 0 all, order_short E M)

  -- All rows come in at level 0.
  pub taken : {L i u : ℕ} {rest : Bool} {t : List ℕ} → Going E M 0 L i u rest t → i ≡ all
  taken {L} {i} g = elim (dec_le all i) [
    | yes h ↦ omega (arith, g.swept.border.within)
    | no h ↦ absurd (omega (arith, g.swept.border.high i (omega arith) (omega arith), no_need E M (row_at E M i)))
  ]

  -- The first level, and no loss.
  module _ {L i u : ℕ} {rest : Bool} {t w : List ℕ} (a : Apart n s t) (g : Going E M 0 L i u rest t) (first : L ≡ 0) (e : w ≡ cleared t (8 * n) (9 * n)) where
    enough : 9 * n ≤ length t
    enough = omega (arith, room f, a.size)

    pub clear_apart : Apart n s w
    clear_apart = apart_then a (record {
      size = ap length e ∙ cleared-length t (8 * n) (9 * n) (omega arith) enough;
      leads = λ x h. ap (λ (l : List ℕ). get_or l x 0) e ∙ cleared-before t (8 * n) (9 * n) (omega arith) enough x (omega arith);
      behind = λ x h. ap (λ (l : List ℕ). get_or l x 0) e ∙ cleared-behind t (8 * n) (9 * n) (omega arith) enough x (omega arith);
    })

    pub parted-first : Parted E M 0 u w
    parted-first =
        let v : Swept E M 0 0 all u w = swept_same (λ x h. ap (λ (l : List ℕ). get_or l x 0) e ∙ cleared-before t (8 * n) (9 * n) (omega arith) enough x (omega arith))
        (subst (λ (x : ℕ). Swept E M 0 0 x u t) (taken g) (subst (λ (x : ℕ). Swept E M 0 x i u t) first g.swept)) in
        record {
          swept = v;
          noted = λ c h.
              ap (λ (l : List ℕ). get_or l (8 * n + c) 0) e ∙ cleared_inside t (8 * n) (9 * n) (omega arith) enough (8 * n + c) (omega arith) (omega (arith, few_kept v))
              ∙ sym (up_none (apart E M (list_at n w c)));
        }

  module _ {L u count : ℕ} (p : Parted E M L u s) (all-rows : count ≡ all) where
    -- What a level asks.
    pub before_more : Before E M 0 (L + 1) count count u s
    before_more = subst (λ (x : ℕ). Before E M 0 (L + 1) x x u s) (sym all-rows) (record {
      gone = p.swept.gone;
      to = omega arith;
      border = border_jump E M 0 L (L + 1) all (omega arith) p.swept.border (λ h. absurd (omega arith));
      first = λ e. absurd (omega arith);
      last = λ K e. (let z : L ≡ K = omega arith in subst (λ (x : ℕ). Border E M 0 x all) z p.swept.border);
      led = (let z : L ≡ L + 1 - 1 = omega arith in subst (λ (x : ℕ). Led E M 0 x all (value_at n s)) z p.swept.led);
    })

    module _ {t : List ℕ} {v : ℕ} {rest : Bool} (a : After E M 0 (L + 1) count s t v rest) where
      made : Swept E M 0 (L + 1) all u t
      made =
          let w = subst (λ (x : ℕ). Swept E M 0 (L + 1) x v t) all-rows a.swept in
          subst (λ (x : ℕ). Swept E M 0 (L + 1) all x t) (w.gone.many ∙ sym p.swept.gone.many) w

      -- What the noting asks.
      pub noting : L < n → Noting n u (L + 1) t
      noting h = record {
        few = (shape f).rows_fit;
        room = omega (arith, room f, a.apart.size);
        low = omega arith;
        places = few_kept made;
        rows = λ c l.
            let o = kept_placed E M 0 all c (omega (arith, made.gone.many)) in
            omega (arith, made.gone.listed c l, o.3, at_row E M o.0 o.2);
      }

      module _ {w : List ℕ} (d : Wrote (8 * n) u (loss_at n (L + 1) t) t w) where
        pub noted-apart : Apart n s w
        noted-apart = apart_then a.apart (record { size = d.size; leads = λ x h. d.below x (omega arith); behind = λ x h. d.above x (omega (arith, few_kept made)) })

        swept-on : Swept E M 0 (L + 1) all u w
        swept-on = swept_same (λ x h. d.below x (omega arith)) made

        noted-on : (c : ℕ) → c < u → noted_at n w c ≡ up_to (L + 1) (apart E M (list_at n w c))
        noted-on c h = d.here c h ∙ ⊎_elim
            (λ e. ⊎_elim
            (λ l. sym (loss-none n (L + 1) t c e l) ∙ up_far (L + 1) x (λ y. leads (ap (value_at n t) (sym here) ∙ l) y) ∙ is)
            (λ l. sym (loss-now n (L + 1) t c e l)
            ∙ up_now L x (sym old ∙ e) (kept_apart (sound f mask) (mask_light mask T) c b) (lost (λ y. l (ap (value_at n t) here ∙ y))) ∙ is)
            (eq_or_ne (value_at n t (list_at n t c)) c))
            (λ ne. sym (loss-before n (L + 1) t c ne) ∙ old ∙ up_before L x (λ y. ne (old ∙ y)) ∙ is)
            (eq_or_ne (noted_at n t c) 0)
          where
            x : Len
            x = apart E M (get_or (kept_to E M 0 all) c 0)

            b : c < length (kept_to E M 0 all)
            b = omega (arith, made.gone.many)

            leads : value_at n t (get_or (kept_to E M 0 all) c 0) ≡ c → Within x (L + 1) → ⊥
            leads = lead-apart (sound f mask) (mask_light mask T) (L + 1) (value_at n t) (label_at n t) made.led made.gone.labelled c b

            lost : (value_at n t (get_or (kept_to E M 0 all) c 0) ≡ c → ⊥) → Within x (L + 1)
            lost = lost-apart (sound f mask) (mask_light mask T) (L + 1) (value_at n t) (label_at n t) made.led made.gone.labelled c b

            here : list_at n t c ≡ get_or (kept_to E M 0 all) c 0
            here = made.gone.listed c h

            is : up_to (L + 1) x ≡ up_to (L + 1) (apart E M (list_at n w c))
            is = ap (λ (q : ℕ). up_to (L + 1) (apart E M q)) (sym (swept-on.gone.listed c h))

            old : noted_at n t c ≡ up_to L x
            old = a.noted (omega arith) (8 * n + c) (omega arith) (omega (arith, few_kept made)) ∙ p.noted c h ∙ ap (λ (q : ℕ). up_to L (apart E M q)) (p.swept.gone.listed c h)

        -- As many rows are kept, and what is known of the table of leaders still is.
        pub kept_same : v ≡ u
        kept_same = a.swept.gone.many ∙ ap (λ (x : ℕ). length (kept_to E M 0 x)) all-rows ∙ sym p.swept.gone.many

        pub tabled-noted : {known last : ℕ} → Tabled mask T v known last t → Tabled mask T v known last w
        tabled-noted tabled =
            let h = tabled.few in
            let k = few_kept made in
            let e = kept_same in
            record {
              few = tabled.few;
              past = known_still tabled.past (λ c l. d.below (3 * n + c) (omega arith)) (λ c l. d.below (2 * n + list_at n t c) (omega (arith, row c (omega arith))))
                  (λ c x l m. (let y = target c x (omega arith) m in d.below (2 * n + get_or T.cells (list_at n t c * T.events + x) 0) (omega arith)))
                  (λ c x l m. (let y = target c x (omega arith) m in d.below (5 * n + get_or T.cells (list_at n t c * T.events + x) 0) (omega arith)))
                  (λ c l. d.below (4 * n + c) (omega arith)) (λ c l. d.below (6 * n + c) (omega arith)) (λ x l. d.above (9 * n + x) (omega arith));
            }
          where
            row : (c : ℕ) → c < u → list_at n t c < n
            row c l = let o = kept_placed E M 0 all c (omega (arith, made.gone.many)) in omega (arith, made.gone.listed c l, o.3, at_row E M o.0 o.2)

            target : (c x : ℕ) → c < u → x < T.events → get_or T.cells (list_at n t c * T.events + x) 0 < n
            target c x l m = (sound f mask).target_inside (list_at n t c) x (row c l) m

        pub parted-next : Parted E M (L + 1) u w
        parted-next = record { swept = swept-on; noted = noted-on }

        -- At rest there is no loss more.
        pub parted-rest : L < n → rest ≡ true → Parted E M n u w
        parted-rest h e =
            let r = subst (λ (x : ℕ). Rests E M (Placed E M x) (L + 1)) all-rows (a.rests e (omega arith)) in
            let cl = placed_closed (sound f mask) (mask_light mask T) 0 (L + 1) all swept-on.border in
            record {
              swept = record {
                gone = swept-on.gone;
                border = border_jump E M 0 (L + 1) n all (omega arith) swept-on.border (λ g. absurd (omega arith));
                led = led-rest (sound f mask) (mask_light mask T) 0 (L + 1) n all (value_at n w) (omega arith) cl r swept-on.led;
              };
              noted = λ c g.
                  let o = kept_placed E M 0 all c (omega (arith, made.gone.many)) in
                  noted-on c g ∙ up_same (L + 1) n (apart E M (list_at n w c)) (omega arith)
                  (subst (λ (q : ℕ). Within (apart E M q) n → Within (apart E M q) (L + 1)) (o.3 ∙ sym (swept-on.gone.listed c g)) (rest-apart (sound f mask) (mask_light mask T) (L + 1) n o.0 cl r o.1));
            }

  -- ---- the end
  module _ {u : ℕ} (p : Parted E M n u s) where
    label-in : (j : ℕ) → j < all → label_at n s (row_at E M j) < u
    label-in j h = omega (arith, p.swept.gone.labelled.inside j h, p.swept.gone.many)

    folds : (j : ℕ) → j < all → list_at n s (label_at n s (row_at E M j)) ≡ fold E M (offset 0) (row_at E M j)
    folds j h = p.swept.gone.listed (label_at n s (row_at E M j)) (label-in j h) ∙ p.swept.gone.labelled.folds j h

    cell_is : (j : ℕ) → j < all → (lead_in s (row_at E M j) ≡ 0 → ⊥) → apart_at n s (row_at E M j) ≡ len_cell (apart E M (row_at E M j))
    cell_is j h r = ⊎_elim
        (λ e.
        let l = label-in j h in
        let g : get_or (kept_to E M 0 all) (label_at n s (row_at E M j)) 0 ≡ row_at E M j = sym (p.swept.gone.listed (label_at n s (row_at E M j)) l) ∙ e in
        apart-kept n s (row_at E M j) r e ∙ ap far_cell (p.noted (label_at n s (row_at E M j)) l ∙ ap (λ (q : ℕ). up_to n (apart E M q)) e)
        ∙ up_cell n (apart E M (row_at E M j)) (apart_below (sound f mask) (mask_light mask T) (row_at E M j) (at_row E M j h) (at-reached E M j h))
        (λ w. kept_apart (sound f mask) (mask_light mask T) (label_at n s (row_at E M j)) (omega (arith, p.swept.gone.many)) (subst (λ (q : ℕ). Within (apart E M q) 0) (sym g) w)))
        (λ ne. sym (apart-folded n s (row_at E M j) r ne)
        ∙ zero-cell (apart E M (row_at E M j)) (folded-apart (sound f mask) (mask_light mask T) j h (λ e. ne (folds j h ∙ e))))
        (eq_or_ne (list_at n s (label_at n s (row_at E M j))) (row_at E M j))

    ended : {s₀ : List ℕ} → Apart n s₀ s → Measured E M s₀ s
    ended a = record {
      beside = a;
      inside = λ q h r. (let x = place_of E M q h r in subst (λ (y : ℕ). label_at n s y < n) x.2 (omega (arith, label-in x.0 x.1, few_kept p.swept)));
      cells = λ q h r.
          let x = place_of E M q h r in
          subst (λ (y : ℕ). apart_at n s y ≡ len_cell (apart E M y)) x.2
          (cell_is x.0 x.1 (λ z. cell-reached E M (row_at E M x.0) (at-reached E M x.0 x.1) (sym (p.swept.gone.laid.leads (row_at E M x.0) (at_row E M x.0 x.1)) ∙ z)));
    }

  -- Once there are as many levels as rows.
  pub measured : {L u : ℕ} {s₀ : List ℕ} → L ≡ n → Parted E M L u s → Apart n s₀ s → Measured E M s₀ s
  measured {L} {u} e p = ended (subst (λ (x : ℕ). Parted E M x u s) e p)
