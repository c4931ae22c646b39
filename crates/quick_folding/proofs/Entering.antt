-- A level's rows at hand: from what stands in front to what `settle` asks, and from what it ensures to the leaders of the level.
use mathlib.Core.Path.{◌≡◌, refl, sym, ap, subst, ◌∙◌}
use mathlib.Core.Bool.{Bool, true, false}
use mathlib.Core.List.{List}
use mathlib.Core.Logic.{◌⊎◌, inl, inr, ⊎_elim}
use Prim.Native.Nat.{ℕ, zero, suc, ◌+◌, ◌-◌, ◌*◌, ◌≤◌, ◌<◌}
use native.Mathlib.Omega.{arith}
use native.Mathlib.Decide.{dec_lt}
use lib.Dec.{eqb, eqb-suc-zero}
use lib.ListN.{length, get_or}
use Rattle.automata.specs.Runs.{Events, Machine, Sound, Near}
use Rattle.automata.proofs.Lists.{few}
use Rattle.automata.proofs.Runs.{near_cast}
use Rattle.tables.specs.Table.{Table, weight_by, machine, events_of}
use Rattle.tables.specs.Reduction.{order}
use Rattle.tables.proofs.Counted.{mask_light}
use Rattle.tables.proofs.Folds.{order_mem}
use Rattle.rules.specs.Rules.{winch}
use Rattle.rules.proofs.Shape.{Shape}
use Rattle.scratch.specs.Scratch.{few_cells}
use Rattle.scratch.proofs.Numbers.{eq_or_ne}
use Rattle.scratch.proofs.Works.{within_fine}
use Rattle.scratch.proofs.Soundness.{within_shape, within_sound}
use Rattle.levels.specs.Levels.{row_at}
use Rattle.levels.specs.Sweep.{Placed, kept_to, listed, Border, Led, Settled}
use Rattle.levels.proofs.Order.{order_distinct, at_row, one_place}
use Rattle.levels.proofs.Borders.{placed_closed, placed_into}
use Rattle.levels.proofs.Kept.{kept_few, listed_old, listed_new, listed-length, listed_placed}
use Rattle.levels.proofs.Sweep.{led_sound}
use Rattle.splitting.specs.Places.{nxt_at}
use Rattle.classes.specs.Values.{Values, values_by, Given}
use Rattle.classes.specs.Steps as Classes
use Rattle.classes.proofs.Reading.{front_read}
use Rattle.classes.proofs.AtLevel as Hand
use Rattle.quick_folding.specs.Parts.{value_at, list_at, Appendable, Appended}
use Rattle.quick_folding.specs.State.{Fits, Before}

-- One of the first values of f, or none of them.
pub found : (f : ℕ → ℕ) (q count : ℕ) → ((x : ℕ) × (x < count) × (f x ≡ q)) ⊎ ((x : ℕ) → x < count → f x ≡ q → ⊥)
found f q zero = inr (λ x h e. omega arith)
found f q (suc n) = more (found f q n) (eq_or_ne (f n) q)
  where
    more : ((x : ℕ) × (x < n) × (f x ≡ q)) ⊎ ((x : ℕ) → x < n → f x ≡ q → ⊥) → (f n ≡ q) ⊎ (f n ≡ q → ⊥)
        → ((x : ℕ) × (x < suc n) × (f x ≡ q)) ⊎ ((x : ℕ) → x < suc n → f x ≡ q → ⊥)
    more (inl r) e = inl (r.0, omega (arith, r.1), r.2)
    more (inr h) (inl e) = inl (n, omega arith, e)
    more (inr h) (inr ne) = inr (λ x l e. ⊎_elim (λ z. ne (ap f (sym z) ∙ e)) (λ z. h x (omega arith) e) (eq_or_ne x n))

pub order_short : (E : Events) (M : Machine) → length (order E M) ≤ M.rows
order_short E M = few (order E M) M.rows (order_distinct E M) (λ q m. (order_mem E M q m).0)

-- What a table that can be worked on is.
module _ {T : Table} {k : ℕ} {s : List ℕ} (f : Fits T k s) where
  pub shape : Shape winch T
  shape = within_shape few_cells T (length s) f.workable

  pub sound : (mask : ℕ) → Sound (events_of (weight_by mask) T) (machine T)
  sound mask = within_sound few_cells T (length s) f.workable (weight_by mask)

  pub room : 12 * T.rows ≤ length s
  room = (within_fine few_cells T (length s) f.workable).1

  -- It is one still in cells as many.
  pub fits_still : {t : List ℕ} → length t ≡ length s → Fits T k t
  fits_still e = record { workable = rw e f.workable; offset = f.offset }

module _ {T : Table} (mask : ℕ) {k L i j u : ℕ} {s : List ℕ} (f : Fits T k s) (b : Before (events_of (weight_by mask) T) (machine T) k L i j u s) where
  abbrev n : ℕ
  n = T.rows

  abbrev E : Events
  E = events_of (weight_by mask) T

  abbrev M : Machine
  M = machine T

  pub bounds : (u ≤ i) × (i ≤ j) × (j ≤ n) × (j ≤ length (order E M))
  bounds = (omega (arith, b.gone.many, kept_few E M k i), b.to, omega (arith, b.border.within, order_short E M), b.border.within)

  listed_long : length (listed E M k i j) ≡ u + (j - i)
  listed_long = listed-length E M k i j b.to b.border.within ∙ ap (λ (x : ℕ). x + (j - i)) (sym b.gone.many)

  -- ---- the rows that come in
  pub row_in : (x : ℕ) → x < j - i → list_at n s (i + x) ≡ row_at E M (i + x)
  row_in x h = b.gone.laid.order_from (i + x) (omega arith) (omega (arith, bounds.3))

  pub appendable : Appendable n u i (j - i) s
  appendable =
      record {
        few = (shape f).rows_fit;
        room = omega (arith, room f);
        down = bounds.0;
        fits = omega (arith, bounds.2, bounds.1);
        rows =
            record {
              inside = λ x h. omega (arith, row_in x h, at_row E M (i + x) (omega (arith, bounds.3)));
              once = λ x y h g e. omega (arith, one_place E M (i + x) (i + y) (omega (arith, bounds.3)) (omega (arith, bounds.3)) (sym (row_in x h) ∙ e ∙ row_in y g));
            };
      }

  -- An old row is none of them.
  pub old_not_new : (y : ℕ) → y < i → (x : ℕ) → x < j - i → list_at n s (i + x) ≡ row_at E M y → ⊥
  old_not_new y h x g e = omega (arith, one_place E M (i + x) y (omega (arith, bounds.3)) (omega (arith, bounds.3)) (sym (row_in x g) ∙ e))

  -- The level before, where there is one.
  module _ (K : ℕ) (e : L ≡ suc K) where
    pub led-last : Led E M k K i (value_at n s)
    led-last = let z : L - 1 ≡ K = omega arith in subst (λ (x : ℕ). Led E M k x i (value_at n s)) z b.led

    pub border-next : Border E M k (suc K) j
    border-next = subst (λ (x : ℕ). Border E M k x j) e b.border

  -- ---- behind `append`
  module _ {t : List ℕ} (d : Appended n u i (j - i) s t) where
    -- What is listed now.
    pub row_listed : (c : ℕ) → c < u + (j - i) → list_at n t c ≡ get_or (listed E M k i j) c 0
    row_listed c h = elim (dec_lt c u) [
      | yes g ↦ d.olds c g ∙ b.gone.listed c g ∙ sym (listed_old E M k i j c (omega (arith, b.gone.many)))
      | no g ↦
          (let x : ℕ = c - u in
          let e : c ≡ u + x = omega arith in
          let l : length (kept_to E M k i) + (i + x - i) ≡ c = omega (arith, b.gone.many) in
          ap (list_at n t) e ∙ d.listed x (omega arith) ∙ row_in x (omega arith)
          ∙ sym (listed_new E M k i j (i + x) (omega arith) (omega arith)) ∙ ap (λ (y : ℕ). get_or (listed E M k i j) y 0) l)
    ]

    -- The values: of old rows as they were, of new ones their places.
    pub value-old : (y : ℕ) → y < i → value_at n t (row_at E M y) ≡ value_at n s (row_at E M y)
    value-old y h = d.others (row_at E M y) (at_row E M y (omega (arith, bounds.3, bounds.1))) (old_not_new y h)

    value-new : (y : ℕ) → i ≤ y → y < j → value_at n t (row_at E M y) ≡ u + (y - i)
    value-new y h g =
        let e : i + (y - i) ≡ y = omega arith in
        ap (value_at n t) (sym (row_in (y - i) (omega arith) ∙ ap (row_at E M) e)) ∙ d.valued (y - i) (omega arith)

    pub value_low : (q : ℕ) → q < n → value_at n t q ≤ u + (j - i) - 1
    value_low q h = ⊎_elim
        (λ r. omega (arith, r.1, ap (value_at n t) r.2, d.valued r.0 r.1))
        (λ ne. omega (arith, d.others q h ne, b.gone.low q h))
        (found (λ x. list_at n s (i + x)) q (j - i))

    -- The same, read as `settle` does.
    at_place : (c : ℕ) → c < u + (j - i) → Hand.row_at n t c ≡ get_or (listed E M k i j) c 0
    at_place c h = front_read n t (3 * n + c) (omega (arith, bounds.0, bounds.1, bounds.2)) ∙ row_listed c h

    place_is : (y : ℕ) → y < j → Hand.place_of n t (row_at E M y) ≡ value_at n t (row_at E M y)
    place_is y h = front_read n t (2 * n + row_at E M y) (omega (arith, at_row E M y (omega (arith, bounds.3))))

    old-place : (y : ℕ) → y < i → Hand.place_of n t (row_at E M y) ≡ value_at n s (row_at E M y)
    old-place y h = place_is y (omega (arith, bounds.1)) ∙ value-old y h

    hand-rows : (c : ℕ) → c < u + (j - i) → Placed E M j (Hand.row_at n t c)
    hand-rows c h = subst (Placed E M j) (sym (at_place c h)) (listed_placed E M k i j c b.to b.border.within (omega (arith, listed_long)))

    hand-closed : (q a : ℕ) → Placed E M j q → a < T.events → Placed E M j (get_or T.cells (q * T.events + a) 0)
    hand-closed q a p h = (placed_closed (sound f mask) (mask_light mask T) k L j b.border).leads q a p h

    hand-inside : (q : ℕ) → Placed E M j q → Hand.place_of n t q < u + (j - i)
    hand-inside q p = subst (λ (x : ℕ). Hand.place_of n t x < u + (j - i)) p.2 (elim (dec_lt p.0 i) [
      | yes g ↦ omega (arith, old-place p.0 g, b.led.inside p.0 g, b.gone.many)
      | no g ↦ omega (arith, place_is p.0 p.1, value-new p.0 (omega arith) p.1, p.1)
    ])

    new-own : (y : ℕ) → i ≤ y → y < j → Hand.row_at n t (Hand.place_of n t (row_at E M y)) ≡ row_at E M y
    new-own y h g =
        let e : Hand.place_of n t (row_at E M y) ≡ u + (y - i) = place_is y g ∙ value-new y h g in
        let l : length (kept_to E M k i) + (y - i) ≡ u + (y - i) = omega (arith, b.gone.many) in
        ap (Hand.row_at n t) e ∙ at_place (u + (y - i)) (omega arith) ∙ ap (λ (x : ℕ). get_or (listed E M k i j) x 0) (sym l) ∙ listed_new E M k i j y h g

    -- The rows at hand of a level H, and among them old ones.
    abbrev AtHand : Bool → ℕ → (ℕ → Type 0) → Type 0
    AtHand top H old = Hand.AtHand top mask n T.events (u + (j - i)) T.start T.cells T.marks t H (Placed E M j) old

    hand_first : L ≡ 0 → AtHand true 0 (λ q. ⊥)
    hand_first z = Hand.first-level mask n T.events (u + (j - i)) T.start T.cells T.marks t hand-rows hand-closed hand-inside
        (λ q p. subst (λ (x : ℕ). Hand.row_at n t (Hand.place_of n t x) ≡ x) p.2 (new-own p.0 (omega (arith, b.first z)) p.1))

    hand-next : (K : ℕ) → L ≡ suc K → AtHand false (suc K) (Placed E M i)
    hand-next K e = Hand.next_level mask n T.events (u + (j - i)) T.start T.cells T.marks t hand-rows hand-closed hand-inside K
        (λ q p. elim (dec_lt p.0 i) [
          | yes g ↦ inl (p.0, g, p.2)
          | no g ↦ inr (subst (λ (x : ℕ). Hand.row_at n t (Hand.place_of n t x) ≡ x) p.2 (new-own p.0 (omega arith) p.1))
        ])
        (λ q a p h w. placed_into (sound f mask) (mask_light mask T) k K i (b.last K e) j (border-next K e) q a p h w)
        (λ q p. subst (λ (x : ℕ). Near E M M K x (Hand.row_at n t (Hand.place_of n t x))) p.2 (near-old p.0 p.1))
        (λ q p hq hp near. place-old q hq ∙ led_sound (led-last K e) q p hq hp near ∙ sym (place-old p hp))
      where
        near-old : (y : ℕ) → y < i → Near E M M K (row_at E M y) (Hand.row_at n t (Hand.place_of n t (row_at E M y)))
        near-old y h =
            let c = (led-last K e).inside y h in
            let g = old-place y h in
            near_cast refl (sym (ap (Hand.row_at n t) g ∙ at_place (value_at n s (row_at E M y)) (omega (arith, b.gone.many)) ∙ listed_old E M k i j (value_at n s (row_at E M y)) c)) ((led-last K e).close y h)

        place-old : (q : ℕ) → Placed E M i q → Hand.place_of n t q ≡ value_at n s q
        place-old q p = subst (λ (x : ℕ). Hand.place_of n t x ≡ value_at n s x) p.2 (old-place p.0 p.1)

    -- What `settle` looks at, at a level that is 0 or not.
    abbrev pub seen : Bool → Values
    seen top = values_by top mask n T.events (u + (j - i)) T.cells T.marks t

    -- What it asks.
    pub given : Given n (seen (eqb L 0)) T.cells t
    given = at L refl
      where
        by : {top : Bool} {H : ℕ} {old : ℕ → Type 0} → AtHand top H old → Given n (seen top) T.cells t
        by h = Hand.given_of h (shape f).rows_fit (omega (arith, room f, d.size)) (omega (arith, bounds.0, bounds.1, bounds.2)) (shape f).events_fit (omega (arith, (shape f).all_cells))
            (λ q p. subst (λ (x : ℕ). x < n) p.2 (at_row E M p.0 (omega (arith, p.1, bounds.3))))

        at : (H : ℕ) → L ≡ H → Given n (seen (eqb H 0)) T.cells t
        at zero e = by (hand_first e)
        at (suc K) e = subst (λ (top : Bool). Given n (seen top) T.cells t) (sym (eqb-suc-zero K)) (by (hand-next K e))

    -- What it ensures.
    pub settled : {w : List ℕ} → Classes.Settled n (seen (eqb L 0)) t w → Settled E M k L i j (nxt_at n w)
    settled {w} = at L refl
      where
        by : {top : Bool} {H : ℕ} {old : ℕ → Type 0} → AtHand top H old → Classes.Settled n (seen top) t w → Settled E M k H i j (nxt_at n w)
        by h g =
            let x = Hand.settled-table h g in
            let z = listed_long in
            record {
              no_later = λ c l. g.canon.down c (omega arith);
              close = λ c l. near_cast (at_place c (omega arith)) (at_place (nxt_at n w c) (omega (arith, x.inside c (omega arith)))) (x.member c (omega arith));
              least = λ c y l p near.
                  let r = x.inside c (omega arith) in
                  omega (arith, x.least c y (omega arith) (omega arith) (near_cast (sym (at_place c (omega arith))) (sym (at_place y (omega arith))) near));
            }

        at : (H : ℕ) → L ≡ H → Classes.Settled n (seen (eqb H 0)) t w → Settled E M k H i j (nxt_at n w)
        at zero e g = by (hand_first e) g
        at (suc K) e g = by (hand-next K e) (subst (λ (top : Bool). Classes.Settled n (seen top) t w) (eqb-suc-zero K) g)
