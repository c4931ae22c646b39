-- From level to level, and what the sweep ends with.
use mathlib.Core.Path.{◌≡◌, refl, sym, ap, subst, ◌∙◌}
use mathlib.Core.Bool.{Bool, true, false, cond, false≢true}
use mathlib.Core.List.{List}
use mathlib.Core.Logic.{◌⊎◌, inl, inr, ⊎_elim}
use Prim.Native.Nat.{ℕ, ◌+◌, ◌-◌, ◌*◌, ◌≤◌, ◌<◌}
use native.Mathlib.Omega.{arith}
use native.Mathlib.Decide.{dec_lt}
use borrow.Author.Tests.{ne_eqb}
use lib.ListN.{length, get_or}
use Rattle.automata.specs.Runs.{Events, Machine, Len, len, endless}
use Rattle.automata.proofs.Tests.{either}
use Rattle.tables.specs.Lengths.{lead, reached, depth}
use Rattle.tables.specs.Table.{Table, weight_by, machine, events_of, offset}
use Rattle.tables.specs.Reduction.{order, fold}
use Rattle.tables.proofs.Counted.{mask_light}
use Rattle.tables.proofs.Lengths.{Below, lead-below}
use Rattle.scratch.specs.Scratch.{len_cell, cleared}
use Rattle.scratch.proofs.Cells.{cleared-length, cleared-before, cleared-behind, cleared_inside}
use Rattle.levels.specs.Levels.{need, need_by, row_at, need_at}
use Rattle.levels.specs.Sweep.{Border, Led}
use Rattle.levels.proofs.Need.{need-lead}
use Rattle.levels.proofs.Order.{at_row, at-reached, place_of}
use Rattle.levels.proofs.Borders.{placed_closed, border, border_jump}
use Rattle.levels.proofs.Kept.{kept_start, kept_few}
use Rattle.levels.proofs.Sweep.{led-none, led-rest}
use Rattle.quick_folding.specs.Parts.{label_at, value_at, list_at, Searching, Until, Onward, Staying, StaysAt}
use Rattle.levels.specs.Cells.{need_cell}
use Rattle.quick_folding.specs.State.{Fits, Stays, Laid, Apart, Before, After, Going, Folded}
use Rattle.quick_folding.proofs.Whole.{cell-reached}
use Rattle.quick_folding.proofs.Entering.{order_short, shape, sound, room, fits_still}

pub apart_none : {n : ℕ} {s : List ℕ} → Apart n s s
apart_none = record { size = refl; leads = λ k h. refl; behind = λ k h. refl }

pub apart_then : {n : ℕ} {s t u : List ℕ} → Apart n s t → Apart n t u → Apart n s u
apart_then f g = record { size = g.size ∙ f.size; leads = λ k h. g.leads k h ∙ f.leads k h; behind = λ k h. g.behind k h ∙ f.behind k h }

-- ---- the cell of a lead says what its row needs

cell-need : (k n : ℕ) (x : Len) → n ≤ 1024 → Below (n + 1) x → need_cell k (len_cell x) ≡ need_by k x
cell-need k n (len c) h b = rw (ne_eqb c 65535 (λ e. omega arith)) refl
cell-need k n endless h b = refl

need_high : (k : ℕ) (d : Len) → need k d ≤ k
need_high k (len d) = omega arith
need_high k endless = omega arith

module _ {T : Table} (mask : ℕ) {k : ℕ} {s : List ℕ} (f : Fits T k s) where
  abbrev E : Events
  E = events_of (weight_by mask) T

  abbrev M : Machine
  M = machine T

  abbrev n : ℕ
  n = T.rows

  need-at : {i : ℕ} → Laid E M i s → (x : ℕ) → i ≤ x → x < length (order E M) → need_cell k (get_or s (list_at n s x) 0) ≡ need_at E M k (row_at E M x)
  need-at l x h g =
      ap (λ (q : ℕ). need_cell k (get_or s q 0)) (l.order_from x h g) ∙ ap (need_cell k) (l.leads (row_at E M x) (at_row E M x g))
      ∙ cell-need k n (lead E M (row_at E M x)) (shape f).rows_fit (lead-below E M (row_at E M x)) ∙ sym (need-lead E M k (row_at E M x) (at-reached E M x g))

  -- What `until` asks, and the border that it finds.
  pub searching : {i count : ℕ} → Laid E M i s → count ≡ length (order E M) → i ≤ count → Searching n k i count s
  searching l e h =
      record {
        room = omega (arith, room f);
        offset = f.offset;
        from = h;
        until = omega (arith, order_short E M);
        rows = λ x g b. omega (arith, l.order_from x g (omega arith), at_row E M x (omega arith));
      }

  border_until : {i L r count : ℕ} → Laid E M i s → count ≡ length (order E M) → ((y : ℕ) → y < i → need_at E M k (row_at E M y) ≤ L) → Until n k i count L s r → Border E M k L r
  border_until {i} {L} {r} l e olds u =
      border E M k L r (omega (arith, u.within))
      (λ p. elim (dec_lt (r - 1) i) [
        | yes g ↦ olds (r - 1) g
        | no g ↦ omega (arith, need-at l (r - 1) (omega arith) (omega (arith, u.within)), u.low (r - 1) (omega arith) (omega arith))
      ])
      (λ p. omega (arith, need-at l r u.from p, u.high (omega arith)))

  -- ---- the next level
  module _ {L i u : ℕ} {rest : Bool} (g : Going E M k L i u rest s) (below : i < length (order E M)) where
    need-above : L < need_at E M k (row_at E M i)
    need-above = g.swept.border.high i (omega arith) below

    pub level-low : L < k
    level-low = omega (arith, need-above, need_high k (depth E M (row_at E M i)))

    pub onward : Onward n k i L s
    onward =
        record {
          room = omega (arith, room f);
          offset = f.offset;
          place = omega (arith, order_short E M);
          row = omega (arith, g.swept.gone.laid.order_from i (omega arith) below, at_row E M i below);
          level_fits = omega (arith, level-low, f.offset);
        }

    -- The level that comes next.
    module _ {H : ℕ} (e : H ≡ cond rest (need_cell k (get_or s (list_at n s i) 0)) (L + 1)) where
      next_is : ((rest ≡ true) × (H ≡ need_at E M k (row_at E M i))) ⊎ ((rest ≡ false) × (H ≡ L + 1))
      next_is = ⊎_elim
          (λ t. inl (t, e ∙ ap (λ (b : Bool). cond b (need_cell k (get_or s (list_at n s i) 0)) (L + 1)) t ∙ need-at g.swept.gone.laid i (omega arith) below))
          (λ t. inr (t, e ∙ ap (λ (b : Bool). cond b (need_cell k (get_or s (list_at n s i) 0)) (L + 1)) t))
          (either rest)

      pub next-above : L < H
      next-above = ⊎_elim (λ t. omega (arith, t.1, need-above)) (λ t. omega (arith, t.1)) next_is

      next_most : H ≤ need_at E M k (row_at E M i)
      next_most = ⊎_elim (λ t. omega (arith, t.1)) (λ t. omega (arith, t.1, need-above)) next_is

      pub next_fits : H ≤ 65535
      next_fits = omega (arith, next_most, need_high k (depth E M (row_at E M i)), f.offset)

      last-led : Led E M k (H - 1) i (value_at n s)
      last-led = ⊎_elim
          (λ t. led-rest (sound f mask) (mask_light mask T) k L (H - 1) i (value_at n s) (omega (arith, next-above))
          (placed_closed (sound f mask) (mask_light mask T) k L i g.swept.border) (g.rests t.0) g.swept.led)
          (λ t. let z : L ≡ H - 1 = omega (arith, t.1) in subst (λ (K : ℕ). Led E M k K i (value_at n s)) z g.swept.led)
          next_is

      pub before-next : {j count : ℕ} → count ≡ length (order E M) → Until n k i count H s j → Before E M k H i j u s
      before-next c b =
          record {
            gone = g.swept.gone;
            to = b.from;
            border = border_until g.swept.gone.laid c (λ y h. omega (arith, next-above, g.swept.border.low y h)) b;
            first = λ z. absurd (omega (arith, next-above));
            last = λ K z. border_jump E M k L K i (omega (arith, next-above)) g.swept.border (λ l. omega (arith, next_most));
            led = last-led;
          }

-- ---- the first level, with the values cleared
module _ {T : Table} (mask : ℕ) {k : ℕ} {s t : List ℕ} (f : Fits T k s) (l : Laid (events_of (weight_by mask) T) (machine T) 0 s) (e : t ≡ cleared s (2 * T.rows) (3 * T.rows)) where
  before : (x : ℕ) → x < 2 * T.rows → get_or t x 0 ≡ get_or s x 0
  before x h = ap (λ (z : List ℕ). get_or z x 0) e ∙ cleared-before s (2 * T.rows) (3 * T.rows) (omega arith) (omega (arith, room f)) x h

  behind : (x : ℕ) → 3 * T.rows ≤ x → get_or t x 0 ≡ get_or s x 0
  behind x h = ap (λ (z : List ℕ). get_or z x 0) e ∙ cleared-behind s (2 * T.rows) (3 * T.rows) (omega arith) (omega (arith, room f)) x h

  clear_apart : Apart T.rows s t
  clear_apart =
      record {
        size = ap length e ∙ cleared-length s (2 * T.rows) (3 * T.rows) (omega arith) (omega (arith, room f));
        leads = λ x h. before x (omega arith);
        behind = λ x h. behind x (omega arith);
      }

  pub clear_laid : Laid (events_of (weight_by mask) T) (machine T) 0 t
  clear_laid = record { leads = λ q h. before q (omega arith) ∙ l.leads q h; order_from = λ x h g. behind (3 * T.rows + x) (omega arith) ∙ l.order_from x h g }

  pub clear_fits : Fits T k t
  clear_fits = fits_still f clear_apart.size

  pub before-first : {j count : ℕ} → count ≡ length (order (events_of (weight_by mask) T) (machine T)) → Until T.rows k 0 count 0 t j → Before (events_of (weight_by mask) T) (machine T) k 0 0 j 0 t
  before-first c u =
      record {
        gone =
            record {
              laid = clear_laid;
              many = sym (ap length (kept_start (events_of (weight_by mask) T) (machine T) k));
              listed = λ c h. absurd (omega arith);
              low = λ q h. omega (
                arith,
                ap (λ (z : List ℕ). value_at T.rows z q) e,
                cleared_inside s (2 * T.rows) (3 * T.rows) (omega arith) (omega (arith, room f)) (2 * T.rows + q) (omega arith) (omega arith),
              );
              labelled = record { inside = λ y h. absurd (omega arith); folds = λ y h. absurd (omega arith) };
            };
        to = omega arith;
        border = border_until mask clear_fits clear_laid c (λ y h. absurd (omega arith)) u;
        first = λ e. refl;
        last = λ K e. absurd (omega arith);
        led = led-none (events_of (weight_by mask) T) (machine T) k (0 - 1) (value_at T.rows t);
      }

  -- Nothing is known to be at rest after it.
  pub first_made : {j u : ℕ} {rest : Bool} {w : List ℕ} → After (events_of (weight_by mask) T) (machine T) k 0 j t w u rest
      → Apart T.rows s w × Going (events_of (weight_by mask) T) (machine T) k 0 j u false w
  first_made a = (apart_then clear_apart a.apart, record { swept = a.swept; rests = λ z. absurd (false≢true z) })

-- ---- where the sweep stands, by the numbers that say so
pub before_at : {E : Events} {M : Machine} {k j i u : ℕ} {s : List ℕ} → i ≡ 0 → u ≡ 0 → Before E M k 0 0 j 0 s → Before E M k 0 i j u s
before_at {E} {M} {k} {j} {i} {u} {s} ie ue b = subst (λ (x : ℕ). Before E M k 0 x j u s) (sym ie) (subst (λ (x : ℕ). Before E M k 0 0 j x s) (sym ue) b)

pub going_at : {E : Events} {M : Machine} {k L L' i i' u u' : ℕ} {rest rest' : Bool} {s : List ℕ} → L' ≡ L → i' ≡ i → u' ≡ u → rest' ≡ rest → Going E M k L i u rest s → Going E M k L' i' u' rest' s
going_at {E} {M} {k} {L} {L'} {i} {i'} {u} {u'} {rest} {rest'} {s} le ie ue re g =
    subst (λ (x : ℕ). Going E M k x i' u' rest' s) (sym le) (subst (λ (x : ℕ). Going E M k L x u' rest' s) (sym ie)
    (subst (λ (x : ℕ). Going E M k L i x rest' s) (sym ue) (subst (λ (x : Bool). Going E M k L i u x s) (sym re) g)))

-- ---- whether idle events stay
pub staying : {T : Table} {k : ℕ} {s : List ℕ} → Fits T k s → Staying T.rows T.events T.cells s
staying f = record { few = (shape f).rows_fit; events = (shape f).events_fit; leads = omega (arith, room f); all_cells = omega (arith, (shape f).all_cells) }

pub stays_of : (T : Table) (mask : ℕ) {s : List ℕ} → Laid (events_of (weight_by mask) T) (machine T) 0 s → ((a : ℕ) → a < T.events → StaysAt mask T.rows T.events T.cells s a)
    → Stays (events_of (weight_by mask) T) (machine T)
stays_of T mask {s} l h =
    record { stays = λ q a hq r ha w. h a ha (λ e. omega arith) q hq (λ z. cell-reached (events_of (weight_by mask) T) (machine T) q r (sym (l.leads q hq) ∙ z)) }

-- ---- the end
pub folded : {E : Events} {M : Machine} {k L i u : ℕ} {rest : Bool} {s t : List ℕ} → Apart M.rows s t → Going E M k L i u rest t → length (order E M) ≤ i → Folded E M k s t
folded {E} {M} {k} {L} {i} {u} {rest} {s} {t} a g h =
    record {
      apart = a;
      inside = λ q l r.
          let p = at q l r in
          subst (λ (x : ℕ). label_at M.rows t x < M.rows) p.2 (omega (arith, inside p.0 p.1, kept_few E M k i, g.swept.border.within, order_short E M, g.swept.gone.many));
      folds = λ q l r.
          let p = at q l r in
          let o = g.swept.gone in
          subst (λ (x : ℕ). list_at M.rows t (label_at M.rows t x) ≡ fold E M (offset k) x) p.2
          (o.listed (label_at M.rows t (row_at E M p.0)) (inside p.0 p.1) ∙ o.labelled.folds p.0 p.1);
    }
  where
    at : (q : ℕ) → q < M.rows → reached E M q ≡ true → (y : ℕ) × (y < i) × (row_at E M y ≡ q)
    at q l r = let p = place_of E M q l r in (p.0, omega (arith, p.1), p.2)

    inside : (y : ℕ) → y < i → label_at M.rows t (row_at E M y) < u
    inside y l = omega (arith, g.swept.gone.labelled.inside y l, g.swept.gone.many)
