-- The relation that a level is about: `Near L` of the rows at hand. It is kept by what is known of them, and it is the largest that is.
use mathlib.Core.Path.{◌≡◌, refl, sym, ap, subst, ◌∙◌}
use mathlib.Core.Bool.{Bool, true, false, true≢false, false≢true}
use mathlib.Core.List.{List, [], ◌∷◌}
use mathlib.Core.Logic.{◌⊎◌, inl, inr, ⊎_elim}
use Prim.Native.Nat.{ℕ, suc, ◌+◌, ◌-◌, ◌*◌, ◌≤◌, ◌<◌}
use native.Mathlib.Omega.{arith}
use borrow.Author.Tests.{eqb-true, eqb-false}
use lib.ListN.{length, get_or}
use Rattle.automata.specs.Runs.{Events, Machine, Run, size, after, Near}
use Rattle.automata.proofs.Runs.{near_refl, near_sym, near_trans, near_up, near_step, near_cast}
use Rattle.tables.specs.Table.{machine, weight_by}
use Rattle.rules.specs.Rules.{table_of}
use Rattle.splitting.specs.Places.{front, nxt_at}
use Rattle.classes.specs.Values.{Values, values_by, outer_by, Given}
use Rattle.classes.specs.Steps.{Settled}
use Rattle.classes.proofs.Exact.{Kept, Largest, Exact, settled_exact}

-- Rows at hand, and among them old ones, at level L: `place` of an old row stands for its class at the level before, of a new one for itself.
pub record Level (E : Events) (M : Machine) (L : ℕ) (W : Values) (place : ℕ → ℕ) (hand old : ℕ → Type 0) : Type 0 where
  -- What the values are.
  pub events : W.events ≡ E.count
  pub mark : (q : ℕ) → W.mark q ≡ M.mark q
  pub to : (q a : ℕ) → W.to q a ≡ place (M.target q a)
  pub top : W.top ≡ true → L ≡ 0
  pub not_top : W.top ≡ false → 0 < L
  pub outer : (a : ℕ) → W.outer a ≡ true → (E.weight a ≡ 1) × (0 < L)
  pub inner : (a : ℕ) → W.outer a ≡ false → (E.weight a ≡ 0) ⊎ (L ≡ 0)
  -- The rows at hand are closed under events; outer ones lead to old rows.
  pub rows : (i : ℕ) → i < W.count → hand (W.row i)
  pub closed : (q a : ℕ) → hand q → a < E.count → hand (M.target q a)
  pub goes_old : (q a : ℕ) → hand q → a < E.count → W.outer a ≡ true → old (M.target q a)
  -- The place of a row at hand has a row that is near it; of old rows it is the same just if they are near at the level before.
  pub inside : (q : ℕ) → hand q → place q < W.count
  pub stands : (q : ℕ) → hand q → Near E M M L q (W.row (place q))
  pub before : (q p : ℕ) → old q → old p → Near E M M (L - 1) q p → place q ≡ place p
  pub before_back : (q p : ℕ) → old q → old p → place q ≡ place p → Near E M M (L - 1) q p

module _ {E : Events} {M : Machine} {L : ℕ} {W : Values} {place : ℕ → ℕ} {hand old : ℕ → Type 0} (v : Level E M L W place hand old) where
  abbrev near : ℕ → ℕ → Type 0
  near i j = Near E M M L (W.row i) (W.row j)

  few : {a : ℕ} → a < W.events → a < E.count
  few l = let e = v.events in omega arith

  near_kept : Kept W (λ i j. Near E M M L (W.row i) (W.row j))
  near_kept =
      record {
        marks = λ t i j hi hj n.
            let z = v.top t in
            v.mark (W.row i) ∙ n.same [] tt (omega arith) ∙ sym (v.mark (W.row j));
        outer = λ a l o i j hi hj n.
            let w = v.outer a o in
            let e : L - E.weight a ≡ L - 1 = omega (arith, w.0) in
            let s = subst (λ (K : ℕ). Near E M M K (M.target (W.row i) a) (M.target (W.row j) a)) e (near_step a (few l) n) in
            v.to (W.row i) a ∙ v.before _ _ (v.goes_old (W.row i) a (v.rows i hi) (few l) o) (v.goes_old (W.row j) a (v.rows j hj) (few l) o) s ∙ sym (v.to (W.row j) a);
        inner = λ a l o i j hi hj n.
            let e : L - E.weight a ≡ L = ⊎_elim (λ z. omega arith) (λ z. omega arith) (v.inner a o) in
            let s = subst (λ (K : ℕ). Near E M M K (M.target (W.row i) a) (M.target (W.row j) a)) e (near_step a (few l) n) in
            let p = v.stands (M.target (W.row i) a) (v.closed (W.row i) a (v.rows i hi) (few l)) in
            let q = v.stands (M.target (W.row j) a) (v.closed (W.row j) a (v.rows j hj) (few l)) in
            rw (v.to (W.row i) a, v.to (W.row j) a) (near_trans (near_sym p) (near_trans s q));
      }

  module _ (f : ℕ → ℕ) (k : Kept W (λ i j. f i ≡ f j)) where
    -- By induction on the run: an inner event leads on to places that f leads alike, an outer one to rows that are near at the level before.
    alike : (w : List ℕ) → Run E w → L ≤ size E w → (i j : ℕ) → i < W.count → j < W.count → f i ≡ f j → M.mark (after M (W.row i) w) ≡ M.mark (after M (W.row j) w)
    alike [] r l i j hi hj e = at-end W.top refl
      where
        at-end : (b : Bool) → W.top ≡ b → M.mark (W.row i) ≡ M.mark (W.row j)
        at-end true t = sym (v.mark (W.row i)) ∙ k.marks t i j hi hj e ∙ v.mark (W.row j)
        at-end false t = absurd (omega (arith, v.not_top t))
    alike (a ∷ w) r l i j hi hj e = at-event (W.outer a) refl (λ h. alike w r.1 h)
      where
        b : a < W.events
        b = let z = v.events in let y = r.0 in omega arith

        at-event : (c : Bool) → W.outer a ≡ c
            → (L ≤ size E w → (x y : ℕ) → x < W.count → y < W.count → f x ≡ f y → M.mark (after M (W.row x) w) ≡ M.mark (after M (W.row y) w))
            → M.mark (after M (M.target (W.row i) a) w) ≡ M.mark (after M (M.target (W.row j) a) w)
        at-event true o ih =
            let z = v.outer a o in
            let s = k.outer a b o i j hi hj e in
            (v.before_back _ _ (v.goes_old (W.row i) a (v.rows i hi) r.0 o) (v.goes_old (W.row j) a (v.rows j hj) r.0 o) (sym (v.to (W.row i) a) ∙ s ∙ v.to (W.row j) a)
            ).same w r.1 (omega (arith, z.0))
        at-event false o ih =
            let long : L ≤ size E w = ⊎_elim (λ z. omega arith) (λ z. omega arith) (v.inner a o) in
            let hq = v.closed (W.row i) a (v.rows i hi) r.0 in
            let hp = v.closed (W.row j) a (v.rows j hj) r.0 in
            let s : f (place (M.target (W.row i) a)) ≡ f (place (M.target (W.row j) a))
            = ap f (sym (v.to (W.row i) a)) ∙ k.inner a b o i j hi hj e ∙ ap f (v.to (W.row j) a) in
            (v.stands (M.target (W.row i) a) hq).same w r.1 long
            ∙ ih long (place (M.target (W.row i) a)) (place (M.target (W.row j) a)) (v.inside _ hq) (v.inside _ hp) s
            ∙ sym ((v.stands (M.target (W.row j) a) hp).same w r.1 long)

  near_largest : Largest W (λ i j. Near E M M L (W.row i) (W.row j))
  near_largest = record { holds = λ f k i j hi hj e. record { same = λ w r l. alike f k w r l i j hi hj e } }

  -- So the leaders of a settled level are those of `Near L`.
  settled-near : {n : ℕ} {s t : List ℕ} → Settled n W s t → Exact W (λ i j. Near E M M L (W.row i) (W.row j)) (nxt_at n t)
  settled-near d = settled_exact d near_kept near_largest

-- ---- the values of a stored table

abbrev pub events_by : ℕ → ℕ → Events
events_by mask m = record { count = m; weight = weight_by mask }

abbrev pub machine_by : ℕ → ℕ → ℕ → List ℕ → List ℕ → Machine
machine_by n m start cells marks = machine (table_of n m start cells marks)

-- By row and by place, in the cells in front.
abbrev pub place_of : ℕ → List ℕ → ℕ → ℕ
place_of n s q = get_or (front n s) (2 * n + q) 0

abbrev pub row_at : ℕ → List ℕ → ℕ → ℕ
row_at n s i = get_or (front n s) (3 * n + i) 0

outer_is : (mask : ℕ) (b : Bool) (a : ℕ) → outer_by b mask a ≡ true → (b ≡ false) × (weight_by mask a ≡ 1)
outer_is mask true a e = absurd (false≢true e)
outer_is mask false a e = (refl, eqb-true (weight_by mask a) 1 e)

inner_is : (mask : ℕ) (b : Bool) (a : ℕ) → outer_by b mask a ≡ false → (b ≡ true) ⊎ (weight_by mask a ≡ 0)
inner_is mask true a e = inl refl
inner_is mask false a e = inr (let ne = eqb-false (weight_by mask a) 1 e in omega arith)

-- What a caller has to know of the rows at hand, those that are old, and the places in scratch.
pub record AtHand (top : Bool) (mask n m to start : ℕ) (cells marks s : List ℕ) (L : ℕ) (hand old : ℕ → Type 0) : Type 0 where
  pub zero_level : top ≡ true → L ≡ 0
  pub higher : top ≡ false → 0 < L
  pub rows : (i : ℕ) → i < to → hand (row_at n s i)
  pub closed : (q a : ℕ) → hand q → a < m → hand (get_or cells (q * m + a) 0)
  pub goes_old : (q a : ℕ) → hand q → a < m → top ≡ false → weight_by mask a ≡ 1 → old (get_or cells (q * m + a) 0)
  pub inside : (q : ℕ) → hand q → place_of n s q < to
  pub stands : (q : ℕ) → hand q → Near (events_by mask m) (machine_by n m start cells marks) (machine_by n m start cells marks) L q (row_at n s (place_of n s q))
  pub before : (q p : ℕ) → old q → old p → Near (events_by mask m) (machine_by n m start cells marks) (machine_by n m start cells marks) (L - 1) q p → place_of n s q ≡ place_of n s p
  pub before_back : (q p : ℕ) → old q → old p → place_of n s q ≡ place_of n s p → Near (events_by mask m) (machine_by n m start cells marks) (machine_by n m start cells marks) (L - 1) q p

module _ {top : Bool} {mask n m to start : ℕ} {cells marks s : List ℕ} {L : ℕ} {hand old : ℕ → Type 0} (h : AtHand top mask n m to start cells marks s L hand old) where
  level-of : Level (events_by mask m) (machine_by n m start cells marks) L (values_by top mask n m to cells marks s) (place_of n s) hand old
  level-of =
      record {
        events = refl;
        mark = λ q. refl;
        to = λ q a. refl;
        top = h.zero_level;
        not_top = h.higher;
        outer = λ a o. let w = outer_is mask top a o in (w.1, h.higher w.0);
        inner = λ a o. ⊎_elim (λ t. inr (h.zero_level t)) (λ z. inl z) (inner_is mask top a o);
        rows = h.rows;
        closed = h.closed;
        goes_old = λ q a g l o. let w = outer_is mask top a o in h.goes_old q a g l w.0 w.1;
        inside = h.inside;
        stands = h.stands;
        before = h.before;
        before_back = h.before_back;
      }

  -- What `settle` ensures, for a caller that knows this: the leaders are those of `Near L` of the rows at hand.
  pub settled-table : {t : List ℕ} → Settled n (values_by top mask n m to cells marks s) s t
      → Exact (values_by top mask n m to cells marks s) (λ i j. Near (events_by mask m) (machine_by n m start cells marks) (machine_by n m start cells marks) L (row_at n s i) (row_at n s j)) (nxt_at n t)
  settled-table d = settled-near level-of d

  -- What `settle` requires follows, where the rows at hand are rows, and there is room.
  pub given_of : n ≤ 1024 → 12 * n ≤ length s → to ≤ n → m ≤ 32 → n * m ≤ length cells → ((q : ℕ) → hand q → q < n) → Given n (values_by top mask n m to cells marks s) cells s
  given_of few room fits events all row =
      record {
        sizes = record { few = few; room = room; inside = fits; events = events; all_cells = all };
        within = λ i l.
            record {
              row = row (row_at n s i) (h.rows i l);
              targets = λ a g. row (get_or cells (row_at n s i * m + a) 0) (h.closed (row_at n s i) a (h.rows i l) g);
              places = λ a g. h.inside (get_or cells (row_at n s i * m + a) 0) (h.closed (row_at n s i) a (h.rows i l) g);
            };
      }

-- ---- how a caller comes by it
module _ (mask n m to start : ℕ) (cells marks s : List ℕ) {hand : ℕ → Type 0} (rows : (i : ℕ) → i < to → hand (row_at n s i))
    (closed : (q a : ℕ) → hand q → a < m → hand (get_or cells (q * m + a) 0)) (inside : (q : ℕ) → hand q → place_of n s q < to) where
  -- At level 0 every row at hand stands at its own place.
  pub first-level : ((q : ℕ) → hand q → row_at n s (place_of n s q) ≡ q) → AtHand true mask n m to start cells marks s 0 hand (λ q. ⊥)
  first-level own =
      record {
        zero_level = λ e. refl;
        higher = λ e. absurd (true≢false e);
        rows = rows;
        closed = closed;
        goes_old = λ q a h l e. absurd (true≢false e);
        inside = inside;
        stands = λ q h. near_cast refl (sym (own q h)) near_refl;
        before = λ q p h. absurd h;
        before_back = λ q p h. absurd h;
      }

  -- Above it a new row does, and an old one at the place of a row that was near it at the level before.
  pub next_level : {old : ℕ → Type 0} (L : ℕ) → ((q : ℕ) → hand q → old q ⊎ (row_at n s (place_of n s q) ≡ q))
      → ((q a : ℕ) → hand q → a < m → weight_by mask a ≡ 1 → old (get_or cells (q * m + a) 0))
      → ((q : ℕ) → old q → Near (events_by mask m) (machine_by n m start cells marks) (machine_by n m start cells marks) L q (row_at n s (place_of n s q)))
      → ((q p : ℕ) → old q → old p → Near (events_by mask m) (machine_by n m start cells marks) (machine_by n m start cells marks) L q p → place_of n s q ≡ place_of n s p)
      → AtHand false mask n m to start cells marks s (suc L) hand old
  next_level {old} L each goes led same =
      record {
        zero_level = λ e. absurd (false≢true e);
        higher = λ e. omega arith;
        rows = rows;
        closed = closed;
        goes_old = λ q a h l e w. goes q a h l w;
        inside = inside;
        stands = λ q h. ⊎_elim (λ o. near_up (omega arith) (led q o)) (λ e. near_cast refl (sym e) near_refl) (each q h);
        before = λ q p h g d. same q p h g (subst (λ (K : ℕ). Near (events_by mask m) (machine_by n m start cells marks) (machine_by n m start cells marks) K q p) less d);
        before_back = λ q p h g e.
            subst (λ (K : ℕ). Near (events_by mask m) (machine_by n m start cells marks) (machine_by n m start cells marks) K q p) (sym less)
            (near_trans (led q h) (near_sym (near_cast refl (ap (row_at n s) (sym e)) (led p g))));
      }
    where
      less : suc L - 1 ≡ L
      less = omega arith
