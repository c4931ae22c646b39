-- What is known of the table of leaders after a level.
use mathlib.Core.Path.{◌≡◌, sym, ap, subst, ◌∙◌}
use mathlib.Core.Bool.{Bool, true, false}
use mathlib.Core.List.{List}
use mathlib.Core.Logic.{◌⊎◌, inl, inr, ⊎_elim}
use Prim.Native.Nat.{ℕ, suc, ◌+◌, ◌-◌, ◌*◌, ◌≤◌, ◌<◌}
use native.Mathlib.Omega.{arith}
use lib.Dec.{eqb}
use lib.ListN.{get_or}
use Rattle.automata.specs.Runs.{Events, Machine}
use Rattle.automata.proofs.Tests.{clash}
use Rattle.tables.specs.Table.{Table, weight_by, machine, events_of}
use Rattle.levels.specs.Levels.{row_at}
use Rattle.levels.specs.Sweep.{Placed}
use Rattle.levels.proofs.Order.{at_row}
use Rattle.splitting.specs.Places.{nxt_at}
use Rattle.leaders.specs.Leaders.{Known, Begun, Joins}
use Rattle.leaders.proofs.After.{known_none, known_next}
use Rattle.quick_folding.specs.Parts.{value_at, list_at, stamp_at, Leading, Appended, Still, Renewed, still, passed, Taken}
use Rattle.quick_folding.specs.State.{Fits, Stays, Tabled, Before}
use Rattle.quick_folding.specs.Grouping.{Grouped, joined, split, Tells, empty, calm, moved}
use Rattle.quick_folding.proofs.Grouping.{Grouping}
use Rattle.quick_folding.proofs.Takes.{seats_low}
use Rattle.quick_folding.proofs.Leaving.{same₃, old_apart}
use Rattle.quick_folding.proofs.Joining.{own, target-old, own_old, own-low, own-own, begun, by_splits, by-leaders}
use Rattle.quick_folding.proofs.Entering as In

-- Nothing is known.
pub tabled_none : {mask : ℕ} {T : Table} {u known last : ℕ} {s : List ℕ} → known ≡ 0 → Tabled mask T u known last s
tabled_none {mask} {T} {u} {known} {last} {s} e = subst (λ (x : ℕ). Tabled mask T u x last s) (sym e) (record { few = omega arith; past = known_none })

pub tells_none : {u L : ℕ} {r : Bool} {lost known last : ℕ} → 1024 < lost → Tells u L r lost known last → known ≡ 0
tells_none many (empty m ke) = ke
tells_none many (calm few re ke le) = absurd (omega arith)
tells_none many (moved few re ke le) = absurd (omega arith)

module _ {T : Table} (mask : ℕ) {k L i j u : ℕ} {s : List ℕ} (v : Fits T k s) (b : Before (events_of (weight_by mask) T) (machine T) k L i j u s)
    {t₁ : List ℕ} (a : Appended T.rows u i (j - i) s t₁) {t₂ : List ℕ} {lost : ℕ} {f : ℕ → ℕ} (d : Grouping mask T k L i j u s t₁ t₂ lost f)
    {t₃ : List ℕ} {r : Bool} (w : Renewed T.rows u L lost t₂ t₃ r) {t₄ : List ℕ} {count : ℕ} (g : Taken T.rows u (j - i) count t₃ t₄) where
  abbrev n : ℕ
  n = T.rows

  abbrev E : Events
  E = events_of (weight_by mask) T

  abbrev M : Machine
  M = machine T

  bounds : (u ≤ i) × (i ≤ j) × (j ≤ n)
  bounds = let x = In.bounds mask v b in (x.0, x.1, x.2)

  -- The value of an old row is that before the new rows were taken.
  value₄ : (q : ℕ) → Placed E M i q → (q < n) × (value_at n t₄ q ≡ value_at n t₃ q)
  value₄ q p = subst (λ (x : ℕ). (x < n) × (value_at n t₄ x ≡ value_at n t₃ x)) p.2
      (let h = at_row E M p.0 (omega (arith, p.1, (In.bounds mask v b).3, bounds.1)) in
      (h, g.other_values (row_at E M p.0) h (old_apart mask v b a d w g p.0 p.1)))

  value₂ : (q : ℕ) → q < n → value_at n t₂ q ≡ value_at n t₁ q
  value₂ q h = d.front (2 * n + q) (omega arith)

  module _ (K : ℕ) (e : L ≡ suc K) (joins : Joins mask n T.events u (u + (j - i)) T.cells t₁ t₂ lost) where
    -- By `renew` values become their leaders, whether it had to write or not.
    renewed : (c : ℕ) → c < u → value_at n t₃ (list_at n t₁ c) ≡ nxt_at n t₂ (own mask v b a K e c)
    renewed c h = pick w
      where
        p : (y : ℕ) × (y < i) × (list_at n t₁ c ≡ row_at E M y) × (own mask v b a K e c ≡ value_at n s (row_at E M y))
        p = own_old mask v b a K e c h

        inside : list_at n t₁ c < n
        inside = omega (arith, p.2, at_row E M p.0 (omega (arith, p.1, (In.bounds mask v b).3, bounds.1)))

        at : own mask v b a K e c < u
        at = omega (arith, own-low mask v b a K e c (omega arith))

        own₂ : value_at n t₂ (list_at n t₂ (own mask v b a K e c)) ≡ own mask v b a K e c
        own₂ =
            ap (value_at n t₂) (d.front (3 * n + own mask v b a K e c) (omega (arith, at, bounds.0, bounds.1, bounds.2)))
            ∙ value₂ (list_at n t₁ (own mask v b a K e c)) (let y = own_old mask v b a K e (own mask v b a K e c) at in omega (arith, y.2, at_row E M y.0 (omega (arith, y.1, (In.bounds mask v b).3, bounds.1))))
            ∙ own-own mask v b a K e c (omega arith)

        quiet : (lost ≡ 0) ⊎ Still n u t₂ → nxt_at n t₂ (own mask v b a K e c) ≡ own mask v b a K e c
        quiet (inl z) = ap (nxt_at n t₂) p.3 ∙ d.calm z p.0 p.1 ∙ sym p.3
        quiet (inr z) = z (own mask v b a K e c) at ∙ own₂

        pick : Renewed n u L lost t₂ t₃ r → value_at n t₃ (list_at n t₁ c) ≡ nxt_at n t₂ (own mask v b a K e c)
        pick (still why te re) = ap (λ (l : List ℕ). value_at n l (list_at n t₁ c)) te ∙ value₂ (list_at n t₁ c) inside ∙ sym (quiet why)
        pick (passed some q re) =
            q.here (list_at n t₁ c) inside (subst (Leading n u t₂) (sym (value₂ (list_at n t₁ c) inside)) (record { place = at; own = own₂ }))
            ∙ ap (nxt_at n t₂) (value₂ (list_at n t₁ c) inside)

    -- The value of an old row stays, or the level is noted.
    stamped : (last : ℕ) → (r ≡ false → last ≡ L) → (q : ℕ) → Placed E M i q → (value_at n t₄ q ≡ value_at n t₁ q) ⊎ (stamp_at n t₄ q ≡ last)
    stamped last is q p = pick w
      where
        o : (q < n) × (value_at n t₄ q ≡ value_at n t₃ q)
        o = value₄ q p

        pick : Renewed n u L lost t₂ t₃ r → (value_at n t₄ q ≡ value_at n t₁ q) ⊎ (stamp_at n t₄ q ≡ last)
        pick (still why te re) = inl (o.1 ∙ ap (λ (l : List ℕ). value_at n l q) te ∙ value₂ q o.0)
        pick (passed some y re) = ⊎_elim (λ z. inl (o.1 ∙ z ∙ value₂ q o.0))
            (λ z. inr (g.later (5 * n + q) (omega (arith, bounds.0, bounds.1, bounds.2)) (omega (arith, o.0)) ∙ z ∙ sym (is re))) (y.noted q o.0)

    known-after : (last : ℕ) → (r ≡ false → last ≡ L) → Known mask n T.events u last T.cells t₄
    known-after last is =
        let x = bounds.0 in
        let y = bounds.1 in
        let z = bounds.2 in
        known_next joins (omega arith) (own-low mask v b a K e)
        (λ c h. g.olds c h ∙ same₃ mask v b a d w (3 * n + c) (inr (inl (omega arith, omega arith))) ∙ d.front (3 * n + c) (omega arith))
        (λ c h. let p = own_old mask v b a K e c h in (value₄ (list_at n t₁ c) (p.0, p.1, sym p.2)).1 ∙ renewed c h)
        (λ c m h l. stamped last is (get_or T.cells (list_at n t₁ c * T.events + m) 0) (subst (λ (q : ℕ). Placed E M i (get_or T.cells (q * T.events + m) 0)) (sym (a.olds c h)) (target-old mask v b a K e c m h l)))
        (λ c h. g.later (4 * n + c) (omega arith) (omega arith) ∙ same₃ mask v b a d w (4 * n + c) (inr (inl (omega arith, omega arith))))
        (λ c h. g.later (6 * n + c) (omega arith) (omega arith) ∙ same₃ mask v b a d w (6 * n + c) (inr (inr (omega arith))))
        (λ m h. g.behind (9 * n + m) (omega arith) ∙ same₃ mask v b a d w (9 * n + m) (inr (inr (omega arith))))

    pub tabled-after : {known last : ℕ} → lost ≤ 1024 → Tells u L r lost known last → Tabled mask T count known last t₄
    tabled-after {known} {last} fits (empty many ke) = absurd (omega arith)
    tabled-after {known} {last} fits (calm few re ke le) =
        subst (λ (x : ℕ). Tabled mask T count x last t₄) (sym ke)
        (record { few = omega (arith, g.many, seats_low (nxt_at n t₃) u (j - i)); past = known-after last (λ z. clash re z) })
    tabled-after {known} {last} fits (moved few re ke le) =
        subst (λ (x : ℕ). Tabled mask T count x last t₄) (sym ke)
        (record { few = omega (arith, g.many, seats_low (nxt_at n t₃) u (j - i)); past = known-after last (λ z. le) })

-- ---- the whole level
module _ {T : Table} (mask : ℕ) {k L i j u : ℕ} {s : List ℕ} (v : Fits T k s) (b : Before (events_of (weight_by mask) T) (machine T) k L i j u s) {plain : Bool}
    (plainly : plain ≡ true → Stays (events_of (weight_by mask) T) (machine T) × (0 < L)) {t₁ : List ℕ} (a : Appended T.rows u i (j - i) s t₁) where
  last_level : plain ≡ true → (K : ℕ) × (L ≡ suc K)
  last_level e = (L - 1, omega (arith, (plainly e).1))

  -- What `group` asks of the table.
  pub begun-at : {known last : ℕ} → Tabled mask T u known last s → plain ≡ true → Begun mask T.rows T.events (u + (j - i)) known last T.cells t₁
  begun-at t e = let K = last_level e in begun mask v b a K.0 K.1 t

  -- The classes, whichever way they came about.
  pub grouped : {t₂ : List ℕ} {lost : ℕ} → Grouped plain (eqb L 0) mask T.rows T.events u (u + (j - i)) T.cells T.marks t₁ t₂ lost → (f : ℕ → ℕ) × Grouping mask T k L i j u s t₁ t₂ lost f
  grouped (joined e few kept d) = let K = last_level e in (_, by-leaders mask v b a K.0 K.1 (plainly e).0 kept d)
  grouped (split many d) = (_, by_splits mask v b a many d)

  module _ {t₂ : List ℕ} {lost : ℕ} (d : Grouped plain (eqb L 0) mask T.rows T.events u (u + (j - i)) T.cells T.marks t₁ t₂ lost)
      {t₃ : List ℕ} {r : Bool} (w : Renewed T.rows u L lost t₂ t₃ r) {t₄ : List ℕ} {count : ℕ} (g : Taken T.rows u (j - i) count t₃ t₄) where
    pub level-tabled : {known last : ℕ} → Tells u L r lost known last → Tabled mask T count known last t₄
    level-tabled {known} {last} tells = pick d
      where
        pick : Grouped plain (eqb L 0) mask T.rows T.events u (u + (j - i)) T.cells T.marks t₁ t₂ lost → Tabled mask T count known last t₄
        pick (joined e few kept x) =
            let K = last_level e in
            tabled-after mask v b a (by-leaders mask v b a K.0 K.1 (plainly e).0 kept x) w g K.0 K.1 x few tells
        pick (split many x) = tabled_none (tells_none many tells)
