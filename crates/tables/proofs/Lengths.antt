-- `distance` and `depth` are what document 01 says of runs; both are below the number of rows where they are finite.
use mathlib.Core.Path.{◌≡◌, refl, sym, ap, subst, ◌∙◌}
use mathlib.Core.List.{List, [], ◌∷◌}
use mathlib.Core.Bool.{Bool, true, false, not, cond}
use mathlib.Core.Logic.{◌⊎◌, inl, inr}
use Prim.Native.Nat.{ℕ, zero, suc, ◌+◌, ◌-◌, ◌≤◌, ◌<◌}
use native.Mathlib.Omega.{arith}
use native.Mathlib.Decide.{dec_le}
use lib.Dec.{eqb}
use borrow.Author.Tests.{eqb-true, eqb-false, eq-eqb, ne_eqb, lt-ltb, le-ltb, not-false}
use Rattle.automata.specs.Runs.{Events, Machine, Sound, Light, Run, size, after, Near, Leads, Len, len, endless, IsDistance, IsDepth, Unreached}
use Rattle.automata.specs.Nearness.{near}
use Rattle.tables.specs.Lengths.{least, distance, beside, only, sink, lead, is_zero, one_less, reached, depth}
use Rattle.automata.proofs.Tests.{either, clash, flip_true, last_or_less}
use Rattle.automata.proofs.Runs.{Reach, after_in}
use Rattle.automata.proofs.Nearness.{Told, Long, near_holds, near-found, near_fails, near_bound}

-- What `least` answers, begun at i with n numbers to try.
abbrev Answer : (ℕ → Bool) → ℕ → ℕ → Len → Type 0
Answer f n i (len L) = (f L ≡ true) × (L < i + n) × ((K : ℕ) → i ≤ K → K < L → f K ≡ false)
Answer f n i endless = (K : ℕ) → i ≤ K → K < i + n → f K ≡ false

least_is : (f : ℕ → Bool) (n i : ℕ) → Answer f n i (least f n i)
unfolding least
least_is f zero i = λ K low high. absurd (omega arith)
least_is f (suc n) i = pick (f i) refl (least f n (suc i)) (least_is f n (suc i))
  where
    later : f i ≡ false → (x : Len) → Answer f n (suc i) x → Answer f (suc n) i x
    later e (len L) h = (h.0, omega arith, λ K low high. elim (last_or_less i K (omega arith)) [ inl g ↦ subst (λ (j : ℕ). f j ≡ false) g e | inr g ↦ h.2 K g high ])
    later e endless h = λ K low high. elim (last_or_less i K (omega arith)) [ inl g ↦ subst (λ (j : ℕ). f j ≡ false) g e | inr g ↦ h K g (omega arith) ]

    pick : (b : Bool) → f i ≡ b → (x : Len) → Answer f n (suc i) x → Answer f (suc n) i (elim b [ true ↦ len i | false ↦ x ])
    pick true e x h = (e, omega arith, λ K low high. absurd (omega arith))
    pick false e x h = later e x h

-- A finite length is below n.
abbrev pub Below : ℕ → Len → Type 0
Below n (len L) = L < n
Below n endless = Unit {0}

-- ---- distance
module _ {E : Events} {M : Machine} (s : Sound E M) (z : Light E) {q p : ℕ} (hq : q < M.rows) (hp : p < M.rows) where
  -- Either no run of size L or more tells the rows apart, or here is one that does.
  pub near-or-told : (L : ℕ) → Near E M M L q p ⊎ Told E M (Long E L) q p
  near-or-told L = elim (either (near E M M.rows L q p)) [
    | inl e ↦ inl (near_holds E M s z M.rows (omega arith) L q p hq hp e)
    | inr e ↦ inr (near_fails E M s z M.rows (omega arith) L q p hq hp e)
  ]

  pub distance_is : IsDistance E M q p (distance E M q p)
  unfolding distance
  distance_is = pick (least (λ L. near E M M.rows L q p) M.rows 0) (least_is (λ L. near E M M.rows L q p) M.rows 0)
    where
      test : (L : ℕ) → Near E M M L q p → near E M M.rows L q p ≡ true
      test L n = near-found E M s z M.rows (omega arith) L q p hq hp n

      pick : (x : Len) → Answer (λ L. near E M M.rows L q p) M.rows 0 x → IsDistance E M q p x
      pick (len L) h = (
        near_holds E M s z M.rows (omega arith) L q p hq hp h.0,
        λ K n. elim (dec_le L K) [ yes l ↦ l | no l ↦ clash (test K n) (h.2 K (omega arith) (omega arith)) ],
      )
      pick endless h = λ L n.
          clash (test (M.rows - 1) (near_bound E M s z M.rows (omega arith) L q p hq hp n)) (h (M.rows - 1) (omega arith) (omega arith))

  pub finite-distance : (x : Len) → IsDistance E M q p x → Below M.rows x
  finite-distance (len L) h = omega (arith, h.1 (M.rows - 1) (near_bound E M s z M.rows (omega arith) L q p hq hp h.0))
  finite-distance endless h = tt

pub distance-below : (E : Events) (M : Machine) (q p : ℕ) → Below M.rows (distance E M q p)
unfolding distance
distance-below E M q p = pick (least (λ L. near E M M.rows L q p) M.rows 0) (least_is (λ L. near E M M.rows L q p) M.rows 0)
  where
    pick : (x : Len) → Answer (λ L. near E M M.rows L q p) M.rows 0 x → Below M.rows x
    pick (len L) h = omega arith
    pick endless h = tt

-- Two rows have one distance.
pub distance-one : (E : Events) (M : Machine) (q p : ℕ) (x y : Len) → IsDistance E M q p x → IsDistance E M q p y → x ≡ y
distance-one E M q p (len L) (len K) h k =
    let e : L ≡ K = omega (arith, h.1 K k.0, k.1 L h.0) in
    ap len e
distance-one E M q p (len L) endless h k = absurd (k L h.0)
distance-one E M q p endless (len K) h k = absurd (h K k.0)
distance-one E M q p endless endless h k = refl

-- ---- two machines beside one another
module _ {E : Events} {M N : Machine} (s : Sound E M) (t : Sound E N) where
  left_target : (q a : ℕ) → q < M.rows → (beside M N).target q a ≡ M.target q a
  left_target q a h = rw (lt-ltb q M.rows h)

  right_target : (q p a : ℕ) → q ≡ M.rows + p → (beside M N).target q a ≡ M.rows + N.target p a
  right_target q p a e =
      let g : q - M.rows ≡ p = omega arith in
      rw (le-ltb q M.rows (omega arith), g)

  pub sound_beside : Sound E (beside M N)
  sound_beside = record {
    start_inside = omega (arith, s.start_inside);
    target_inside = λ q a hq ha. elim (dec_le M.rows q) [
      | yes h ↦ omega (arith, right_target q (q - M.rows) a (omega arith), t.target_inside (q - M.rows) a (omega arith) ha)
      | no h ↦ omega (arith, left_target q a (omega arith), s.target_inside q a (omega arith) ha)
    ];
  }

  left_after : (w : List ℕ) (q : ℕ) → Run E w → q < M.rows → after (beside M N) q w ≡ after M q w
  left_after [] q hw h = refl
  left_after (a ∷ w) q hw h = rw (left_target q a h) (left_after w (M.target q a) hw.1 (s.target_inside q a h hw.0))

  right_after : (w : List ℕ) (q p : ℕ) → Run E w → q ≡ M.rows + p → after (beside M N) q w ≡ M.rows + after N p w
  right_after [] q p hw e = e
  right_after (a ∷ w) q p hw e = right_after w ((beside M N).target q a) (N.target p a) hw.1 (right_target q p a e)

  pub left_mark : (w : List ℕ) (q : ℕ) → Run E w → q < M.rows → (beside M N).mark (after (beside M N) q w) ≡ M.mark (after M q w)
  left_mark w q hw h = ap (beside M N).mark (left_after w q hw h) ∙ rw (lt-ltb (after M q w) M.rows (after_in s w q hw h))

  pub right_mark : (w : List ℕ) (q p : ℕ) → Run E w → q ≡ M.rows + p → (beside M N).mark (after (beside M N) q w) ≡ N.mark (after N p w)
  right_mark w q p hw e =
      let r : ℕ = M.rows + after N p w in
      let g : r - M.rows ≡ after N p w = omega arith in
      ap (beside M N).mark (right_after w q p hw e) ∙ rw (le-ltb r M.rows (omega arith), g)

-- ---- depth
module _ {E : Events} {M : Machine} (s : Sound E M) (z : Light E) (q : ℕ) (hq : q < M.rows) where
  abbrev Watch : Machine
  Watch = beside (only M q) sink

  sound_only : Sound E (only M q)
  sound_only = record { start_inside = s.start_inside; target_inside = s.target_inside }

  sound_sink : Sound E sink
  sound_sink = record { start_inside = omega arith; target_inside = λ p a hp ha. omega arith }

  sound_watch : Sound E Watch
  sound_watch = sound_beside sound_only sound_sink

  after-only : (w : List ℕ) (p : ℕ) → after (only M q) p w ≡ after M p w
  after-only [] p = refl
  after-only (a ∷ w) p = after-only w (M.target p a)

  -- The two rows show different marks after w just if w leads to q.
  watch_left : (w : List ℕ) → Run E w → Watch.mark (after Watch M.start w) ≡ cond (eqb (after M M.start w) q) 1 0
  watch_left w hw = left_mark sound_only sound_sink w M.start hw s.start_inside ∙ ap (only M q).mark (after-only w M.start)

  watch_right : (w : List ℕ) → Run E w → Watch.mark (after Watch M.rows w) ≡ 0
  watch_right w hw = right_mark sound_only sound_sink w M.rows 0 hw (omega arith)

  leads-of : (L : ℕ) → Told E Watch (Long E L) M.start M.rows → Reach E M q L
  leads-of L t = record { by = t.by; leads = record { run = t.run; ends = pick (either (eqb (after M M.start t.by) q)) }; long = t.within }
    where
      pick : (eqb (after M M.start t.by) q ≡ true) ⊎ (eqb (after M M.start t.by) q ≡ false) → after M M.start t.by ≡ q
      pick (inl e) = eqb-true (after M M.start t.by) q e
      pick (inr e) = absurd (t.differ (watch_left t.by t.run ∙ rw e (sym (watch_right t.by t.run))))

  leads_short : (L : ℕ) → Near E Watch Watch L M.start M.rows → (w : List ℕ) → Leads E M M.start q w → size E w < L
  leads_short L n w h = elim (dec_le L (size E w)) [
    | yes l ↦ absurd (omega (arith, sym (watch_left w h.run) ∙ n.same w h.run l ∙ watch_right w h.run, shown))
    | no l ↦ omega arith
  ]
    where
      shown : ◌≡◌ {A = ℕ} (cond (eqb (after M M.start w) q) 1 0) 1
      shown = rw (eq-eqb (after M M.start w) q h.ends)

  starts : M.start < Watch.rows
  starts = omega (arith, s.start_inside)

  ends : M.rows < Watch.rows
  ends = omega arith

  lead_is : IsDistance E Watch M.start M.rows (lead E M q)
  unfolding lead
  lead_is = distance_is sound_watch z starts ends

  found : (L : ℕ) → ¬ Near E Watch Watch L M.start M.rows → Reach E M q L
  found L h = elim (near-or-told sound_watch z starts ends L) [ inl n ↦ absurd (h n) | inr t ↦ leads-of L t ]

  -- what the lead of a row says of it
  Said : Len → Type 0
  Said x = ((is_zero x ≡ true) × Unreached E M q) ⊎ ((is_zero x ≡ false) × Reach E M q 0 × IsDepth E M q (one_less x))

  said : (x : Len) → IsDistance E Watch M.start M.rows x → Said x
  unfolding Said
  said (len zero) h = inl (refl, λ w l. omega (arith, leads_short 0 h.0 w l))
  said (len (suc d)) h =
      let r = found d (λ n. omega (arith, h.1 d n)) in
      let e : suc d - 1 ≡ d = omega arith in
      inr (
        ne_eqb (suc d) 0 (λ g. omega arith),
        record { by = r.by; leads = r.leads; long = omega arith },
        rw e ((r.by, r.leads, omega (arith, r.long, leads_short (suc d) h.0 r.by r.leads)), λ w l. omega (arith, leads_short (suc d) h.0 w l)),
      )
  said endless h = inr (refl, found 0 (h 0), λ c. (let r = found c (h c) in (r.by, r.leads, r.long)))

  pub reached_is : reached E M q ≡ true → Reach E M q 0
  unfolding reached Said
  reached_is e = elim (said (lead E M q) lead_is) [ inl h ↦ clash h.0 (flip_true (is_zero (lead E M q)) e) | inr h ↦ h.1 ]

  pub reached-found : Reach E M q 0 → reached E M q ≡ true
  unfolding reached Said
  reached-found r = elim (said (lead E M q) lead_is) [ inl h ↦ absurd (h.1 r.by r.leads) | inr h ↦ rw h.0 ]

  pub unreached_is : reached E M q ≡ false → Unreached E M q
  unreached_is e w l = clash (reached-found (record { by = w; leads = l; long = omega arith })) e

  pub depth_is : Reach E M q 0 → IsDepth E M q (depth E M q)
  unfolding depth Said
  depth_is r = elim (said (lead E M q) lead_is) [ inl h ↦ absurd (h.1 r.by r.leads) | inr h ↦ h.2 ]

-- A row has one depth.
pub depth-one : (E : Events) (M : Machine) (q : ℕ) (x y : Len) → IsDepth E M q x → IsDepth E M q y → x ≡ y
depth-one E M q (len d) (len e) h k =
    let g : d ≡ e = omega (arith, h.0.2, k.0.2, h.1 k.0.0 k.0.1, k.1 h.0.0 h.0.1) in
    ap len g
depth-one E M q (len d) endless h k = let r = k (suc d) in absurd (omega (arith, r.2, h.1 r.0 r.1))
depth-one E M q endless (len e) h k = let r = h (suc e) in absurd (omega (arith, r.2, k.1 r.0 r.1))
depth-one E M q endless endless h k = refl

-- A depth is at most the number of rows, and below it where there is a row.
pub lead-below : (E : Events) (M : Machine) (q : ℕ) → Below (M.rows + 1) (lead E M q)
unfolding lead
lead-below E M q = distance-below E (beside (only M q) sink) M.start M.rows

pub depth_below : (E : Events) (M : Machine) (q : ℕ) → 0 < M.rows → Below M.rows (depth E M q)
unfolding depth
depth_below E M q h = pick (lead E M q) (lead-below E M q)
  where
    pick : (x : Len) → Below (M.rows + 1) x → Below M.rows (one_less x)
    pick (len L) b = omega arith
    pick endless b = tt

pub finite-depth : {E : Events} {M : Machine} → Sound E M → Light E → (q : ℕ) → q < M.rows → Reach E M q 0 → (x : Len) → IsDepth E M q x → Below M.rows x
finite-depth {E} {M} s z q hq r x h = subst (Below M.rows) (depth-one E M q (depth E M q) x (depth_is s z q hq r) h) (depth_below E M q (omega arith))

-- What the lead of a row is, by whether it is reached and by its depth.
pub lead-unreached : (E : Events) (M : Machine) (q : ℕ) → reached E M q ≡ false → lead E M q ≡ len 0
unfolding reached
lead-unreached E M q = pick (lead E M q)
  where
    pick : (x : Len) → not (is_zero x) ≡ false → x ≡ len 0
    pick (len L) e = ap len (eqb-true L 0 (not-false (eqb L 0) e))
    pick endless e = clash refl e

pub lead-reached : (E : Events) (M : Machine) (q d : ℕ) → reached E M q ≡ true → depth E M q ≡ len d → lead E M q ≡ len (suc d)
unfolding reached depth
lead-reached E M q d = pick (lead E M q)
  where
    one_more : (L : ℕ) → ¬ (L ≡ 0) → ◌≡◌ {A = Len} (len (L - 1)) (len d) → L ≡ suc d
    one_more L h e =
        let g : L - 1 ≡ d = cc in
        omega arith

    pick : (x : Len) → not (is_zero x) ≡ true → one_less x ≡ len d → x ≡ len (suc d)
    pick (len L) e g = ap len (one_more L (eqb-false L 0 (flip_true (eqb L 0) e)) g)
    pick endless e g = let z : ◌≡◌ {A = ℕ} 0 1 = cc in absurd (omega arith)

pub lead-endless : (E : Events) (M : Machine) (q : ℕ) → depth E M q ≡ endless → lead E M q ≡ endless
unfolding depth
lead-endless E M q = pick (lead E M q)
  where
    pick : (x : Len) → one_less x ≡ endless → x ≡ endless
    pick (len L) e = let z : ◌≡◌ {A = ℕ} 0 1 = cc in absurd (omega arith)
    pick endless e = refl
