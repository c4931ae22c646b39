-- The test `near` decides `Near`, and a finite distance is below the number of rows.
use mathlib.Core.Path.{◌≡◌, refl, sym, ◌∙◌}
use mathlib.Core.List.{List, [], ◌∷◌}
use mathlib.Core.Bool.{Bool, true, false}
use mathlib.Core.Logic.{◌⊎◌, inl, inr, ◌≢◌}
use Prim.Native.Nat.{ℕ, zero, suc, ◌+◌, ◌-◌, ◌≤◌, ◌<◌}
use native.Mathlib.Omega.{arith}
use native.Mathlib.Decide.{le_ind}
use lib.Dec.{eqb}
use borrow.Author.Tests.{eqb-true, eqb-false}
use lib.ListN.{length}
use Rattle.automata.specs.Runs.{Events, Machine, Sound, Light, Run, size, after, Near}
use Rattle.automata.specs.Nearness.{every, rounds, near}
use Rattle.automata.proofs.Tests.{either, and_left, and_right, and_cases, every-at, every_fails, if_true, if_false, unless_true, unless_false}
use Rattle.automata.proofs.Runs.{near_up, near_step}
use Rattle.automata.proofs.Classes.{Equivalence, classes, classes_bound, classes_some, classes_same, rests}

-- ---- a set of runs, and the rows that it does not tell apart

abbrev Same : Events → Machine → (List ℕ → Type 0) → ℕ → ℕ → Type 0
Same E M W q p = (w : List ℕ) → Run E w → W w → M.mark (after M q w) ≡ M.mark (after M p w)

-- A run of the set that tells q from p.
pub record Told (E : Events) (M : Machine) (W : List ℕ → Type 0) (q p : ℕ) : Type 0 where
  pub by : List ℕ
  pub run : Run E by
  pub within : W by
  pub differ : M.mark (after M q by) ≢ M.mark (after M p by)

-- The test says of two rows whether the set tells them apart.
record Decides (E : Events) (M : Machine) (test : ℕ → ℕ → Bool) (W : List ℕ → Type 0) : Type 0 where
  holds : (q p : ℕ) → q < M.rows → p < M.rows → test q p ≡ true → Same E M W q p
  fails : (q p : ℕ) → q < M.rows → p < M.rows → test q p ≡ false → Told E M W q p

module _ {E : Events} {M : Machine} {test : ℕ → ℕ → Bool} {W : List ℕ → Type 0} (d : Decides E M test W) where
  found : (q p : ℕ) → q < M.rows → p < M.rows → Same E M W q p → test q p ≡ true
  found q p hq hp n = elim (either (test q p)) [
    | inl e ↦ e
    | inr e ↦ (let t = d.fails q p hq hp e in absurd (t.differ (n t.by t.run t.within)))
  ]

  -- Such a test is an equivalence.
  equivalence : Equivalence M.rows test
  equivalence = record {
    self = λ q hq. found q q hq hq (λ w hw x. refl);
    flip = λ q p hq hp e. found p q hp hq (λ w hw x. sym (d.holds q p hq hp e w hw x));
    join = λ q p r hq hp hr e f. found q r hq hr (λ w hw x. d.holds q p hq hp e w hw x ∙ d.holds p r hp hr f w hw x);
  }

-- ---- rounds

-- The runs that, after at most j events picked by `light`, go on as `Base` says.
abbrev Late : (List ℕ → Type 0) → (ℕ → Bool) → ℕ → List ℕ → Type 0
Late Base light zero w = Base w
Late Base light (suc j) [] = Base []
Late Base light (suc j) (a ∷ w) = Base (a ∷ w) ⊎ ((light a ≡ true) × Late Base light j w)

module _ (E : Events) (M : Machine) (s : Sound E M) (Base : List ℕ → Type 0) (base : ℕ → ℕ → Bool) (light : ℕ → Bool) (d : Decides E M base Base) where
  late_base : (j : ℕ) (w : List ℕ) → Base w → Late Base light j w
  late_base zero w b = b
  late_base (suc j) [] b = b
  late_base (suc j) (a ∷ w) b = inl b

  late_more : (j : ℕ) (w : List ℕ) → Late Base light j w → Late Base light (suc j) w
  late_more zero w b = late_base 1 w b
  late_more (suc j) [] b = b
  late_more (suc j) (a ∷ w) (inl b) = inl b
  late_more (suc j) (a ∷ w) (inr h) = inr (h.0, late_more j w h.1)

  rounds_holds : (j q p : ℕ) → q < M.rows → p < M.rows → rounds E M base light j q p ≡ true → Same E M (Late Base light j) q p
  unfolding rounds
  rounds_holds zero q p hq hp e w hw x = d.holds q p hq hp e w hw x
  rounds_holds (suc j) q p hq hp e [] hw x = d.holds q p hq hp (and_left (base q p) _ e) [] hw x
  rounds_holds (suc j) q p hq hp e (a ∷ w) hw (inl b) = d.holds q p hq hp (and_left (base q p) _ e) (a ∷ w) hw b
  rounds_holds (suc j) q p hq hp e (a ∷ w) hw (inr h) =
      rounds_holds j (M.target q a) (M.target p a) (s.target_inside q a hq hw.0) (s.target_inside p a hp hw.0)
      (if_true (light a) _ (every-at E.count _ (and_right (base q p) _ e) a hw.0) h.0) w hw.1 h.1

  rounds_fails : (j q p : ℕ) → q < M.rows → p < M.rows → rounds E M base light j q p ≡ false → Told E M (Late Base light j) q p
  unfolding rounds
  rounds_fails zero q p hq hp e = d.fails q p hq hp e
  rounds_fails (suc j) q p hq hp e = elim (and_cases (base q p) _ e) [
    | inl f ↦ (let t = d.fails q p hq hp f in record { by = t.by; run = t.run; within = late_base (suc j) t.by t.within; differ = t.differ })
    | inr f ↦ (let a = every_fails E.count _ f in
        let l = if_false (light a.0) _ a.2 in
        let t = rounds_fails j (M.target q a.0) (M.target p a.0) (s.target_inside q a.0 hq a.1) (s.target_inside p a.0 hp a.1) l.1 in
        record { by = a.0 ∷ t.by; run = (a.1, t.run); within = inr (l.0, t.within); differ = t.differ })
  ]

  rounds_decides : (j : ℕ) → Decides E M (rounds E M base light j) (Late Base light j)
  rounds_decides j = record { holds = rounds_holds j; fails = rounds_fails j }

  -- Another round tells no more rows apart.
  Rest : ℕ → Type 0
  Rest j = (q p : ℕ) → q < M.rows → p < M.rows → Same E M (Late Base light j) q p → Same E M (Late Base light (suc j)) q p

  rest_last : (j : ℕ) → Rest j → Rest (suc j)
  unfolding Rest
  rest_last j r q p hq hp n [] hw x = n [] hw x
  rest_last j r q p hq hp n (a ∷ w) hw (inl b) = n (a ∷ w) hw (inl b)
  rest_last j r q p hq hp n (a ∷ w) hw (inr h) =
      r (M.target q a) (M.target p a) (s.target_inside q a hq hw.0) (s.target_inside p a hp hw.0) (λ v hv x. n (a ∷ v) (hw.0, hv) (inr (h.0, x))) w hw.1 h.1

  rest_stop : (j : ℕ) → classes M.rows (rounds E M base light (suc j)) ≤ classes M.rows (rounds E M base light j) → Rest j
  unfolding Rest
  rest_stop j h q p hq hp n = rounds_holds (suc j) q p hq hp (classes_same M.rows (rounds E M base light (suc j)) (rounds E M base light j)
      (equivalence (rounds_decides (suc j))) (equivalence (rounds_decides j))
      (λ x y hx hy e. found (rounds_decides j) x y hx hy (λ w hw l. rounds_holds (suc j) x y hx hy e w hw (late_more j w l)))
      h q p hq hp (found (rounds_decides j) q p hq hp n))

  rounds-rest : (j : ℕ) → M.rows ≤ suc j → Rest j
  rounds-rest = rests M.rows (λ j. classes M.rows (rounds E M base light j)) Rest
      (λ j. classes_some M.rows (rounds E M base light j) (omega (arith, s.start_inside))) (λ j. classes_bound M.rows (rounds E M base light j)) rest_stop rest_last

  rounds_on : (c q p : ℕ) → M.rows ≤ suc c → q < M.rows → p < M.rows → Same E M (Late Base light c) q p → (j : ℕ) → c ≤ j → Same E M (Late Base light j) q p
  unfolding Rest
  rounds_on c q p hc hq hp n = le_ind (λ j. Same E M (Late Base light j) q p) n (λ j h. rounds-rest j (omega arith) q p hq hp)

  late_on : (i j : ℕ) (w : List ℕ) → i ≤ j → Late Base light i w → Late Base light j w
  late_on i j w h x = le_ind (λ k. Late Base light k w) x (λ k l. late_more k w) j h

  -- Where the test holds with c rounds, no run that is ever late tells the rows apart.
  rounds-all : (c q p : ℕ) → M.rows ≤ suc c → q < M.rows → p < M.rows → rounds E M base light c q p ≡ true
      → (j : ℕ) → Same E M (Late Base light j) q p
  rounds-all c q p hc hq hp e j w hw x =
      rounds_on c q p hc hq hp (rounds_holds c q p hq hp e) (c + j) (omega arith) w hw (late_on j (c + j) w (omega arith) x)

-- ---- the runs of size L or more

-- no event, and any events before it: every run
abbrev Empty : List ℕ → Type 0
Empty [] = Unit {0}
Empty (a ∷ w) = ⊥

every_run : (w : List ℕ) → Late Empty (λ a. true) (length w) w
every_run [] = tt
every_run (a ∷ w) = inr (refl, every_run w)

-- an event of weight 1, then size L or more; and events of no weight before it
abbrev Counted : Events → ℕ → List ℕ → Type 0
Counted E L [] = ⊥
Counted E L (a ∷ w) = (eqb (E.weight a) 0 ≡ false) × (L ≤ size E w)

module _ (E : Events) (z : Light E) (L : ℕ) where
  weighs : (a : ℕ) → eqb (E.weight a) 0 ≡ false → E.weight a ≡ 1
  weighs a e = let h = eqb-false (E.weight a) 0 e in omega (arith, z.at_most a)

  long_late : (w : List ℕ) → suc L ≤ size E w → Late (Counted E L) (λ a. eqb (E.weight a) 0) (length w) w
  long_late [] h = absurd (omega arith)
  long_late (a ∷ w) h = pick (either (eqb (E.weight a) 0)) (long_late w)
    where
      pick : (eqb (E.weight a) 0 ≡ true) ⊎ (eqb (E.weight a) 0 ≡ false) → (suc L ≤ size E w → Late (Counted E L) (λ a. eqb (E.weight a) 0) (length w) w)
          → Late (Counted E L) (λ a. eqb (E.weight a) 0) (suc (length w)) (a ∷ w)
      pick (inl e) ih = inr (e, ih (omega (arith, eqb-true (E.weight a) 0 e)))
      pick (inr e) ih = inl (e, omega (arith, weighs a e))

  late_long : (j : ℕ) (w : List ℕ) → Late (Counted E L) (λ a. eqb (E.weight a) 0) j w → suc L ≤ size E w
  late_long zero [] x = absurd x
  late_long zero (a ∷ w) x = omega (arith, weighs a x.0)
  late_long (suc j) [] x = absurd x
  late_long (suc j) (a ∷ w) (inl x) = omega (arith, weighs a x.0)
  late_long (suc j) (a ∷ w) (inr x) = omega (arith, late_long j w x.1)

-- ---- near

-- The runs of size L or more.
abbrev pub Long : Events → ℕ → List ℕ → Type 0
Long E L w = L ≤ size E w

module _ (E : Events) (M : Machine) (s : Sound E M) (z : Light E) (c : ℕ) (enough : M.rows ≤ suc c) where
  marks_decide : Decides E M (λ q p. eqb (M.mark q) (M.mark p)) Empty
  marks_decide = record {
    holds = λ q p hq hp e w. pick q p (eqb-true (M.mark q) (M.mark p) e) w;
    fails = λ q p hq hp e. record { by = []; run = tt; within = tt; differ = eqb-false (M.mark q) (M.mark p) e };
  }
    where
      pick : (q p : ℕ) → M.mark q ≡ M.mark p → (w : List ℕ) → Run E w → Empty w → M.mark (after M q w) ≡ M.mark (after M p w)
      pick q p e [] hw x = e
      pick q p e (a ∷ w) hw x = absurd x

  after_decides : (L : ℕ) (test : ℕ → ℕ → Bool) → Decides E M test (Long E L)
      → Decides E M (λ q p. every E.count (λ a. elim (eqb (E.weight a) 0) [ true ↦ true | false ↦ test (M.target q a) (M.target p a) ])) (Counted E L)
  after_decides L test d = record {
    holds = λ q p hq hp e w. pick q p hq hp e w;
    fails = λ q p hq hp e.
        let a = every_fails E.count _ e in
        let h = unless_false (eqb (E.weight a.0) 0) _ a.2 in
        let t = d.fails (M.target q a.0) (M.target p a.0) (s.target_inside q a.0 hq a.1) (s.target_inside p a.0 hp a.1) h.1 in
        record { by = a.0 ∷ t.by; run = (a.1, t.run); within = (h.0, t.within); differ = t.differ };
  }
    where
      pick : (q p : ℕ) → q < M.rows → p < M.rows → every E.count (λ a. elim (eqb (E.weight a) 0) [ true ↦ true | false ↦ test (M.target q a) (M.target p a) ]) ≡ true
          → (w : List ℕ) → Run E w → Counted E L w → M.mark (after M q w) ≡ M.mark (after M p w)
      pick q p hq hp e [] hw x = absurd x
      pick q p hq hp e (a ∷ w) hw x = d.holds (M.target q a) (M.target p a) (s.target_inside q a hq hw.0) (s.target_inside p a hp hw.0)
          (unless_true (eqb (E.weight a) 0) _ (every-at E.count _ e a hw.0) x.0) w hw.1 x.1

  near_decides : (L : ℕ) → Decides E M (near E M c L) (Long E L)
  unfolding near
  near_decides zero = record {
    holds = λ q p hq hp e w hw hl. rounds-all E M s Empty _ (λ a. true) marks_decide c q p enough hq hp e (length w) w hw (every_run w);
    fails = λ q p hq hp e.
        let t = rounds_fails E M s Empty _ (λ a. true) marks_decide c q p hq hp e in
        record { by = t.by; run = t.run; within = omega arith; differ = t.differ };
  }
  near_decides (suc L) =
      let d = after_decides L (near E M c L) (near_decides L) in
      record {
        holds = λ q p hq hp e w hw hl. rounds-all E M s (Counted E L) _ (λ a. eqb (E.weight a) 0) d c q p enough hq hp e (length w) w hw (long_late E z L w hl);
        fails = λ q p hq hp e.
            let t = rounds_fails E M s (Counted E L) _ (λ a. eqb (E.weight a) 0) d c q p hq hp e in
            record { by = t.by; run = t.run; within = late_long E z L c t.by t.within; differ = t.differ };
      }

  pub near_holds : (L q p : ℕ) → q < M.rows → p < M.rows → near E M c L q p ≡ true → Near E M M L q p
  near_holds L q p hq hp e = record { same = (near_decides L).holds q p hq hp e }

  pub near-found : (L q p : ℕ) → q < M.rows → p < M.rows → Near E M M L q p → near E M c L q p ≡ true
  near-found L q p hq hp n = found (near_decides L) q p hq hp n.same

  pub near_fails : (L q p : ℕ) → q < M.rows → p < M.rows → near E M c L q p ≡ false → Told E M (Long E L) q p
  near_fails L = (near_decides L).fails

  -- ---- the chain of `Near` comes to rest

  Settled : ℕ → Type 0
  Settled L = (q p : ℕ) → q < M.rows → p < M.rows → Near E M M (suc L) q p → Near E M M L q p

  settled_run : (L : ℕ) → Settled L → (w : List ℕ) (q p : ℕ) → q < M.rows → p < M.rows → Near E M M (suc (suc L)) q p → Run E w → suc L ≤ size E w
      → M.mark (after M q w) ≡ M.mark (after M p w)
  unfolding Settled
  settled_run L st [] q p hq hp n hw hl = absurd (omega arith)
  settled_run L st (a ∷ w) q p hq hp n hw hl = pick (either (eqb (E.weight a) 0)) (settled_run L st w (M.target q a) (M.target p a) hq' hp')
    where
      hq' : M.target q a < M.rows
      hq' = s.target_inside q a hq hw.0

      hp' : M.target p a < M.rows
      hp' = s.target_inside p a hp hw.0

      pick : (eqb (E.weight a) 0 ≡ true) ⊎ (eqb (E.weight a) 0 ≡ false)
          → (Near E M M (suc (suc L)) (M.target q a) (M.target p a) → Run E w → suc L ≤ size E w → M.mark (after M q (a ∷ w)) ≡ M.mark (after M p (a ∷ w)))
          → M.mark (after M q (a ∷ w)) ≡ M.mark (after M p (a ∷ w))
      pick (inl e) ih =
          let h = eqb-true (E.weight a) 0 e in
          ih (near_up (omega arith) (near_step a hw.0 n)) hw.1 (omega arith)
      pick (inr e) ih =
          let h = weighs E z L a e in
          (st (M.target q a) (M.target p a) hq' hp' (near_up (omega arith) (near_step a hw.0 n))).same w hw.1 (omega arith)

  settled_stop : (L : ℕ) → suc M.rows - classes M.rows (near E M c (suc L)) ≤ suc M.rows - classes M.rows (near E M c L) → Settled L
  unfolding Settled
  settled_stop L h q p hq hp n = near_holds L q p hq hp (classes_same M.rows (near E M c L) (near E M c (suc L))
      (equivalence (near_decides L)) (equivalence (near_decides (suc L)))
      (λ x y hx hy e. near-found (suc L) x y hx hy (near_up (omega arith) (near_holds L x y hx hy e)))
      (omega (arith, classes_bound M.rows (near E M c L), classes_bound M.rows (near E M c (suc L)))) q p hq hp (near-found (suc L) q p hq hp n))

  settled : (L : ℕ) → M.rows ≤ suc L → Settled L
  unfolding Settled
  settled = rests M.rows (λ L. suc M.rows - classes M.rows (near E M c L)) Settled
      (λ L. omega (arith, classes_bound M.rows (near E M c L)))
      (λ L. omega (arith, classes_some M.rows (near E M c L) (omega (arith, s.start_inside))))
      settled_stop last
    where
      last : (L : ℕ) → Settled L → Settled (suc L)
      last L st q p hq hp n = record { same = λ w hw hl. settled_run L st w q p hq hp n hw hl }

  near_down : (i L q p : ℕ) → M.rows ≤ suc L → q < M.rows → p < M.rows → Near E M M (i + L) q p → Near E M M L q p
  unfolding Settled
  near_down zero L q p h hq hp n = near_up (omega arith) n
  near_down (suc i) L q p h hq hp n = near_down i L q p h hq hp (settled (i + L) (omega arith) q p hq hp (near_up (omega arith) n))

  -- A finite distance is below the number of rows.
  pub near_bound : (L q p : ℕ) → q < M.rows → p < M.rows → Near E M M L q p → Near E M M (M.rows - 1) q p
  near_bound L q p hq hp n = near_down L (M.rows - 1) q p (omega arith) hq hp (near_up (omega arith) n)
