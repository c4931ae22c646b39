-- Laws of the search over a graph: which places are met level by level, and what the last level tells of those before it.
use mathlib.Core.Path.{◌≡◌, sym, ap, subst, ◌∙◌}
use mathlib.Core.Logic.{◌⊎◌, inl, inr}
use Prim.Native.Nat.{ℕ, zero, suc, ◌+◌, ◌-◌, ◌≤◌, ◌<◌}
use native.Mathlib.Omega.{arith}
use native.Mathlib.Decide.{ℕ_discrete, dec_lt}
use Rattle.ordering.specs.Found.{Graph, Inside, first_found, found_at, Met, Wider}
use Rattle.ordering.proofs.First.{found_none, found_same, found_some}

module _ {G : Graph} {start L : ℕ} {level : ℕ → ℕ} (g : Met G start L level) (inside : Inside G) where
  -- Where nothing is told up to a level H, no run that stays within it finds anything.
  found_within : (H : ℕ) → H ≤ L → ((k i : ℕ) → k < G.places → level k ≡ suc i → i ≤ H → G.mark k ≡ 0)
      → (n k i : ℕ) → k < G.places → level k ≡ suc i → i + n ≤ H → found_at G n k ≡ 0
  unfolding found_at
  found_within H hH quiet zero k i hk e h = quiet k i hk e (omega arith)
  found_within H hH quiet (suc n) k i hk e h = found_none G.count _ (λ a ha.
      let next = g.goes k i a hk e (omega arith) ha in
      let x : ℕ = level (G.step k a) in
      found_within H hH quiet n (G.step k a) (x - 1) (inside k a hk ha) (omega (arith, next.0)) (omega (arith, next.0, next.1)))

  -- Runs that end before level L find nothing;
  pub found_before : (n k i : ℕ) → k < G.places → level k ≡ suc i → i + n < L → found_at G n k ≡ 0
  found_before n k i hk e h = found_within (L - 1) (omega arith) (λ y j hy f l. g.quiet y j hy f (omega arith)) n k i hk e (omega arith)

  -- nor do those that end at it, if nothing is told there.
  pub found_upto : ((k : ℕ) → k < G.places → level k ≡ suc L → G.mark k ≡ 0) → (n k i : ℕ) → k < G.places → level k ≡ suc i → i + n ≤ L → found_at G n k ≡ 0
  found_upto top = found_within L (omega arith) quiet
    where
      quiet : (k i : ℕ) → k < G.places → level k ≡ suc i → i ≤ L → G.mark k ≡ 0
      quiet k i hk e l = elim (dec_lt i L) [ yes h ↦ g.quiet k i hk e h | no h ↦ top k hk (omega arith) ]

  -- What is found from a place that is met is found from the start, by runs that are as much longer.
  pub found_start : (i n k : ℕ) → k < G.places → level k ≡ suc i → ¬ (found_at G n k ≡ 0) → ¬ (found_at G (i + n) start ≡ 0)
  unfolding found_at
  found_start zero n k hk e t =
      let m : 0 + n ≡ n = omega arith in
      λ f. t (ap (found_at G n) (g.only k hk e) ∙ ap (λ (j : ℕ). found_at G j start) (sym m) ∙ f)
  found_start (suc i) n k hk e t =
      let c = g.came k i hk e in
      let y : ℕ = c.0 in
      let a : ℕ = c.3.0 in
      let there = found_some G.count (λ b. found_at G n (G.step y b)) a c.3.1 (λ f. t (ap (found_at G n) (sym c.3.2) ∙ f)) in
      let m : suc i + n ≡ i + suc n = omega arith in
      λ f. found_start i (suc n) y c.1 c.2 there (ap (λ (j : ℕ). found_at G j start) (sym m) ∙ f)

  -- What the runs from a place of level i find is what those from the places of level i + 1 do: from all others nothing is found.
  pub found_back : (k i n : ℕ) → k < G.places → level k ≡ suc i → i + suc n ≡ L → (f : ℕ → ℕ)
      → ((a : ℕ) → a < G.count → level (G.step k a) ≡ suc (suc i) → f a ≡ found_at G n (G.step k a))
      → ((a : ℕ) → a < G.count → ¬ (level (G.step k a) ≡ suc (suc i)) → f a ≡ 0) → first_found G.count f ≡ found_at G (suc n) k
  unfolding found_at
  found_back k i n hk e h f there none = found_same G.count f (λ a. found_at G n (G.step k a)) (λ a ha. elim (ℕ_discrete (level (G.step k a)) (suc (suc i))) [
    | yes l ↦ there a ha l
    | no l ↦
        let next = g.goes k i a hk e (omega arith) ha in
        let x : ℕ = level (G.step k a) in
        none a ha l ∙ sym (found_before n (G.step k a) (x - 1) (inside k a hk ha) (omega (arith, next.0)) (omega (arith, next.0, next.1)))
  ])

-- ---- level by level

module _ {G : Graph} {start : ℕ} (hs : start < G.places) where
  -- At first only the start is met.
  pub met-first : {level : ℕ → ℕ} → level start ≡ 1 → ((k : ℕ) → k < G.places → ¬ (k ≡ start) → level k ≡ 0) → Met G start 0 level
  met-first {level} one none = record {
    begins = one;
    only = λ k hk e. elim (ℕ_discrete k start) [ yes h ↦ h | no h ↦ absurd (omega (arith, none k hk h)) ];
    came = λ k i hk e. absurd (omega (arith, small k hk));
    at_most = λ k hk. small k hk;
    goes = λ k i a hk e h ha. absurd (omega arith);
    quiet = λ k i hk e h. absurd (omega arith);
  }
    where
      small : (k : ℕ) → k < G.places → level k ≤ 1
      small k hk = elim (ℕ_discrete k start) [ yes h ↦ subst (λ (x : ℕ). level x ≤ 1) (sym h) (omega (arith, one)) | no h ↦ omega (arith, none k hk h) ]

  -- If nothing stands at level L, nothing more is met.
  pub met-rest : {L : ℕ} {level : ℕ → ℕ} → Met G start L level → ((k : ℕ) → k < G.places → ¬ (level k ≡ suc L)) → (K : ℕ) → L ≤ K → Met G start K level
  met-rest {L} {level} g none K l = record {
    begins = g.begins;
    only = g.only;
    came = g.came;
    at_most = λ k hk. omega (arith, g.at_most k hk);
    goes = λ k i a hk e h ha. g.goes k i a hk e (less k i hk e) ha;
    quiet = λ k i hk e h. g.quiet k i hk e (less k i hk e);
  }
    where
      less : (k i : ℕ) → k < G.places → level k ≡ suc i → i < L
      less k i hk e = elim (ℕ_discrete i L) [ yes h ↦ absurd (none k hk (e ∙ ap suc h)) | no h ↦ omega (arith, g.at_most k hk) ]

  -- Only the levels count.
  pub met_same : {L : ℕ} {level other : ℕ → ℕ} → Inside G → Met G start L level → ((k : ℕ) → k < G.places → other k ≡ level k) → Met G start L other
  met_same {L} {level} {other} inside g e = record {
    begins = e start hs ∙ g.begins;
    only = λ k hk f. g.only k hk (sym (e k hk) ∙ f);
    came = λ k i hk f. (let c = g.came k i hk (sym (e k hk) ∙ f) in (c.0, c.1, e c.0 c.1 ∙ c.2, c.3));
    at_most = λ k hk. omega (arith, e k hk, g.at_most k hk);
    goes = λ k i a hk f h ha. (let c = g.goes k i a hk (sym (e k hk) ∙ f) h ha in
        let d = e (G.step k a) (inside k a hk ha) in (omega (arith, c.0, d), omega (arith, c.1, d)));
    quiet = λ k i hk f h. g.quiet k i hk (sym (e k hk) ∙ f) h;
  }

  -- A sweep over level L, at which nothing is told, meets those of the next.
  module _ {L : ℕ} {level wider : ℕ → ℕ} (inside : Inside G) (g : Met G start L level) (top : (k : ℕ) → k < G.places → level k ≡ suc L → G.mark k ≡ 0) (w : Wider G L level wider) where
    -- A place was met before, or is new.
    was : (k i : ℕ) → k < G.places → wider k ≡ suc i → (level k ≡ suc i) ⊎ ((level k ≡ 0) × (i ≡ suc L))
    was k i hk e = elim (ℕ_discrete (level k) 0) [
      | yes z ↦ inr (z, omega (arith, e, (w.new k hk z (omega (arith, e))).0))
      | no z ↦ inl (sym (w.kept k hk (omega arith)) ∙ e)
    ]

    earlier : (k i : ℕ) → k < G.places → wider k ≡ suc i → i < suc L → level k ≡ suc i
    earlier k i hk e h = elim (was k i hk e) [ inl f ↦ f | inr f ↦ absurd (omega (arith, f.1)) ]

    stays : (k i : ℕ) → k < G.places → level k ≡ suc i → wider k ≡ suc i
    stays k i hk e = w.kept k hk (omega arith) ∙ e

    bounded : (k : ℕ) → k < G.places → wider k ≤ suc (suc L)
    bounded k hk = elim (dec_lt 0 (level k)) [
      | yes h ↦ omega (arith, w.kept k hk h, g.at_most k hk)
      | no h ↦ elim (dec_lt 0 (wider k)) [ yes l ↦ omega (arith, (w.new k hk (omega arith) l).0) | no l ↦ omega arith ]
    ]

    abbrev CameFrom : ℕ → ℕ → Type 0
    CameFrom k i = (y : ℕ) × (y < G.places) × (wider y ≡ suc i) × ((a : ℕ) × (a < G.count) × (G.step y a ≡ k))

    came-next : (k i : ℕ) → k < G.places → wider k ≡ suc (suc i) → CameFrom k i
    came-next k i hk e = elim (was k (suc i) hk e) [
      | inl f ↦ (let c = g.came k i hk f in (c.0, c.1, stays c.0 i c.1 c.2, c.3))
      | inr f ↦ (let c = (w.new k hk f.0 (omega (arith, e))).1 in (c.0, c.1, stays c.0 L c.1 c.2 ∙ omega (arith, f.1), c.3))
    ]

    goes-next : (k i a : ℕ) → k < G.places → wider k ≡ suc i → i < suc L → a < G.count → (0 < wider (G.step k a)) × (wider (G.step k a) ≤ suc (suc i))
    goes-next k i a hk e h ha = elim (dec_lt i L) [
      | yes l ↦ (let c = g.goes k i a hk (earlier k i hk e h) l ha in
          let d = w.kept (G.step k a) (inside k a hk ha) c.0 in (omega (arith, c.0, d), omega (arith, c.1, d)))
      | no l ↦ (w.all k a hk (earlier k i hk e h ∙ omega arith) ha, omega (arith, bounded (G.step k a) (inside k a hk ha)))
    ]

    pub met_next : Met G start (suc L) wider
    met_next = record {
      begins = stays start 0 hs g.begins;
      only = λ k hk e. g.only k hk (earlier k 0 hk e (omega arith));
      came = came-next;
      at_most = bounded;
      goes = goes-next;
      quiet = λ k i hk e h. elim (dec_lt i L) [
        | yes l ↦ g.quiet k i hk (earlier k i hk e h) l
        | no l ↦ top k hk (earlier k i hk e h ∙ omega arith)
      ];
    }
