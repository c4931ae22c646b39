-- First events found in rounds over the length of the chosen run in all its events. A round gives an unsettled pair the lowest event that leads to a
-- pair settled before the round at the distance less the event's weight. When a round settles nothing, every pair is settled.
use mathlib.Core.Path.{◌≡◌, refl, sym, ap, subst, ◌∙◌}
use mathlib.Core.List.{List, [], ◌∷◌}
use mathlib.Core.Logic.{◌⊎◌, inl, inr}
use Prim.Native.Nat.{ℕ, suc, ◌+◌, ◌-◌, ◌≤◌, ◌<◌}
use native.Mathlib.Omega.{arith}
use native.Mathlib.Decide.{dec_le}
use lib.ListN.{length}
use Rattle.automata.specs.Runs.{Events, Machine, Sound, Light, size, Len, len, IsDistance}
use Rattle.tables.proofs.Lengths.{distance-one}
use Rattle.chosen.specs.declared.First.{First}
use Rattle.chosen.specs.declared.First.TheVariants.{Unsettled, End, Event}
use Rattle.chosen.specs.Choice.{Tells, IsChosen, head_of}
use Rattle.chosen.specs.Rounds.{Stage, Ready, Turn}
use Rattle.chosen.proofs.Orders.{compare}
use Rattle.chosen.proofs.Search.{tells_more}
use Rattle.chosen.proofs.Steps.{end-chosen, chosen-end, chosen-rest, chosen_distant, chosen_exists}
use Rattle.chosen.proofs.Bound.{chosen_short}

pub head_settled : {A : Type 0} {x : First} (w : List ℕ) → x ≡ head_of w → x ≡ Unsettled → A
head_settled {x} [] e f = let g : ◌≡◌ {A = ℕ} 0 1 = cc in absurd (omega arith)
head_settled {x} (a ∷ w) e f = let g : ◌≡◌ {A = ℕ} 0 1 = cc in absurd (omega arith)

len-one : {x : Len} {c d : ℕ} → x ≡ len c → x ≡ len d → c ≡ d
len-one e f = cc

module _ (E : Events) (M : Machine) (D : ℕ → ℕ → Len) where
  -- Where D, F and F' are the same both ways round, and a row has nothing with itself, the pairs of the triangle are enough.
  module _ (s : Sound E M) (F F' : ℕ → ℕ → First) (flip-D : (q p : ℕ) → q < M.rows → p < M.rows → D q p ≡ D p q) (flip-F : (q p : ℕ) → F q p ≡ F p q)
      (flip-F' : (q p : ℕ) → F' q p ≡ F' p q) (own-F : (q : ℕ) → F q q ≡ Unsettled) (own-F' : (q : ℕ) → F' q q ≡ Unsettled) where
    ready-flip : (q p d a : ℕ) → q < M.rows → p < M.rows → Ready E M D F q p d a → Ready E M D F p q d a
    ready-flip q p d a hq hp r = (r.0, λ o. r.1 (flip-F _ _ ∙ o), flip-D _ _ (s.target_inside p a hp r.0) (s.target_inside q a hq r.0) ∙ r.2)

    turn-flip : (q p : ℕ) → q < M.rows → p < M.rows → Turn E M D F F' q p → Turn E M D F F' p q
    turn-flip q p hq hp (inl y) = inl (λ o. y.0 (flip-F q p ∙ o), flip-F' p q ∙ y.1 ∙ flip-F q p)
    turn-flip q p hq hp (inr (inl y)) = inr (inl (
      y.0,
      y.1,
      flip-F p q ∙ y.2,
      flip-D p q hp hq ∙ y.3,
      ready-flip q p y.0 y.1 hq hp y.4,
      λ b h r. y.5 b h (ready-flip p q y.0 b hp hq r),
      flip-F' p q ∙ y.6,
    ))
    turn-flip q p hq hp (inr (inr y)) = inr (inr (flip-F p q ∙ y.0, flip-F' p q ∙ y.1, λ d b e r. y.2 d b (flip-D q p hq hp ∙ e) (ready-flip p q d b hp hq r)))

    turn-own : (q : ℕ) → Turn E M D F F' q q
    turn-own q = inr (inr (own-F q, own-F' q, λ d b e r. r.1 (own-F (M.target q b))))

    pub turn-triangle : ((q p : ℕ) → q < M.rows → p < q → Turn E M D F F' q p) → (q p : ℕ) → q < M.rows → p < M.rows → Turn E M D F F' q p
    turn-triangle h q p hq hp = elim (compare p q) [
      | inl l ↦ h q p hq l
      | inr r ↦ elim r [
        | inl e ↦ subst (λ (x : ℕ). Turn E M D F F' q x) (sym e) (turn-own q)
        | inr l ↦ turn-flip p q hp hq (h p q hp l)
      ]
    ]

  size_most : Light E → (w : List ℕ) → size E w ≤ length w
  size_most z [] = omega arith
  size_most z (a ∷ w) = omega (arith, z.at_most a, size_most z w)

  module _ (s : Sound E M) (z : Light E) (right : (q p : ℕ) → q < M.rows → p < M.rows → IsDistance E M q p (D q p)) where
    distant : {q p d : ℕ} → q < M.rows → p < M.rows → D q p ≡ len d → IsDistance E M q p (len d)
    distant {q} {p} hq hp e = subst (IsDistance E M q p) e (right q p hq hp)

    rest-distance : {q p d : ℕ} (a : ℕ) (v : List ℕ) → q < M.rows → p < M.rows → D q p ≡ len d → IsChosen E M q p d (a ∷ v)
        → D (M.target q a) (M.target p a) ≡ len (d - E.weight a)
    rest-distance {q} {p} a v hq hp e x =
        let ha = x.tells.run.0 in
        distance-one E M _ _ _ _ (right _ _ (s.target_inside q a hq ha) (s.target_inside p a hp ha)) (chosen_distant (distant hq hp e).0 ha (chosen-rest x))

    -- Round 0: the pairs of distance 1 whose marks differ are settled.
    pub stage-first : (F : ℕ → ℕ → First)
        → ((q p : ℕ) → q < M.rows → p < M.rows → ((D q p ≡ len 1) × (¬ (M.mark q ≡ M.mark p)) × (F q p ≡ End))
        ⊎ ((¬ ((D q p ≡ len 1) × (¬ (M.mark q ≡ M.mark p)))) × (F q p ≡ Unsettled))) → Stage E M D F 0
    stage-first F h = record {
      settled = λ q p d w hq hp e x l. elim (h q p hq hp) [
        | inl y ↦ y.2 ∙ ap head_of (sym (empty w l))
        | inr y ↦ absurd (y.0 (ended d w e x l))
      ];
      later = λ q p d w hq hp e x l. elim (h q p hq hp) [
        | inl y ↦ absurd (omega (arith, x.shortest [] (end-chosen (len-one e y.0) y.1).tells))
        | inr y ↦ y.1
      ];
      never = λ q p hq hp n. elim (h q p hq hp) [ inl y ↦ absurd (omega (arith, n 1 y.0)) | inr y ↦ y.1 ];
    }
      where
        empty : (w : List ℕ) → length w ≤ 0 → w ≡ []
        empty [] l = refl
        empty (a ∷ w) l = absurd (omega arith)

        ended : {q p : ℕ} (d : ℕ) (w : List ℕ) → D q p ≡ len d → IsChosen E M q p d w → length w ≤ 0 → (D q p ≡ len 1) × (¬ (M.mark q ≡ M.mark p))
        ended d [] e x l = let y = chosen-end.0 x in (e ∙ ap len y.0, y.1)
        ended d (a ∷ w) e x l = absurd (omega arith)

    module _ (F : ℕ → ℕ → First) (l : ℕ) (g : Stage E M D F l) where
      -- An event that is ready begins a run that tells, of at most l + 1 events.
      ready-run : (q p d b : ℕ) → q < M.rows → p < M.rows → Ready E M D F q p d b → (u : List ℕ) × Tells E M q p d (b ∷ u) × (length u ≤ l)
      ready-run q p d b hq hp r = elim (dec_le (d - E.weight b) 0) [
        | yes h ↦ absurd (r.1 (g.never _ _ hq' hp' (λ c e. omega (arith, len-one e r.2))))
        | no h ↦
            let x = chosen_exists s z hq' hp' (distant hq' hp' r.2) (omega arith) in
            elim (dec_le (length x.0) l) [
              | yes k ↦ (x.0, tells_more r.0 x.1.tells, k)
              | no k ↦ absurd (r.1 (g.later _ _ _ x.0 hq' hp' r.2 x.1 (omega arith)))
            ]
      ]
        where
          hq' : M.target q b < M.rows
          hq' = s.target_inside q b hq r.0

          hp' : M.target p b < M.rows
          hp' = s.target_inside p b hp r.0

      -- The first event of a chosen run is ready if the rest is settled.
      run-ready : (q p d a : ℕ) (v : List ℕ) → q < M.rows → p < M.rows → D q p ≡ len d → IsChosen E M q p d (a ∷ v)
          → F (M.target q a) (M.target p a) ≡ head_of v → Ready E M D F q p d a
      run-ready q p d a v hq hp e x f = (x.tells.run.0, λ o. head_settled v f o, rest-distance a v hq hp e x)

      -- A ready event is no lower than the first event of the chosen run, and that run has at most l + 1 events.
      ready-least : (q p d b : ℕ) (w : List ℕ) → q < M.rows → p < M.rows → IsChosen E M q p d w → Ready E M D F q p d b → length w ≤ suc l
      ready-least q p d b w hq hp x r = let u = ready-run q p d b hq hp r in omega (arith, x.shortest (b ∷ u.0) u.1, u.2)

      ready-lowest : (q p d a b : ℕ) (v : List ℕ) → q < M.rows → p < M.rows → IsChosen E M q p d (a ∷ v) → length v ≡ l → Ready E M D F q p d b → a ≤ b
      ready-lowest q p d a b v hq hp x e r =
          let u = ready-run q p d b hq hp r in
          elim (dec_le a b) [
            | yes h ↦ h
            | no h ↦ absurd (x.lowest (b ∷ u.0) u.1 (omega (arith, x.shortest (b ∷ u.0) u.1, u.2)) (inl (omega arith)))
          ]

      -- No event is ready where the distance is 0 or endless.
      pub never-ready : (q p d b : ℕ) → q < M.rows → p < M.rows → d ≡ 0 → ¬ Ready E M D F q p d b
      never-ready q p d b hq hp e r = let u = ready-run q p d b hq hp r in omega (arith, u.1.counted)

      -- Where an event is ready, the distance is at most two more than the rounds so far: a run has no fewer events than counted ones.
      pub ready-few : (q p d b : ℕ) → q < M.rows → p < M.rows → Ready E M D F q p d b → d ≤ l + 2
      ready-few q p d b hq hp r =
          let u = ready-run q p d b hq hp r in
          omega (arith, u.1.counted, size_most z (b ∷ u.0), u.2)

      -- The distance can be had from where a ready event leads.
      pub ready-distance : (q p d b e : ℕ) → q < M.rows → p < M.rows → Ready E M D F q p d b → D (M.target q b) (M.target p b) ≡ len e → e + E.weight b ≡ d
      ready-distance q p d b e hq hp r h =
          let u = ready-run q p d b hq hp r in
          omega (arith, u.1.counted, len-one h r.2)

      -- ---- the next round
      module _ (F' : ℕ → ℕ → First) (turn : (q p : ℕ) → q < M.rows → p < M.rows → Turn E M D F F' q p) where
        -- what is settled stays so, and what has no ready event stays unsettled
        stays : (q p : ℕ) (w : List ℕ) → q < M.rows → p < M.rows → F q p ≡ head_of w → F' q p ≡ head_of w
        stays q p w hq hp e = elim (turn q p hq hp) [
          | inl y ↦ y.1 ∙ e
          | inr r ↦ elim r [ inl y ↦ head_settled w e y.2 | inr y ↦ head_settled w e y.0 ]
        ]

        waits : (q p : ℕ) → q < M.rows → p < M.rows → F q p ≡ Unsettled → ((d b : ℕ) → D q p ≡ len d → ¬ Ready E M D F q p d b) → F' q p ≡ Unsettled
        waits q p hq hp e n = elim (turn q p hq hp) [
          | inl y ↦ absurd (y.0 e)
          | inr r ↦ elim r [ inl y ↦ absurd (n y.0 y.1 y.3 y.4) | inr y ↦ y.1 ]
        ]

        takes : (q p d a : ℕ) → q < M.rows → p < M.rows → D q p ≡ len d → F q p ≡ Unsettled → Ready E M D F q p d a
            → ((b : ℕ) → Ready E M D F q p d b → a ≤ b) → F' q p ≡ Event a
        takes q p d a hq hp e o r low = elim (turn q p hq hp) [
          | inl y ↦ absurd (y.0 o)
          | inr t ↦ elim t [
            | inl y ↦ y.6 ∙ ap Event (first y.0 y.1 (len-one y.3 e) y.4 y.5)
            | inr y ↦ absurd (y.2 d a e r)
          ]
        ]
          where
            first : (d' a' : ℕ) → d' ≡ d → Ready E M D F q p d' a' → ((b : ℕ) → b < a' → ¬ Ready E M D F q p d' b) → a' ≡ a
            first d' a' i r' low' = elim (compare a' a) [
              | inl h ↦ absurd (omega (arith, low a' (subst (λ (c : ℕ). Ready E M D F q p c a') i r')))
              | inr t ↦ elim t [ inl h ↦ h | inr h ↦ absurd (low' a h (subst (λ (c : ℕ). Ready E M D F q p c a) (sym i) r)) ]
            ]

        next-settled : (q p d : ℕ) (w : List ℕ) → q < M.rows → p < M.rows → D q p ≡ len d → IsChosen E M q p d w → length w ≤ suc l → F' q p ≡ head_of w
        next-settled q p d w hq hp e x h = elim (dec_le (length w) l) [
          | yes k ↦ stays q p w hq hp (g.settled q p d w hq hp e x k)
          | no k ↦ new w x (omega arith)
        ]
          where
            new : (w : List ℕ) → IsChosen E M q p d w → length w ≡ suc l → F' q p ≡ head_of w
            new [] x k = absurd (omega arith)
            new (a ∷ v) x k =
                let ha = x.tells.run.0 in
                let f = g.settled _ _ _ v (s.target_inside q a hq ha) (s.target_inside p a hp ha) (rest-distance a v hq hp e x) (chosen-rest x) (omega arith) in
                takes q p d a hq hp e (g.later q p d (a ∷ v) hq hp e x (omega arith)) (run-ready q p d a v hq hp e x f)
                (λ b r. ready-lowest q p d a b v hq hp x (omega arith) r)

        pub stage-next : Stage E M D F' (suc l)
        stage-next = record {
          settled = next-settled;
          later = λ q p d w hq hp e x h. waits q p hq hp (g.later q p d w hq hp e x (omega arith))
              (λ d' b e' r. omega (arith, ready-least q p d b w hq hp x (subst (λ (c : ℕ). Ready E M D F q p c b) (len-one e' e) r)));
          never = λ q p hq hp n. waits q p hq hp (g.never q p hq hp n) (λ d b e. never-ready q p d b hq hp (n d e));
        }

      -- ---- the last round

      -- Where no unsettled pair has a ready event, every pair with a chosen run is settled by it.
      pub stage-last : ((q p d b : ℕ) → q < M.rows → p < M.rows → F q p ≡ Unsettled → D q p ≡ len d → ¬ Ready E M D F q p d b)
          → (w : List ℕ) (q p d : ℕ) → q < M.rows → p < M.rows → D q p ≡ len d → IsChosen E M q p d w → F q p ≡ head_of w
      stage-last none [] q p d hq hp e x = g.settled q p d [] hq hp e x (omega arith)
      stage-last none (a ∷ v) q p d hq hp e x =
          let ha = x.tells.run.0 in
          let f = stage-last none v _ _ _ (s.target_inside q a hq ha) (s.target_inside p a hp ha) (rest-distance a v hq hp e x) (chosen-rest x) in
          elim (dec_le (suc (length v)) l) [
            | yes k ↦ g.settled q p d (a ∷ v) hq hp e x k
            | no k ↦ absurd (none q p d a hq hp (g.later q p d (a ∷ v) hq hp e x (omega arith)) e (run-ready q p d a v hq hp e x f))
          ]

      -- So it is after a round that changes nothing,
      pub stage-still : (F' : ℕ → ℕ → First) → ((q p : ℕ) → q < M.rows → p < M.rows → Turn E M D F F' q p)
          → ((q p : ℕ) → q < M.rows → p < M.rows → F' q p ≡ F q p)
          → (w : List ℕ) (q p d : ℕ) → q < M.rows → p < M.rows → D q p ≡ len d → IsChosen E M q p d w → F q p ≡ head_of w
      stage-still F' turn same = stage-last (λ q p d b hq hp o e r. elim (turn q p hq hp) [
        | inl y ↦ y.0 o
        | inr t ↦ elim t [
          | inl y ↦ head_settled (y.1 ∷ []) (sym (same q p hq hp) ∙ y.6) o
          | inr y ↦ y.2 d b e r
        ]
      ])

      -- and after round rows - 2.
      pub stage-all : M.rows ≤ l + 2 → (w : List ℕ) (q p d : ℕ) → q < M.rows → p < M.rows → D q p ≡ len d → IsChosen E M q p d w → F q p ≡ head_of w
      stage-all h w q p d hq hp e x =
          let k = chosen_short s z hq hp (distant hq hp e).0 x in
          g.settled q p d w hq hp e x (omega arith)
