-- A relation on rows that events do not leave, which lies in `Near`; and rest, which lasts and passes on to rows whose counted events lead to rows at rest.
use mathlib.Core.Path.{◌≡◌}
use mathlib.Core.List.{List, [], ◌∷◌}
use mathlib.Core.Logic.{◌⊎◌, inl, inr}
use Prim.Native.Nat.{ℕ, zero, suc, ◌+◌, ◌≤◌, ◌<◌}
use native.Mathlib.Omega.{arith}
use native.Mathlib.Decide.{ℕ_discrete}
use Rattle.automata.specs.Runs.{Events, Machine, Light, Run, size, after, Near}
use Rattle.automata.proofs.Runs.{near_up, near_step}
use Rattle.levels.specs.Sweep.{Rests}

-- An event is idle or counted.
idle_or_counted : {E : Events} → Light E → (a : ℕ) → (E.weight a ≡ 0) ⊎ (E.weight a ≡ 1)
idle_or_counted {E} z a = elim (ℕ_discrete (E.weight a) 0) [ yes e ↦ inl e | no h ↦ inr (omega (arith, z.at_most a)) ]

-- No event leads out of W.
pub record Closed (E : Events) (M : Machine) (W : ℕ → Type 0) : Type 0 where
  pub leads : (q a : ℕ) → W q → a < E.count → W (M.target q a)

-- R, asked of rows of W only, gives itself at the targets of idle events, and nearness at level L at those of counted ones: it gives nearness at level L + 1.
module _ {E : Events} {M : Machine} (z : Light E) (W : ℕ → Type 0) (cl : Closed E M W) (R : ℕ → ℕ → Type 0) (L : ℕ)
    (idle : (q p a : ℕ) → W q → W p → a < E.count → E.weight a ≡ 0 → R q p → R (M.target q a) (M.target p a))
    (counted : (q p a : ℕ) → W q → W p → a < E.count → E.weight a ≡ 1 → R q p → Near E M M L (M.target q a) (M.target p a)) where
  go : (w : List ℕ) (q p : ℕ) → W q → W p → Run E w → suc L ≤ size E w → R q p → M.mark (after M q w) ≡ M.mark (after M p w)
  go [] q p hq hp hw hl r = absurd (omega arith)
  go (a ∷ w) q p hq hp hw hl r = elim (idle_or_counted z a) [
    | inl e ↦ go w (M.target q a) (M.target p a) (cl.leads q a hq hw.0) (cl.leads p a hp hw.0) hw.1 (omega arith) (idle q p a hq hp hw.0 e r)
    | inr e ↦ (counted q p a hq hp hw.0 e r).same w hw.1 (omega arith)
  ]

  near-suc : (q p : ℕ) → W q → W p → R q p → Near E M M (suc L) q p
  near-suc q p hq hp r = record { same = λ w hw hl. go w q p hq hp hw hl r }

-- Where idle events stay on W, rows are near at level L + 1 if their targets of counted events are near at level L.
pub near_signed : {E : Events} {M : Machine} (z : Light E) (W : ℕ → Type 0) → Closed E M W → ((q a : ℕ) → W q → a < E.count → E.weight a ≡ 0 → M.target q a ≡ q)
    → (L q p : ℕ) → W q → W p → ((a : ℕ) → a < E.count → E.weight a ≡ 1 → Near E M M L (M.target q a) (M.target p a)) → Near E M M (suc L) q p
near_signed {E} {M} z W cl stays L = near-suc z W cl (λ q p. (a : ℕ) → a < E.count → E.weight a ≡ 1 → Near E M M L (M.target q a) (M.target p a)) L
    (λ q p b hq hp hb e r a ha c. rw (stays q b hq hb e, stays p b hp hb e) (r a ha c))
    (λ q p a hq hp ha c r. r a ha c)

module _ {E : Events} {M : Machine} (z : Light E) (W : ℕ → Type 0) (cl : Closed E M W) where
  -- Rest passes to rows whose counted events lead into W, one level up.
  pub rests_wider : (U : ℕ → Type 0) → Closed E M U → ((q a : ℕ) → U q → a < E.count → E.weight a ≡ 1 → W (M.target q a))
      → (L : ℕ) → Rests E M W L → Rests E M U (suc L)
  rests_wider U cu into L r = record {
    down = near-suc z U cu (Near E M M (suc (suc L))) L
        (λ q p a hq hp ha e n. near_up (omega arith) (near_step a ha n))
        (λ q p a hq hp ha c n. r.down (M.target q a) (M.target p a) (into q a hq ha c) (into p a hp ha c) (near_up (omega arith) (near_step a ha n)));
  }

  -- It lasts,
  rests_on : (L : ℕ) → Rests E M W L → (i : ℕ) → Rests E M W (i + L)
  rests_on L r zero = record { down = λ q p hq hp n. near_up (omega arith) (r.down q p hq hp (near_up (omega arith) n)) }
  rests_on L r (suc i) =
      let s = rests_wider W cl (λ q a hq ha c. cl.leads q a hq ha) (i + L) (rests_on L r i) in
      record { down = λ q p hq hp n. near_up (omega arith) (s.down q p hq hp (near_up (omega arith) n)) }

  -- so that all levels from L on are one on W.
  rest_sum : (L : ℕ) → Rests E M W L → (i q p : ℕ) → W q → W p → Near E M M (i + L) q p → Near E M M L q p
  rest_sum L r zero q p hq hp n = near_up (omega arith) n
  rest_sum L r (suc i) q p hq hp n = rest_sum L r i q p hq hp ((rests_on L r i).down q p hq hp (near_up (omega arith) n))

  pub rest-near : (L K : ℕ) → Rests E M W L → (q p : ℕ) → W q → W p → Near E M M K q p → Near E M M L q p
  rest-near L K r q p hq hp n = rest_sum L r K q p hq hp (near_up (omega arith) n)
