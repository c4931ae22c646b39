-- The level that a row needs: the deeper needs no more, targets need less, and similarity is nearness at it.
use mathlib.Core.Path.{◌≡◌, refl, sym, subst}
use mathlib.Core.Bool.{true, not}
use Prim.Native.Nat.{ℕ, suc, ◌+◌, ◌-◌, ◌≤◌, ◌<◌, min}
use native.Mathlib.Omega.{arith}
use lib.Dec.{eqb}
use borrow.Author.Tests.{eqb-false}
use Rattle.automata.specs.Runs.{Events, Machine, Sound, Light, Near, Len, len, endless, IsDepth}
use Rattle.automata.proofs.Tests.{flip_true}
use Rattle.automata.proofs.Runs.{Reach, event, ◌then◌, less}
use Rattle.automata.proofs.Folding.{Atleast, cap, ◌⊑◌, Alike}
use Rattle.tables.specs.Lengths.{lead, is_zero, one_less, reached, depth}
use Rattle.tables.proofs.Lengths.{reached_is, reached-found, depth_is}
use Rattle.levels.specs.Levels.{need, need_by, need_at}

-- The deeper needs no more.
pub need_deep : (k : ℕ) (d e : Len) → d ⊑ e → need k e ≤ need k d
need_deep k (len d) (len e) h = omega (arith, h d (omega arith))
need_deep k endless (len e) h = omega (arith, h (suc e) tt)
need_deep k d endless h = omega arith

-- What the smaller of both depths leaves of the offset, where the second is no smaller.
need-both : (k : ℕ) (d e : Len) → d ⊑ e → k - min (cap k d) (cap k e) ≡ need k d
need-both k (len d) (len e) h = omega (arith, h d (omega arith))
need-both k (len d) endless h = omega arith
need-both k endless (len e) h = omega (arith, h (suc e) tt)
need-both k endless endless h = omega arith

-- Where p is no shallower than q, they are similar just if they are near at the level that q needs.
module _ {E : Events} {M : Machine} (k q p : ℕ) (deep : depth E M q ⊑ depth E M p) where
  pub alike-near : Alike E M k q p (depth E M q) (depth E M p) → Near E M M (need_at E M k q) q p
  alike-near = subst (λ (L : ℕ). Near E M M L q p) (need-both k (depth E M q) (depth E M p) deep)

  pub near-alike : Near E M M (need_at E M k q) q p → Alike E M k q p (depth E M q) (depth E M p)
  near-alike = subst (λ (L : ℕ). Near E M M L q p) (sym (need-both k (depth E M q) (depth E M p) deep))

-- ---- along events

-- Where an event of weight w leads from q to p, p is deeper by w.
further : {E : Events} {M : Machine} (q p : ℕ) (d e : Len) (w : ℕ) → IsDepth E M q d → IsDepth E M p e
    → ((c : ℕ) → Reach E M q c → Reach E M p (c + w)) → (c : ℕ) → Atleast d c → Atleast e (c + w)
further q p (len d) (len e) w hd he go c a =
    let r = go d (record { by = hd.0.0; leads = hd.0.1; long = omega (arith, hd.0.2) }) in
    omega (arith, r.long, he.1 r.by r.leads)
further q p endless (len e) w hd he go c a =
    let x = hd (suc e) in
    let r = go (suc e) (record { by = x.0; leads = x.1; long = x.2 }) in
    absurd (omega (arith, r.long, he.1 r.by r.leads))
further q p d endless w hd he go c a = tt

module _ {E : Events} {M : Machine} (s : Sound E M) (z : Light E) (q a : ℕ) (hq : q < M.rows) (u : reached E M q ≡ true) (ha : a < E.count) where
  target_reach : Reach E M (M.target q a) 0
  target_reach = less (omega arith) (reached_is s z q hq u then event q a ha)

  -- A target of a reached row is reached,
  pub target_reached : reached E M (M.target q a) ≡ true
  target_reached = reached-found s z (M.target q a) (s.target_inside q a hq ha) target_reach

  -- and needs less by the event's weight.
  pub target_need : (k : ℕ) → need_at E M k (M.target q a) ≤ need_at E M k q - E.weight a
  target_need k = pick (depth E M q) (depth E M (M.target q a)) (further q (M.target q a) (depth E M q) (depth E M (M.target q a)) (E.weight a)
      (depth_is s z q hq (reached_is s z q hq u)) (depth_is s z (M.target q a) (s.target_inside q a hq ha) target_reach) (λ c r. r then event q a ha))
    where
      pick : (d e : Len) → ((c : ℕ) → Atleast d c → Atleast e (c + E.weight a)) → need k e ≤ need k d - E.weight a
      pick (len d) (len e) h = omega (arith, h d (omega arith))
      pick endless (len e) h = absurd (omega (arith, h (suc e) tt))
      pick d endless h = omega arith

-- ---- by the lead

pub need-lead : (E : Events) (M : Machine) (k q : ℕ) → reached E M q ≡ true → need_at E M k q ≡ need_by k (lead E M q)
unfolding reached depth
need-lead E M k q = pick (lead E M q)
  where
    pick : (x : Len) → not (is_zero x) ≡ true → need k (one_less x) ≡ need_by k x
    pick (len c) e = let h = eqb-false c 0 (flip_true (eqb c 0) e) in omega arith
    pick endless e = refl
