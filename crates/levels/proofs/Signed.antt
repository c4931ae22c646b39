-- Where idle events stay: rows are near at a level just if their counted events lead to rows of one leader at the level before, which is their signature.
-- So leaders of different signatures, and followers with their leaders' signatures, are all that a level needs.
use mathlib.Core.Path.{◌≡◌}
use Prim.Native.Nat.{ℕ, suc, ◌≤◌, ◌<◌}
use native.Mathlib.Omega.{arith}
use lib.ListN.{length, get_or}
use Rattle.automata.specs.Runs.{Events, Machine, Sound, Light, Near}
use Rattle.automata.proofs.Runs.{near_sym, near_trans, near_up, near_step}
use Rattle.levels.specs.Sweep.{Placed, listed, Border, Led, Settled}
use Rattle.levels.proofs.Closure.{near_signed}
use Rattle.levels.proofs.Borders.{placed_closed, placed_into}
use Rattle.levels.proofs.Kept.{listed_placed}
use Rattle.levels.proofs.Sweep.{led_exact, led_sound}

module _ {E : Events} {M : Machine} (s : Sound E M) (z : Light E) (k K i j : ℕ) (ij : i ≤ j) (last : Border E M k K i) (border : Border E M k (suc K) j)
    (stays : (q a : ℕ) → Placed E M j q → a < E.count → E.weight a ≡ 0 → M.target q a ≡ q) {val : ℕ → ℕ} (led : Led E M k K i val) where
  -- Counted events lead rows q and p to rows of one leader.
  abbrev Alike : ℕ → ℕ → Type 0
  Alike q p = (a : ℕ) → a < E.count → E.weight a ≡ 1 → val (M.target q a) ≡ val (M.target p a)

  into : (q a : ℕ) → Placed E M j q → a < E.count → E.weight a ≡ 1 → Placed E M i (M.target q a)
  into q a p h w = placed_into s z k K i last j border q a p h w

  alike-near : (q p : ℕ) → Placed E M j q → Placed E M j p → Alike q p → Near E M M (suc K) q p
  alike-near q p hq hp h = near_signed z (Placed E M j) (placed_closed s z k (suc K) j border) stays K q p hq hp
      (λ a ha w. led_exact led (M.target q a) (M.target p a) (into q a hq ha w) (into p a hp ha w) (h a ha w))

  near-alike : (q p : ℕ) → Placed E M j q → Placed E M j p → Near E M M (suc K) q p → Alike q p
  near-alike q p hq hp n a ha w = led_sound led (M.target q a) (M.target p a) (into q a hq ha w) (into p a hp ha w) (near_up (omega arith) (near_step a ha n))

  -- What is listed: v is the leader of each place at the level before, and each place that led then has a leader of its signature, no two of which are alike.
  module _ (v nxt : ℕ → ℕ) where
    abbrev to : ℕ
    to = length (listed E M k i j)

    abbrev row : ℕ → ℕ
    row c = get_or (listed E M k i j) c 0

    hand : (c : ℕ) → c < to → Placed E M j (row c)
    hand c h = listed_placed E M k i j c ij border.within h

    pub settled-signed : ((c : ℕ) → c < to → v c ≤ c) → ((c : ℕ) → c < to → v (v c) ≡ v c) → ((c : ℕ) → c < to → Near E M M (suc K) (row c) (row (v c)))
        → ((c : ℕ) → c < to → nxt c ≤ c) → ((c : ℕ) → c < to → v c ≡ c → nxt (nxt c) ≡ nxt c) → ((c : ℕ) → c < to → v c ≡ c → Alike (row c) (row (nxt c)))
        → ((c d : ℕ) → c < to → d < to → nxt c ≡ c → nxt d ≡ d → Alike (row c) (row d) → c ≡ d)
        → Settled E M k (suc K) i j (λ c. nxt (v c))
    settled-signed low led-own led-near down leads signed lone =
        record {
          no_later = λ c h. omega (arith, low c h, down (v c) (in-v c h));
          close = close;
          least = λ c x h l n.
              let hx : x < to = omega (arith, low c h, down (v c) (in-v c h)) in
              let e = lone (nxt (v x)) (nxt (v c)) (in-n x hx) (in-n c h) (leads (v x) (in-v x hx) (led-own x hx)) (leads (v c) (in-v c h) (led-own c h))
              (near-alike (row (nxt (v x))) (row (nxt (v c))) (hand (nxt (v x)) (in-n x hx)) (hand (nxt (v c)) (in-n c h))
              (near_trans (near_sym (close x hx)) (near_trans (near_sym n) (close c h)))) in
              omega (arith, low x hx, down (v x) (in-v x hx));
        }
      where
        in-v : (c : ℕ) → c < to → v c < to
        in-v c h = omega (arith, low c h)

        in-n : (c : ℕ) → c < to → nxt (v c) < to
        in-n c h = omega (arith, low c h, down (v c) (in-v c h))

        close : (c : ℕ) → c < to → Near E M M (suc K) (row c) (row (nxt (v c)))
        close c h = near_trans (led-near c h)
            (alike-near (row (v c)) (row (nxt (v c))) (hand (v c) (in-v c h)) (hand (nxt (v c)) (in-n c h)) (signed (v c) (in-v c h) (led-own c h)))
