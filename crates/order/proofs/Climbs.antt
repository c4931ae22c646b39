-- The search, level by level, as the code counts: level L is counted as L + 1.
use mathlib.Core.Path.{◌≡◌, sym, subst}
use mathlib.Core.List.{List}
use Prim.Native.Nat.{ℕ, suc, ◌+◌, ◌-◌, ◌≤◌, ◌<◌}
use native.Mathlib.Omega.{arith}
use lib.ListN.{length, set}
use Rattle.ordering.specs.Found.{Graph, Inside, found_at}
use Rattle.order.specs.Search.{Framed, Spreading, Climbing, Bare, Told, Sought}
use Rattle.order.proofs.Levels.{reached-first, quiet-first, framed-first, reached-next, quiet_next, still-none, told-next, quiet_none, framed_then}

module _ {G : Graph} {start : ℕ} (hs : start < G.places) where
  climb_first : {s : List ℕ} → G.places ≤ length s → Bare G start s → Climbing G start 0 s (set s start 1)
  climb_first room b = record { reached = reached-first hs room b; quiet = quiet-first hs room b; framed = framed-first hs room b }

  module _ (inside : Inside G) {level most : ℕ} {s t u : List ℕ} (pos : 0 < level) (small : level < 4095) (g : Climbing G start (level - 1) s t) (w : Spreading G level G.places 0 t u most) where
    sweep : Spreading G (suc (level - 1)) G.places 0 t u most
    sweep = let e : level ≡ suc (level - 1) = omega arith in subst (λ (i : ℕ). Spreading G i G.places 0 t u most) e w

    framed : Framed G s u
    framed = framed_then g.framed w.framed

    pub climb-next : most ≤ 1 → Climbing G start (level + 1 - 1) s u
    climb-next h =
        let e : suc (level - 1) ≡ level + 1 - 1 = omega arith in
        subst (λ (i : ℕ). Climbing G start i s u) e (record {
          reached = reached-next hs inside (omega arith) g.reached g.quiet sweep;
          quiet = quiet_next hs inside (omega arith) g.reached g.quiet sweep h;
          framed = framed;
        })

    pub climb-none : {bound : ℕ} → most ≡ 0 → Sought G start bound s u 0
    climb-none h = record {
      framed = framed;
      none = λ e n l. still-none hs inside (omega arith) g.reached g.quiet sweep h n;
      some = λ K e. absurd (omega arith);
    }

    pub climb-told : {bound : ℕ} → 2 ≤ most → level < bound → Sought G start bound s u (level + 1)
    climb-told {bound} h l = record { framed = framed; none = λ e n k. absurd (omega arith); some = λ K e. at K (omega arith) }
      where
        at : (K : ℕ) → suc (level - 1) ≡ K → (K < bound) × Told G start K K u × ((n : ℕ) → n < K → found_at G n start ≡ 0) × (¬ (found_at G K start ≡ 0))
        at K e =
            let d = told-next hs inside (omega arith) g.reached g.quiet sweep h in
            subst (λ (i : ℕ). (i < bound) × Told G start i i u × ((n : ℕ) → n < i → found_at G n start ≡ 0) × (¬ (found_at G i start ≡ 0))) e (omega arith, d.0, d.1, d.2)

  pub climb_end : (inside : Inside G) {bound level : ℕ} {s t : List ℕ} → bound ≤ level → Climbing G start (level - 1) s t → Sought G start bound s t 0
  climb_end inside h g = record {
    framed = g.framed;
    none = λ e n l. quiet_none hs inside g.reached g.quiet n (omega arith);
    some = λ K e. absurd (omega arith);
  }

-- The first level, as the code counts it: u is what it put the start into.
module _ {G : Graph} {start : ℕ} {s u : List ℕ} (room : G.places ≤ length s) (b : Bare G start s) (e : u ≡ set s start 1) where
  begun : Framed G s u
  begun = subst (Framed G s) (sym e) (climb_first b.start_inside room b).framed

  pub sought_from : {bound r : ℕ} {t : List ℕ} → Sought G start bound u t r → Sought G start bound s t r
  sought_from w = record { framed = framed_then begun w.framed; none = w.none; some = w.some }
