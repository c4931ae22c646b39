-- What a store leaves known, and what steps do one behind another.
use mathlib.Core.Path.{◌≡◌, refl, sym, subst, ◌∙◌}
use mathlib.Core.List.{List, []}
use mathlib.Core.Logic.{◌⊎◌, inl}
use Prim.Native.Nat.{ℕ, ◌+◌, ◌-◌, ◌*◌, ◌≤◌, ◌<◌, min}
use native.Mathlib.Omega.{arith}
use lib.ListN.{length, get_or, set, length-set}
use lib.Seq.{get_or-set_other}
use Rattle.automata.specs.Runs.{Events, Machine}
use Rattle.automata.proofs.Runs.{Reach, event, ◌then◌, less}
use Rattle.tables.specs.Table.{Table, machine, events_of, target_of, weight_by}
use Rattle.rules.specs.Rules.{table_of}
use Rattle.scratch.specs.Scratch.{lead_in}
use Rattle.depths.specs.Steps.{Workspace, Grown}
use Rattle.depths.proofs.Moves.{grown_none, grown_then, grown-lead}
use Rattle.quick_depths.specs.Leads.{Space, Kept, Marked, Grows}

pub same_space : {n m : ℕ} {cells s t : List ℕ} → Space n m cells s → length t ≡ length s → Space n m cells t
same_space u e = record { given = u.given; room = omega (arith, u.room) }

-- What the steps of `depths` need.
pub space_of : {n m : ℕ} {cells s : List ℕ} → Space n m cells s → Workspace n m cells s
space_of u = record { rows_fit = u.given.few; target_inside = u.given.target_inside; room = omega (arith, u.room) }

pub marked-none : {n : ℕ} {s : List ℕ} → Marked n s s
marked-none = record { size = refl; before = λ k h. refl; behind = λ k h. refl }

pub marked_then : {n : ℕ} {s t u : List ℕ} → Marked n s t → Marked n t u → Marked n s u
marked_then g h = record { size = h.size ∙ g.size; before = λ k l. h.before k l ∙ g.before k l; behind = λ k l. h.behind k l ∙ g.behind k l }

pub marked-set : {n : ℕ} (s : List ℕ) (k x : ℕ) → 4 * n ≤ k → k < 8 * n → Marked n s (set s k x)
marked-set s k x from until = record {
  size = length-set s k x;
  before = λ j h. get_or-set_other s k j x 0 (λ e. omega arith);
  behind = λ j h. get_or-set_other s k j x 0 (λ e. omega arith);
}

pub kept_none : {n : ℕ} {s : List ℕ} → Kept n s s
kept_none = record { size = refl; spare = λ k h g. refl; behind = λ k h. refl }

pub kept_then : {n : ℕ} {s t u : List ℕ} → Kept n s t → Kept n t u → Kept n s u
kept_then g h = record { size = h.size ∙ g.size; spare = λ k l r. h.spare k l r ∙ g.spare k l r; behind = λ k l. h.behind k l ∙ g.behind k l }

-- A lead is in no region that is kept.
pub kept_lead : {n : ℕ} (s : List ℕ) (q x : ℕ) → q < n → Kept n s (set s q x)
kept_lead s q x h = record {
  size = length-set s q x;
  spare = λ k l r. get_or-set_other s q k x 0 (λ e. omega arith);
  behind = λ k l. get_or-set_other s q k x 0 (λ e. omega arith);
}

kept_marked : {n : ℕ} {s t : List ℕ} → Marked n s t → Kept n s t
kept_marked g = record { size = g.size; spare = λ k l r. g.before k r; behind = g.behind }

module _ (mask : ℕ) (T : Table) where
  abbrev n : ℕ
  n = T.rows

  abbrev E : Events
  E = events_of (weight_by mask) T

  abbrev M : Machine
  M = machine T

  -- Leads that are the same are known as before.
  grown_same : {s t : List ℕ} → ((q : ℕ) → q < n → lead_in t q ≡ lead_in s q) → Grown mask T s t
  grown_same e = record {
    known = λ k. record {
      start_inside = k.start_inside;
      small = λ q h. subst (λ (x : ℕ). (x ≤ n) ⊎ (x ≡ 65535)) (sym (e q h)) (k.small q h);
      run = λ q h l. subst (λ (x : ℕ). Reach E M q (min (x - 1) n)) (sym (e q h)) (k.run q h (omega (arith, e q h)));
      begun = omega (arith, e M.start k.start_inside, k.begun);
    };
    stays = λ q h l. omega (arith, e q h);
  }

  -- A row that a reached one leads to.
  grown_met : {s : List ℕ} (p a : ℕ) → p < n → a < T.events → target_of T p a < n → n ≤ length s → 0 < lead_in s p → Grown mask T s (set s (target_of T p a) 1)
  grown_met {s} p a hp ha inside room from =
      grown-lead mask T s (target_of T p a) 1 (omega arith) (omega arith) (inl (omega arith)) (grown_none mask T s) (λ k. less (omega arith) (k.run p hp from then event p a ha))

-- ---- of every start and marks
module _ {mask n m : ℕ} {cells : List ℕ} where
  pub grows_none : (s : List ℕ) → Grows mask n m cells s s
  grows_none s = record { kept = kept_none; grown = λ start marks. grown_none mask (table_of n m start cells marks) s }

  pub grows_then : {s t u : List ℕ} → Grows mask n m cells s t → Grows mask n m cells t u → Grows mask n m cells s u
  grows_then g h = record { kept = kept_then g.kept h.kept; grown = λ start marks. grown_then mask (table_of n m start cells marks) (g.grown start marks) (h.grown start marks) }

  -- Marks are no leads.
  pub grows_marked : {s t : List ℕ} → Marked n s t → Grows mask n m cells s t
  grows_marked g = record { kept = kept_marked g; grown = λ start marks. grown_same mask (table_of n m start cells marks) (λ q h. g.before q (omega arith)) }

  pub grows_size : {s t : List ℕ} → Grows mask n m cells s t → length t ≡ length s
  grows_size g = g.kept.size

  pub grows_stays : {s t : List ℕ} → Grows mask n m cells s t → (q : ℕ) → q < n → 0 < lead_in s q → 0 < lead_in t q
  grows_stays g = (g.grown 0 []).stays

  pub grows_space : {s t : List ℕ} → Grows mask n m cells s t → Space n m cells s → Space n m cells t
  grows_space g u = same_space u (grows_size g)

  -- As `meet` does it: r is the target, tallied, then it has a lead and waits.
  pub grows_met : {s t : List ℕ} {p a r : ℕ} (k x : ℕ) → Space n m cells s → p < n → a < m → 0 < lead_in s p → r ≡ get_or cells (p * m + a) 0 → Marked n s t
      → 5 * n ≤ k → k < 6 * n → Grows mask n m cells s (set (set t r 1) k x)
  grows_met {s} {t} {p} {a} {r} k x u hp ha from e g l h =
      let q : ℕ = get_or cells (p * m + a) 0 in
      let room : n ≤ length t = omega (arith, g.size, u.room) in
      let inside = u.given.target_inside p a hp ha in
      let met : Grows mask n m cells t (set t q 1) = record {
        kept = kept_lead t q 1 inside;
        grown = λ start marks. grown_met mask (table_of n m start cells marks) p a hp ha inside room (omega (arith, g.before p (omega arith)));
      } in
      rw e (grows_then (grows_marked g) (grows_then met (grows_marked (marked-set (set t q 1) k x (omega arith) (omega arith)))))

  -- Where nothing but leads has changed.
  pub grows_front : {s t : List ℕ} → length t ≡ length s → ((k : ℕ) → n ≤ k → get_or t k 0 ≡ get_or s k 0) → ((start : ℕ) (marks : List ℕ) → Grown mask (table_of n m start cells marks) s t)
      → Grows mask n m cells s t
  grows_front e behind g = record { kept = record { size = e; spare = λ k l r. behind k l; behind = λ k l. behind k (omega arith) }; grown = g }
