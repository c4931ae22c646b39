-- Rows that are seen, and the runs that lead to them.
use mathlib.Core.Path.{◌≡◌, sym, subst, ◌∙◌}
use mathlib.Core.List.{List}
use mathlib.Core.Logic.{inl, inr, ⊎_elim}
use Prim.Native.Nat.{ℕ, ◌+◌, ◌*◌, ◌<◌}
use native.Mathlib.Omega.{arith}
use lib.ListN.{get_or}
use Rattle.automata.proofs.Runs.{Way, event, ◌then◌, less}
use Rattle.tables.specs.Table.{Table, machine, events_of, weight_by}
use Rattle.rules.specs.Rules.{table_of}
use Rattle.quick_depths.specs.Leads.{left_at, seen_at}
use Rattle.quick_depths.specs.Rounds.{Seen, ByEvent, From, Spread}

-- The row to which an event leads.
pub seen_by : {mask n m : ℕ} {cells s t : List ℕ} {p w a v r : ℕ} → a < m → v ≡ weight_by mask a → v ≡ w → r ≡ get_or cells (p * m + a) 0 → Seen n (λ q. q ≡ r) s t → Seen n (ByEvent mask m cells p w) s t
seen_by {a} ha e f g d = record {
  size = d.size;
  before = d.before;
  behind = d.behind;
  new = λ q l x. ⊎_elim (λ y. inl y) (λ y. inr (record { event = a; inside = ha; weighs = sym e ∙ f; there = y ∙ g })) (d.new q l x);
}

-- ---- runs
from_same : {mask : ℕ} {T : Table} {s t : List ℕ} {q : ℕ} → ((k : ℕ) → k < 6 * T.rows → get_or t k 0 ≡ get_or s k 0) → From mask T s q → From mask T t q
from_same {T} e f = record { row = f.row; inside = f.inside; left = omega (arith, f.left, f.inside, e (4 * T.rows + f.row) (omega (arith, f.inside))); way = f.way }

module _ {mask n m : ℕ} {cells : List ℕ} where
  -- A counted event of a row that is left.
  pub spread_counted : {s t : List ℕ} {p : ℕ} → p < n → (left_at n s p ≡ 0 → ⊥) → Seen n (ByEvent mask m cells p 1) s t → Spread mask n m cells s t
  spread_counted {s} {t} {p} hp left d = record {
    size = d.size;
    before = d.before;
    behind = d.behind;
    seeing = λ start marks old q hq l.
        from_same {T = table_of n m start cells marks} d.before
        (⊎_elim (λ x. old q hq x)
        (λ x. record {
          row = p;
          inside = hp;
          left = omega arith;
          way = subst (λ (y : ℕ). Way (events_of (weight_by mask) (table_of n m start cells marks)) (machine (table_of n m start cells marks)) p y 1) (sym x.there) (less (omega (arith, x.weighs)) (event p x.event x.inside));
        })
        (d.new q hq l));
  }

  -- An idle event of a row that is seen.
  pub spread_idle : {s t : List ℕ} {p : ℕ} → p < n → (seen_at n s p ≡ 0 → ⊥) → Seen n (ByEvent mask m cells p 0) s t → Spread mask n m cells s t
  spread_idle {s} {t} {p} hp seen d = record {
    size = d.size;
    before = d.before;
    behind = d.behind;
    seeing = λ start marks old q hq l.
        from_same {T = table_of n m start cells marks} d.before
        (⊎_elim (λ x. old q hq x)
        (λ x.
        let f = old p hp (omega arith) in
        record {
          row = f.row;
          inside = f.inside;
          left = f.left;
          way = subst (λ (y : ℕ). Way (events_of (weight_by mask) (table_of n m start cells marks)) (machine (table_of n m start cells marks)) f.row y 1) (sym x.there) (less (omega arith) (f.way then event p x.event x.inside));
        })
        (d.new q hq l));
  }
