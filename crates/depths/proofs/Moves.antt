-- What raises a lead, and what steps do one behind another.
use mathlib.Core.Path.{◌≡◌, refl, sym, ap, subst, ◌∙◌}
use mathlib.Core.Bool.{Bool, true, false, cond, ◌||◌, true≢false, false≢true}
use mathlib.Core.List.{List, [], ◌∷◌}
use mathlib.Core.Logic.{◌⊎◌, inl, inr}
use Prim.Native.Nat.{ℕ, zero, suc, ◌+◌, ◌-◌, ◌≤◌, ◌<◌, min}
use native.Mathlib.Omega.{arith}
use native.Mathlib.Decide.{dec_lt, ℕ_discrete}
use borrow.Author.Count.{below_more}
use borrow.Author.Tests.{lt-ltb, le-ltb}
use lib.ListN.{length, get_or, set, length-set}
use lib.Seq.{get_or-set_same, get_or-set_other}
use Rattle.automata.specs.Runs.{Events, Machine}
use Rattle.automata.proofs.Tests.{either}
use Rattle.automata.proofs.Runs.{Reach, event, ◌then◌, less}
use Rattle.tables.specs.Table.{Table, machine, events_of, target_of, weight_by}
use Rattle.rules.specs.Rules.{table_of}
use Rattle.scratch.specs.Scratch.{lead_in}
use Rattle.depths.specs.Steps.{further, Workspace, Known, Grown, below, Risen, Raised, Moved, Quiet, QuietRows, Stepped, Settled}

further-cases : (n c w : ℕ) → ((n < c + w) × (further n c w ≡ 65535)) ⊎ ((c + w ≤ n) × (further n c w ≡ c + w))
unfolding further
further-cases n c w = elim (dec_lt n (c + w)) [
  | yes h ↦ inl (h, rw (lt-ltb n (c + w) h))
  | no h ↦ inr (omega arith, rw (le-ltb n (c + w) (omega arith)))
]

pub further-least : (n c w : ℕ) → n ≤ 1024 → min (n + 1) (c + w) ≤ further n c w
further-least n c w h = elim (further-cases n c w) [ inl g ↦ omega (arith, g.1) | inr g ↦ omega (arith, g.1) ]

pub same_space : {rows events : ℕ} {cells s s' : List ℕ} → Workspace rows events cells s → length s' ≡ length s → Workspace rows events cells s'
same_space u e = record { rows_fit = u.rows_fit; target_inside = u.target_inside; room = omega (arith, u.room) }

-- ---- cells that rise

-- A cell that rises has less room above it.
below_set : (s : List ℕ) (k x : ℕ) → k < length s → get_or s k 0 < x → x ≤ 65535 → below (set s k x) < below s
unfolding below
below_set [] k x h l m = absurd (omega arith)
below_set (y ∷ s) zero x h l m = omega arith
below_set (y ∷ s) (suc k) x h l m = let ih = below_set s k x (omega arith) l m in omega arith

-- With one more for a sweep that is yet to come.
pub ahead : List ℕ → Bool → ℕ
ahead s again = below s + cond again 1 0

pub risen_raised : {at x : ℕ} {s s' : List ℕ} {r : Bool} → x ≤ 65535 → Raised at x s s' r → Risen s s' r
risen_raised {at} {x} {s} {r} fits d = record {
  same_length = elim (either r) [ inl t ↦ ap length (d.low t).2 ∙ length-set s at x | inr t ↦ ap length (d.high t).1 ];
  rose = λ t. let h = d.low t in omega (arith, ap below h.2, below_set s at x h.0 h.1 fits);
  kept = λ t. (d.high t).1;
}

fewer : {s s' : List ℕ} (changed : Bool) → Risen s s' changed → below s' ≤ below s
fewer true m = omega (arith, m.rose refl)
fewer false m = omega (arith, ap below (m.kept refl))

-- One step more, that changes something or not.
pub risen_then : {s s' s'' : List ℕ} (changed hit : Bool) → Risen s s' changed → Risen s' s'' hit → Risen s s'' (changed || hit)
risen_then true hit m n = record { same_length = n.same_length ∙ m.same_length; rose = λ z. omega (arith, m.rose refl, fewer hit n); kept = λ z. absurd (true≢false z) }
risen_then false hit m n = record { same_length = n.same_length ∙ m.same_length; rose = λ z. omega (arith, n.rose z, ap below (m.kept refl)); kept = λ z. n.kept z ∙ m.kept refl }

-- Each sweep brings the measure down.
pub risen_less : {s s' : List ℕ} (again changed : Bool) → again ≡ true → Risen s s' changed → ahead s' changed < ahead s again
unfolding ahead
risen_less true true e m = omega (arith, m.rose refl)
risen_less true false e m = omega (arith, ap below (m.kept refl))
risen_less false changed e m = absurd (false≢true e)

module _ (mask : ℕ) (T : Table) where
  abbrev n : ℕ
  n = T.rows

  abbrev E : Events
  E = events_of (weight_by mask) T

  abbrev M : Machine
  M = machine T

  -- ---- steps one behind another

  pub grown_none : (s : List ℕ) → Grown mask T s s
  grown_none s = record { known = λ k. k; stays = λ q h l. l }

  pub grown_then : {s s' s'' : List ℕ} → Grown mask T s s' → Grown mask T s' s'' → Grown mask T s s''
  grown_then g h = record { known = λ k. h.known (g.known k); stays = λ q l r. h.stays q l (g.stays q l r) }

  unmoved : {changed : Bool} {Rest : Type 0} (s : List ℕ) → Rest → Moved mask T s s changed Rest
  unmoved s r = record { grown = grown_none s; behind = λ k h. refl; rest = λ e. r }

  -- Step i of a sweep, of which P says that it is at rest: it changes something, or not.
  moved_then : (P : List ℕ → ℕ → Type 0) {s s' s'' : List ℕ} (i : ℕ) (changed hit : Bool) → (changed ≡ false → s' ≡ s) → Moved mask T s s' changed ((x : ℕ) → x < i → P s x)
      → Moved mask T s' s'' hit (P s' i) → Moved mask T s s'' (changed || hit) ((x : ℕ) → x < i + 1 → P s x)
  moved_then P i true hit kept m n = record {
    grown = grown_then m.grown n.grown;
    behind = λ k h. n.behind k h ∙ m.behind k h;
    rest = λ z. absurd (true≢false z);
  }
  moved_then P {s} i false hit kept m n = record {
    grown = grown_then m.grown n.grown;
    behind = λ k h. n.behind k h ∙ m.behind k h;
    rest = λ z. below_more (P s) i (m.rest refl) (subst (λ (t : List ℕ). P t i) (kept refl) (n.rest z));
  }

  -- ---- a lead that a run stands for
  module _ (s : List ℕ) (q x : ℕ) (room : q < length s) (some : 0 < x) (small : (x ≤ n) ⊎ (x ≡ 65535)) where
    -- What holds of the new lead, and of each old one, holds of all.
    each : (P : ℕ → ℕ → Type 0) → P q x → ((r : ℕ) → P r (lead_in s r)) → (r : ℕ) → P r (lead_in (set s q x) r)
    each P now old r = elim (ℕ_discrete r q) [
      | yes e ↦ subst (λ (y : ℕ). P y (lead_in (set s q x) y)) (sym e) (subst (P q) (sym (get_or-set_same s q x 0 room)) now)
      | no h ↦ subst (P r) (sym (get_or-set_other s q r x 0 h)) (old r)
    ]

    known-set : Reach E M q (min (x - 1) n) → Known E M s → Known E M (set s q x)
    known-set w k = record {
      start_inside = k.start_inside;
      small = each (λ r c. r < n → (c ≤ n) ⊎ (c ≡ 65535)) (λ h. small) k.small;
      run = each (λ r c. r < n → 0 < c → Reach E M r (min (c - 1) n)) (λ h l. w) k.run;
      begun = each (λ r c. r ≡ M.start → 0 < c) (λ e. some) (λ r e. subst (λ (y : ℕ). 0 < lead_in s y) (sym e) k.begun) M.start refl;
    }

    -- As a step from s₀ on, of which it is known that the run is there.
    pub grown-lead : {s₀ : List ℕ} → Grown mask T s₀ s → (Known E M s₀ → Reach E M q (min (x - 1) n)) → Grown mask T s₀ (set s q x)
    grown-lead g w = record {
      known = λ k. known-set (w k) (g.known k);
      stays = λ r l h. each (λ r c. r < n → 0 < lead_in s r → 0 < c) (λ l h. some) (λ r l h. h) r l (g.stays r l h);
    }

  -- ---- one event of row p, as the code goes about it
  module _ (s : List ℕ) (p a : ℕ) where
    module _ (u : Workspace n T.events T.cells s) (hp : p < n) (ha : a < T.events) (from : ¬ (lead_in s p ≡ 0)) where
      abbrev q : ℕ
      q = target_of T p a

      abbrev new : ℕ
      new = further n (lead_in s p) (weight_by mask a)

      inside : q < n
      inside = u.target_inside p a hp ha

      run_on : Reach E M p (min (lead_in s p - 1) n) → Reach E M q (min (new - 1) n)
      run_on w = less (elim (further-cases n (lead_in s p) (weight_by mask a)) [ inl g ↦ omega (arith, g.0) | inr g ↦ omega (arith, g.1) ]) (w then event p a ha)

      new-small : (new ≤ n) ⊎ (new ≡ 65535)
      new-small = elim (further-cases n (lead_in s p) (weight_by mask a)) [ inl g ↦ inr g.1 | inr g ↦ inl (omega (arith, g.0, g.1)) ]

      raised : {Rest : Type 0} → lead_in s q < new → Moved mask T s (set s q new) true Rest
      raised up = record {
        grown = grown-lead s q new (omega (arith, u.room, inside)) (omega arith) new-small (grown_none s) (λ k. run_on (k.run p hp (omega arith)));
        behind = λ k h. get_or-set_other s q k new 0 (λ e. omega (arith, inside));
        rest = λ e. absurd (true≢false e);
      }

      told : {s' : List ℕ} (r : Bool) → Raised q new s s' r → Moved mask T s s' r (Quiet mask T s p a)
      told true d = let h = d.low refl in rw h.2 (raised h.1)
      told false d = let h = d.high refl in rw h.1 (unmoved s (λ g. h.0 (omega (arith, u.room, inside))))

    -- By the lead c of row p, and by what is read and computed of the target.
    pub relax-told : {c to w x : ℕ} {s' : List ℕ} {r : Bool} → c ≡ lead_in s p → ¬ (c ≡ 0) → to ≡ target_of T p a → w ≡ weight_by mask a → x ≡ further n c w
        → Raised to x s s' r → Workspace n T.events T.cells s → p < n → a < T.events → Moved mask T s s' r (Quiet mask T s p a)
    relax-told {c} {to} {w} {x} {s'} {r} e₁ h e₂ e₃ e₄ d u hp ha =
        let new_is : x ≡ further n (lead_in s p) (weight_by mask a) = e₄ ∙ rw (e₁, e₃) in
        told u hp ha (λ z. h (e₁ ∙ z)) r (rw (e₂, new_is) at d)

-- ---- the steps of a sweep, of which P says that they are at rest
module _ (mask rows events : ℕ) (cells : List ℕ) (P : Table → List ℕ → ℕ → Type 0) where
  -- The first i of them.
  abbrev pub Steps : List ℕ → List ℕ → Bool → ℕ → Type 0
  Steps s s' changed i = Stepped mask rows events cells s s' changed (λ T. (x : ℕ) → x < i → P T s x)

  module _ {s s' : List ℕ} {i : ℕ} {changed : Bool} (m : Steps s s' changed i) where
    pub steps_then : {s'' : List ℕ} {hit : Bool} → Risen s s' changed → Stepped mask rows events cells s' s'' hit (λ T. P T s' i) → Steps s s'' (changed || hit) (i + 1)
    steps_then {s''} {hit} r n start marks =
        moved_then mask (table_of rows events start cells marks) (P (table_of rows events start cells marks)) i changed hit r.kept (m start marks) (n start marks)

    pub steps_all : {n : ℕ} → n ≤ i → Steps s s' changed n
    steps_all h start marks = let d = m start marks in record { grown = d.grown; behind = d.behind; rest = λ e x l. d.rest e x (omega arith) }

-- ---- sweeps one behind another

-- From s to s', where the last sweep, if it changed nothing, found all at rest.
pub record Settling (mask rows events : ℕ) (cells s s' : List ℕ) (again : Bool) : Type 0 where
  pub grown : (start : ℕ) (marks : List ℕ) → Grown mask (table_of rows events start cells marks) s s'
  pub behind : (k : ℕ) → rows ≤ k → get_or s' k 0 ≡ get_or s k 0
  pub quiet : again ≡ false → (start : ℕ) (marks : List ℕ) → QuietRows mask (table_of rows events start cells marks) s'

module _ {mask rows events : ℕ} {cells s : List ℕ} where
  pub settling_more : {s' s'' : List ℕ} {again changed : Bool} → Settling mask rows events cells s s' again → Risen s' s'' changed
      → Stepped mask rows events cells s' s'' changed (λ T. QuietRows mask T s') → Settling mask rows events cells s s'' changed
  settling_more g r m = record {
    grown = λ start marks. grown_then mask (table_of rows events start cells marks) (g.grown start marks) (m start marks).grown;
    behind = λ k h. (m 0 []).behind k h ∙ g.behind k h;
    quiet = λ e start marks. subst (QuietRows mask (table_of rows events start cells marks)) (sym (r.kept e)) ((m start marks).rest e);
  }

  pub settled : {s' : List ℕ} {again : Bool} → again ≡ false → length s' ≡ length s → Settling mask rows events cells s s' again → Settled mask rows events cells s s'
  settled e l g = record { same_length = l; grown = g.grown; behind = g.behind; quiet = g.quiet e }
