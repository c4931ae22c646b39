-- At offset 0, tables that agree after all runs have the same reduction, cell for cell.
use mathlib.Core.Path.{◌≡◌, refl, sym, ap, subst, ◌∙◌}
use mathlib.Core.Bool.{Bool, true, false}
use mathlib.Core.List.{List, [], ◌∷◌, ◌++◌, map}
use mathlib.Core.Logic.{◌⊎◌, inl, inr}
use Prim.Native.Nat.{ℕ, zero, suc, ◌+◌, ◌*◌, ◌/◌, ◌%◌, ◌≤◌, ◌<◌}
use native.Mathlib.Nat.{div-lt_iff_lt-mul, mod-lt}
use native.Mathlib.Omega.{arith}
use lib.Dec.{eqb}
use borrow.Author.Tests.{eqb-true, eq-eqb}
use lib.ListN.{length, get_or}
use Rattle.automata.specs.Runs.{Events, Machine, Sound, Light, Near, AgreeFrom}
use Rattle.tables.specs.Lengths.{depth}
use Rattle.automata.proofs.Tests.{either, clash}
use Rattle.automata.proofs.Lists.{Mem, few}
use Rattle.automata.proofs.Runs.{Reach, stay, event, ◌then◌, less, near_sym, near_trans, near_up, near_step, near_cast}
use Rattle.automata.proofs.Folding.{Folding}
use Rattle.tables.specs.Table.{Table, Valid, pack, machine, events_of, offset}
use Rattle.tables.specs.Lists.{tabulate, some, position, place, sift}
use Rattle.tables.specs.Reduction.{kept, fold, met, numbering, number, renumbered, reduced}
use Rattle.tables.proofs.Lists.{tabulate-same}
use Rattle.tables.proofs.Folds.{kept_order, folding}
use Rattle.tables.proofs.Numbering.{met-rests}
use Rattle.tables.proofs.Reduced.{sound_of}

-- Two lists, as long as one another, whose members stand in the relation place by place.
abbrev Both : (ℕ → ℕ → Type 0) → List ℕ → List ℕ → Type 0
Both R [] [] = Unit {0}
Both R [] (y ∷ m) = ⊥
Both R (x ∷ l) [] = ⊥
Both R (x ∷ l) (y ∷ m) = R x y × Both R l m

module _ (R : ℕ → ℕ → Type 0) where
  both-length : (l m : List ℕ) → Both R l m → length l ≡ length m
  both-length [] [] b = refl
  both-length [] (y ∷ m) b = absurd b
  both-length (x ∷ l) [] b = absurd b
  both-length (x ∷ l) (y ∷ m) b = ap suc (both-length l m b.1)

  both_at : (l m : List ℕ) (i d e : ℕ) → Both R l m → i < length l → R (get_or l i d) (get_or m i e)
  both_at [] [] i d e b h = absurd (omega arith)
  both_at [] (y ∷ m) i d e b h = absurd b
  both_at (x ∷ l) [] i d e b h = absurd b
  both_at (x ∷ l) (y ∷ m) zero d e b h = b.0
  both_at (x ∷ l) (y ∷ m) (suc i) d e b h = both_at l m i d e b.1 (omega arith)

  both_read : (l m : List ℕ) (i d e : ℕ) → Both R l m → R d e → R (get_or l i d) (get_or m i e)
  both_read [] [] i d e b r = r
  both_read [] (y ∷ m) i d e b r = absurd b
  both_read (x ∷ l) [] i d e b r = absurd b
  both_read (x ∷ l) (y ∷ m) zero d e b r = b.0
  both_read (x ∷ l) (y ∷ m) (suc i) d e b r = both_read l m i d e b.1 r

  both_snoc : (l m : List ℕ) (x y : ℕ) → Both R l m → R x y → Both R (l ++ (x ∷ [])) (m ++ (y ∷ []))
  both_snoc [] [] x y b r = (r, tt)
  both_snoc [] (v ∷ m) x y b r = absurd b
  both_snoc (u ∷ l) [] x y b r = absurd b
  both_snoc (u ∷ l) (v ∷ m) x y b r = (b.0, both_snoc l m x y b.1 r)

  both-tabulate : (n : ℕ) (f g : ℕ → ℕ) → ((i : ℕ) → i < n → R (f i) (g i)) → Both R (tabulate n f) (tabulate n g)
  unfolding tabulate
  both-tabulate zero f g h = tt
  both-tabulate (suc n) f g h = (h 0 (omega arith), both-tabulate n (λ i. f (suc i)) (λ i. g (suc i)) (λ i l. h (suc i) (omega arith)))

  both-map : (f g : ℕ → ℕ) → ((x y : ℕ) → R x y → f x ≡ g y) → (l m : List ℕ) → Both R l m → map f l ≡ map g m
  both-map f g h [] [] b = refl
  both-map f g h [] (y ∷ m) b = absurd b
  both-map f g h (x ∷ l) [] b = absurd b
  both-map f g h (x ∷ l) (y ∷ m) b = rw (h x y b.0, both-map f g h l m b.1)

  -- Where the relation pairs off its members one to one:
  module _ (one : (x y u v : ℕ) → R x y → R u v → eqb x u ≡ eqb y v) where
    both_some : (x y : ℕ) → R x y → (l m : List ℕ) → Both R l m → some (eqb x) l ≡ some (eqb y) m
    unfolding some
    both_some x y r [] [] b = refl
    both_some x y r [] (v ∷ m) b = absurd b
    both_some x y r (u ∷ l) [] b = absurd b
    both_some x y r (u ∷ l) (v ∷ m) b = rw (one x y u v r b.0, both_some x y r l m b.1)

    both-place : (x y : ℕ) → R x y → (l m : List ℕ) → Both R l m → place x l ≡ place y m
    unfolding position
    both-place x y r [] [] b = refl
    both-place x y r [] (v ∷ m) b = absurd b
    both-place x y r (u ∷ l) [] b = absurd b
    both-place x y r (u ∷ l) (v ∷ m) b = pick (eqb x u) (eqb y v) (one x y u v r b.0) (both-place x y r l m b.1)
      where
        pick : (b c : Bool) → b ≡ c → place x l ≡ place y m → ◌≡◌ {A = ℕ} (elim b [ true ↦ 0 | false ↦ suc (place x l) ]) (elim c [ true ↦ 0 | false ↦ suc (place y m) ])
        pick true true e ih = refl
        pick true false e ih = clash refl e
        pick false true e ih = clash refl (sym e)
        pick false false e ih = ap suc ih

    both-sift : (xs ys : List ℕ) → Both R xs ys → (l m : List ℕ) → Both R l m → Both R (sift eqb l xs) (sift eqb m ys)
    unfolding sift
    both-sift [] [] c l m b = b
    both-sift [] (y ∷ ys) c l m b = absurd c
    both-sift (x ∷ xs) [] c l m b = absurd c
    both-sift (x ∷ xs) (y ∷ ys) c l m b =
        pick (some (eqb x) l) (some (eqb y) m) (both_some x y c.0 l m b) (both-sift xs ys c.1 l m b)
        (both-sift xs ys c.1 (l ++ (x ∷ [])) (m ++ (y ∷ [])) (both_snoc l m x y b c.0))
      where
        pick : (p q : Bool) → p ≡ q → Both R (sift eqb l xs) (sift eqb m ys) → Both R (sift eqb (l ++ (x ∷ [])) xs) (sift eqb (m ++ (y ∷ [])) ys)
            → Both R (elim p [ true ↦ sift eqb l xs | false ↦ sift eqb (l ++ (x ∷ [])) xs ]) (elim q [ true ↦ sift eqb m ys | false ↦ sift eqb (m ++ (y ∷ [])) ys ])
        pick true true e skip add = skip
        pick true false e skip add = clash refl e
        pick false true e skip add = clash refl (sym e)
        pick false false e skip add = add

-- ---- one machine at offset 0
module _ {E : Events} {M : Machine} (s : Sound E M) (z : Light E) where
  abbrev zero_fold : ℕ → ℕ
  zero_fold = fold E M (offset 0)

  abbrev zero_kept : List ℕ
  zero_kept = kept E M (offset 0)

  F : Folding E M (depth E M) 0 zero_kept zero_fold
  F = folding s z 0

  fold_near : (q : ℕ) → Reach E M q 0 → Near E M M 0 q (zero_fold q)
  fold_near q r = near_up (omega arith) (F.fold_alike q r)

  kept_one : (q p : ℕ) → Mem q zero_kept → Mem p zero_kept → Near E M M 0 q p → q ≡ p
  kept_one q p hq hp n = F.kept_apart q p hq hp (near_up (omega arith) n)

  next_reach : (q a : ℕ) → Mem q zero_kept → a < E.count → Reach E M (M.target q a) 0
  next_reach q a h ha = less (omega arith) (F.kept_reach q h then event q a ha)

  met_all : (i : ℕ) → M.rows ≤ i → met E.count M zero_fold i ≡ numbering E.count M zero_fold
  met_all = met-rests E.count M zero_fold zero_kept (F.fold_kept M.start (stay M.start)) (λ x a h ha. F.fold_kept (M.target x a) (next_reach x a h ha))
      (few zero_kept M.rows F.distinct (λ q h. (kept_order s z 0 q h).0))

-- ---- two machines that agree after all runs
module _ {E : Events} {M N : Machine} (s : Sound E M) (t : Sound E N) (z : Light E) (agree : AgreeFrom E 0 M N) where
  abbrev f : ℕ → ℕ
  f = fold E M (offset 0)

  abbrev g : ℕ → ℕ
  g = fold E N (offset 0)

  -- kept rows that no run tells apart
  record Twin (x y : ℕ) : Type 0 where
    left : Mem x (kept E M (offset 0))
    right : Mem y (kept E N (offset 0))
    near : Near E M N 0 x y

  twin_fold : (q p : ℕ) → Reach E M q 0 → Reach E N p 0 → Near E M N 0 q p → Twin (f q) (g p)
  twin_fold q p rq rp n = record {
    left = (F s z).fold_kept q rq;
    right = (F t z).fold_kept p rp;
    near = near_trans (near_sym (fold_near s z q rq)) (near_trans n (fold_near t z p rp));
  }

  twin_start : Twin (f M.start) (g N.start)
  twin_start = twin_fold M.start N.start (stay M.start) (stay N.start) agree

  twin_next : (x y a : ℕ) → a < E.count → Twin x y → Twin (f (M.target x a)) (g (N.target y a))
  twin_next x y a ha w = twin_fold (M.target x a) (N.target y a) (next_reach s z x a w.left ha) (next_reach t z y a w.right ha)
      (near_up (omega arith) (near_step a ha w.near))

  twin_one : (x y u v : ℕ) → Twin x y → Twin u v → eqb x u ≡ eqb y v
  twin_one x y u v p q = pick (either (eqb x u)) (either (eqb y v))
    where
      right-same : x ≡ u → y ≡ v
      right-same e = kept_one t z y v p.right q.right (near_trans (near_sym p.near) (near_cast (sym e) refl q.near))

      left-same : y ≡ v → x ≡ u
      left-same e = kept_one s z x u p.left q.left (near_trans (near_cast refl e p.near) (near_sym q.near))

      pick : (eqb x u ≡ true) ⊎ (eqb x u ≡ false) → (eqb y v ≡ true) ⊎ (eqb y v ≡ false) → eqb x u ≡ eqb y v
      pick (inl a) (inl b) = a ∙ sym b
      pick (inl a) (inr b) = clash (eq-eqb y v (right-same (eqb-true x u a))) b
      pick (inr a) (inl b) = clash (eq-eqb x u (left-same (eqb-true y v b))) a
      pick (inr a) (inr b) = a ∙ sym b

  met_twins : (i : ℕ) → Both Twin (met E.count M f i) (met E.count N g i)
  unfolding met
  met_twins zero = (twin_start, tt)
  met_twins (suc i) = step (met_twins i)
    where
      step : Both Twin (met E.count M f i) (met E.count N g i) → Both Twin (met E.count M f (suc i)) (met E.count N g (suc i))
      step b = both-sift Twin twin_one _ _ (both-tabulate Twin E.count _ _ (λ a ha.
          twin_next _ _ a ha (both_read Twin (met E.count M f i) (met E.count N g i) i (f M.start) (g N.start) b twin_start))) (met E.count M f i) (met E.count N g i) b

  twins : Both Twin (numbering E.count M f) (numbering E.count N g)
  twins =
      subst (λ (l : List ℕ). Both Twin l (numbering E.count N g)) (met_all s z (M.rows + N.rows) (omega arith))
      (subst (λ (m : List ℕ). Both Twin (met E.count M f (M.rows + N.rows)) m) (met_all t z (M.rows + N.rows) (omega arith)) (met_twins (M.rows + N.rows)))

  renumbered_same : 0 < E.count → renumbered E.count M f ≡ renumbered E.count N g
  unfolding renumbered number
  renumbered_same pos = λ i. record { rows = long i; events = E.count; start = 0; cells = cells i; marks = pack (marks i) }
    where
      l : List ℕ
      l = numbering E.count M f

      m : List ℕ
      m = numbering E.count N g

      long : length l ≡ length m
      long = both-length Twin l m twins

      marks : map M.mark l ≡ map N.mark m
      marks = both-map Twin M.mark N.mark (λ x y w. w.near.same [] tt (omega arith)) l m twins

      cell : (c : ℕ) → c < length l * E.count → place (f (M.target (get_or l (c / E.count) 0) (c % E.count))) l ≡ place (g (N.target (get_or m (c / E.count) 0) (c % E.count))) m
      cell c h = both-place Twin twin_one _ _
          (twin_next _ _ (c % E.count) (mod-lt c pos) (both_at Twin l m (c / E.count) 0 0 twins ((div-lt_iff_lt-mul pos).1 h))) l m twins

      cells : tabulate (length l * E.count) (λ c. place (f (M.target (get_or l (c / E.count) 0) (c % E.count))) l)
          ≡ tabulate (length m * E.count) (λ c. place (g (N.target (get_or m (c / E.count) 0) (c % E.count))) m)
      cells = tabulate-same (length l * E.count) _ _ cell ∙ ap (λ (n : ℕ). tabulate (n * E.count) (λ c. place (g (N.target (get_or m (c / E.count) 0) (c % E.count))) m)) long

-- Tables over the same number of events that agree after all runs have one reduction at offset 0.
pub reduced_same : (weight : ℕ → ℕ) → ((a : ℕ) → weight a ≤ 1) → (T U : Table) → Valid T → Valid U → U.events ≡ T.events
    → AgreeFrom (events_of weight T) 0 (machine T) (machine U) → reduced weight (offset 0) T ≡ reduced weight (offset 0) U
unfolding reduced
reduced_same weight light T U v u e agree =
    renumbered_same (sound_of weight T T refl v) (sound_of weight T U e u) (record { at_most = light }) agree v.some_event
    ∙ ap (λ (n : ℕ). let E : Events = record { count = n; weight = weight } in renumbered n (machine U) (fold E (machine U) (offset 0))) (sym e)
