-- Laws of the lists that the rules of reduction are written with.
use mathlib.Core.Path.{◌≡◌, refl, sym, ap, subst, ◌∙◌}
use mathlib.Core.Bool.{Bool, true, false, cond}
use mathlib.Core.List.{List, [], ◌∷◌, ◌++◌, append-nil, append_assoc}
use mathlib.Core.Logic.{◌⊎◌, inl, inr, ◌≢◌}
use Prim.Native.Nat.{ℕ, zero, suc, ◌+◌, ◌≤◌, ◌<◌, zero-le, suc-le-suc}
use native.Mathlib.Omega.{arith}
use native.Mathlib.Decide.{dec_le, dec_lt}
use lib.Dec.{eqb}
use borrow.Author.Tests.{eqb-true, eq-eqb, ne_eqb}
use lib.ListN.{length, get_or, take, length-take, get_or-eq_default}
use lib.Seq.{get_or-take}
use Rattle.automata.proofs.Count.{count, count_none, count_also}
use Rattle.automata.proofs.Tests.{either, clash, not_true, or_cases, or_left, or_right}
use Rattle.automata.proofs.Lists.{Mem, Pairwise, Distinct, pigeonhole}
use Rattle.tables.specs.Lists.{tabulate, filter, some, first, position, place, sift}

-- ---- tabulate

pub tabulate-length {ℓ} : {A : Type ℓ} (n : ℕ) (f : ℕ → A) → length (tabulate n f) ≡ n
unfolding tabulate
tabulate-length zero f = refl
tabulate-length (suc n) f = ap suc (tabulate-length n (λ i. f (suc i)))

-- The list is read as f at every i, if f is d from n on.
pub tabulate-all {ℓ} : {A : Type ℓ} (n : ℕ) (f : ℕ → A) (i : ℕ) (d : A) → (n ≤ i → f i ≡ d) → get_or (tabulate n f) i d ≡ f i
unfolding tabulate
tabulate-all zero f i d out = sym (out zero-le)
tabulate-all (suc n) f zero d out = refl
tabulate-all (suc n) f (suc i) d out = tabulate-all n (λ j. f (suc j)) i d (λ h. out (suc-le-suc h))

pub tabulate-at {ℓ} : {A : Type ℓ} (n : ℕ) (f : ℕ → A) (i : ℕ) (d : A) → i < n → get_or (tabulate n f) i d ≡ f i
tabulate-at n f i d h = tabulate-all n f i d (λ g. absurd (omega arith))

-- What holds of every entry, and of the default, holds of what is read.
pub tabulate_read : (P : ℕ → Type 0) (n : ℕ) (f : ℕ → ℕ) (i d : ℕ) → P d → ((j : ℕ) → P (f j)) → P (get_or (tabulate n f) i d)
unfolding tabulate
tabulate_read P zero f i d h all = h
tabulate_read P (suc n) f zero d h all = all 0
tabulate_read P (suc n) f (suc i) d h all = tabulate_read P n (λ j. f (suc j)) i d h (λ j. all (suc j))

-- One more at the end.
pub tabulate-more {ℓ} : {A : Type ℓ} (n : ℕ) (f : ℕ → A) → tabulate (suc n) f ≡ tabulate n f ++ (f n ∷ [])
unfolding tabulate
tabulate-more zero f = refl
tabulate-more {A} (suc n) f = ap (λ (l : List A). f 0 ∷ l) (tabulate-more n (λ i. f (suc i)))

pub tabulate-same {ℓ} : {A : Type ℓ} (n : ℕ) (f g : ℕ → A) → ((i : ℕ) → i < n → f i ≡ g i) → tabulate n f ≡ tabulate n g
unfolding tabulate
tabulate-same zero f g h = refl
tabulate-same (suc n) f g h = rw (h 0 (omega arith), tabulate-same n (λ i. f (suc i)) (λ i. g (suc i)) (λ i l. h (suc i) (omega arith)))

-- A member read with one default or another.
pub read_same : (l : List ℕ) (i d e : ℕ) → i < length l → get_or l i d ≡ get_or l i e
read_same [] i d e h = absurd (omega arith)
read_same (x ∷ l) zero d e h = refl
read_same (x ∷ l) (suc i) d e h = read_same l i d e (omega arith)

-- ---- membership

pub mem_left : (l m : List ℕ) (x : ℕ) → Mem x l → Mem x (l ++ m)
mem_left [] m x h = absurd h
mem_left (y ∷ l) m x (inl e) = inl e
mem_left (y ∷ l) m x (inr h) = inr (mem_left l m x h)

pub mem_right : (l m : List ℕ) (x : ℕ) → Mem x m → Mem x (l ++ m)
mem_right [] m x h = h
mem_right (y ∷ l) m x h = inr (mem_right l m x h)

pub mem_cases : (l m : List ℕ) (x : ℕ) → Mem x (l ++ m) → Mem x l ⊎ Mem x m
mem_cases [] m x h = inr h
mem_cases (y ∷ l) m x (inl e) = inl (inl e)
mem_cases (y ∷ l) m x (inr h) = elim (mem_cases l m x h) [ inl g ↦ inl (inr g) | inr g ↦ inr g ]

pub mem_snoc : (l : List ℕ) (y x : ℕ) → Mem x (l ++ (y ∷ [])) → Mem x l ⊎ (x ≡ y)
mem_snoc l y x h = elim (mem_cases l (y ∷ []) x h) [ inl g ↦ inl g | inr g ↦ elim g [ inl e ↦ inr e | inr n ↦ absurd n ] ]

pub at_mem : (l : List ℕ) (i d : ℕ) → i < length l → Mem (get_or l i d) l
at_mem [] i d h = absurd (omega arith)
at_mem (x ∷ l) zero d h = inl refl
at_mem (x ∷ l) (suc i) d h = inr (at_mem l i d (omega arith))

pub mem_at : (l : List ℕ) (x d : ℕ) → Mem x l → (i : ℕ) × (i < length l) × (get_or l i d ≡ x)
mem_at [] x d h = absurd h
mem_at (y ∷ l) x d (inl e) = (0, omega arith, sym e)
mem_at (y ∷ l) x d (inr h) = let r = mem_at l x d h in (suc r.0, omega (arith, r.1), r.2)

-- A member of the first i stands at a place below i, and what stands there is one.
pub mem_take : (l : List ℕ) (i x d : ℕ) → Mem x (take i l) → (h : ℕ) × (h < i) × (h < length l) × (get_or l h d ≡ x)
mem_take l i x d m =
    let r = mem_at (take i l) x d m in
    let b : r.0 < i = omega (arith, r.1, length-take i l) in
    (r.0, b, omega (arith, r.1, length-take i l), sym (get_or-take i l r.0 d b) ∙ r.2)

pub take_mem : (l : List ℕ) (i h d : ℕ) → h < i → h < length l → Mem (get_or l h d) (take i l)
take_mem l i h d b g = subst (λ (x : ℕ). Mem x (take i l)) (get_or-take i l h d b) (at_mem (take i l) h d (omega (arith, length-take i l)))

-- A member read with a member for the default.
pub read_mem : (l : List ℕ) (i d : ℕ) → Mem d l → Mem (get_or l i d) l
read_mem l i d h = elim (dec_le (length l) i) [
  | yes g ↦ subst (λ (x : ℕ). Mem x l) (sym (get_or-eq_default l d g)) h
  | no g ↦ at_mem l i d (omega arith)
]

-- What is below n wherever there is a member is below n everywhere, if n is not 0.
pub read_below : (l : List ℕ) (n : ℕ) → 0 < n → ((i : ℕ) → i < length l → get_or l i 0 < n) → (i : ℕ) → get_or l i 0 < n
read_below l n pos h i = elim (dec_lt i (length l)) [ yes g ↦ h i g | no g ↦ let e = get_or-eq_default l 0 {n = i} (omega arith) in omega arith ]

pub mem_tabulate : (n : ℕ) (f : ℕ → ℕ) (i : ℕ) → i < n → Mem (f i) (tabulate n f)
unfolding tabulate
mem_tabulate zero f i h = absurd (omega arith)
mem_tabulate (suc n) f zero h = inl refl
mem_tabulate (suc n) f (suc i) h = inr (mem_tabulate n (λ j. f (suc j)) i (omega arith))

pub tabulate_mem : (n : ℕ) (f : ℕ → ℕ) (x : ℕ) → Mem x (tabulate n f) → (i : ℕ) × (i < n) × (x ≡ f i)
unfolding tabulate
tabulate_mem zero f x h = absurd h
tabulate_mem (suc n) f x (inl e) = (0, omega arith, e)
tabulate_mem (suc n) f x (inr h) = let r = tabulate_mem n (λ j. f (suc j)) x h in (suc r.0, omega (arith, r.1), r.2)

pub filter_mem : (f : ℕ → Bool) (l : List ℕ) (x : ℕ) → Mem x (filter f l) → Mem x l × (f x ≡ true)
unfolding filter
filter_mem f [] x h = absurd h
filter_mem f (y ∷ l) x h = pick (f y) refl h (filter_mem f l x)
  where
    pick : (b : Bool) → f y ≡ b → Mem x (elim b [ true ↦ y ∷ filter f l | false ↦ filter f l ]) → (Mem x (filter f l) → Mem x l × (f x ≡ true)) → Mem x (y ∷ l) × (f x ≡ true)
    pick true e (inl g) ih = (inl g, subst (λ (z : ℕ). f z ≡ true) (sym g) e)
    pick true e (inr g) ih = (inr (ih g).0, (ih g).1)
    pick false e g ih = (inr (ih g).0, (ih g).1)

pub mem_filter : (f : ℕ → Bool) (l : List ℕ) (x : ℕ) → Mem x l → f x ≡ true → Mem x (filter f l)
unfolding filter
mem_filter f [] x h t = absurd h
mem_filter f (y ∷ l) x h t = pick (f y) refl h (λ g. mem_filter f l x g t)
  where
    pick : (b : Bool) → f y ≡ b → Mem x (y ∷ l) → (Mem x l → Mem x (filter f l)) → Mem x (elim b [ true ↦ y ∷ filter f l | false ↦ filter f l ])
    pick true e (inl g) ih = inl g
    pick true e (inr g) ih = inr (ih g)
    pick false e (inl g) ih = clash (subst (λ (z : ℕ). f z ≡ true) g t) e
    pick false e (inr g) ih = ih g

-- ---- those that pass a test

-- 1 if the test is passed
abbrev pub one : Bool → ℕ
one b = cond b 1 0

module _ (f : ℕ → Bool) where
  filter_cons : (x : ℕ) (l : List ℕ) → filter f (x ∷ l) ≡ cond (f x) (x ∷ []) [] ++ filter f l
  unfolding filter
  filter_cons x l = pick (f x)
    where
      pick : (b : Bool) → (elim b [ true ↦ x ∷ filter f l | false ↦ filter f l ]) ≡ cond b (x ∷ []) [] ++ filter f l
      pick true = refl
      pick false = refl

  pub filter-one : (x : ℕ) → filter f (x ∷ []) ≡ cond (f x) (x ∷ []) []
  unfolding filter
  filter-one x = filter_cons x [] ∙ append-nil (cond (f x) (x ∷ []) [])

  filter-length : (x : ℕ) (l : List ℕ) → length (filter f (x ∷ l)) ≡ one (f x) + length (filter f l)
  filter-length x l = ap length (filter_cons x l) ∙ pick (f x)
    where
      pick : (b : Bool) → length (cond b (x ∷ []) [] ++ filter f l) ≡ one b + length (filter f l)
      pick true = omega arith
      pick false = omega arith

  pub filter-append : (l m : List ℕ) → filter f (l ++ m) ≡ filter f l ++ filter f m
  unfolding filter
  filter-append [] m = refl
  filter-append (x ∷ l) m = pick (f x) (filter-append l m)
    where
      pick : (b : Bool) → filter f (l ++ m) ≡ filter f l ++ filter f m
          → (elim b [ true ↦ x ∷ filter f (l ++ m) | false ↦ filter f (l ++ m) ]) ≡ (elim b [ true ↦ x ∷ filter f l | false ↦ filter f l ]) ++ filter f m
      pick true ih = ap (λ (k : List ℕ). x ∷ k) ih
      pick false ih = ih

  pub filter_few : (l : List ℕ) → length (filter f l) ≤ length l
  unfolding filter
  filter_few [] = omega arith
  filter_few (x ∷ l) = omega (arith, filter-length x l, pick (f x), filter_few l)
    where
      pick : (b : Bool) → one b ≤ 1
      pick true = omega arith
      pick false = omega arith

-- Two tests that exclude one another, and a third that is passed where one of them is.
pub filter_sum : (f g h : ℕ → Bool) → ((x : ℕ) → one (f x) + one (g x) ≤ one (h x)) → (l : List ℕ) → length (filter f l) + length (filter g l) ≤ length (filter h l)
unfolding filter
filter_sum f g h ok [] = omega arith
filter_sum f g h ok (x ∷ l) = omega (arith, filter-length f x l, filter-length g x l, filter-length h x l, ok x, filter_sum f g h ok l)

-- Two tests that the members pass alike.
pub filter_same : (f g : ℕ → Bool) (l : List ℕ) → ((x : ℕ) → Mem x l → f x ≡ g x) → filter f l ≡ filter g l
unfolding filter
filter_same f g [] h = refl
filter_same f g (x ∷ l) h = filter_cons f x l ∙ rw (h x (inl refl), filter_same f g l (λ y m. h y (inr m))) (sym (filter_cons g x l))

-- ---- tests of a list

pub some_has : (f : ℕ → Bool) (l : List ℕ) → some f l ≡ true → (x : ℕ) × Mem x l × (f x ≡ true)
unfolding some
some_has f [] e = clash e refl
some_has f (x ∷ l) e = pick (or_cases (f x) (some f l) e) (some_has f l)
  where
    pick : (f x ≡ true) ⊎ (some f l ≡ true) → (some f l ≡ true → (y : ℕ) × Mem y l × (f y ≡ true)) → (y : ℕ) × Mem y (x ∷ l) × (f y ≡ true)
    pick (inl g) ih = (x, inl refl, g)
    pick (inr g) ih = let r = ih g in (r.0, inr r.1, r.2)

pub has_some : (f : ℕ → Bool) (l : List ℕ) (x : ℕ) → Mem x l → f x ≡ true → some f l ≡ true
unfolding some
has_some f [] x h t = absurd h
has_some f (y ∷ l) x (inl e) t = or_left (f y) (some f l) (subst (λ (z : ℕ). f z ≡ true) e t)
has_some f (y ∷ l) x (inr h) t = or_right (f y) (some f l) (has_some f l x h t)

pub none_has : (f : ℕ → Bool) (l : List ℕ) → some f l ≡ false → (x : ℕ) → Mem x l → f x ≡ false
none_has f l e x h = elim (either (f x)) [ inl t ↦ clash (has_some f l x h t) e | inr t ↦ t ]

-- The test whether x is a member.
pub some_mem : (x : ℕ) (l : List ℕ) → some (eqb x) l ≡ true → Mem x l
some_mem x l t = let r = some_has (eqb x) l t in subst (λ (y : ℕ). Mem y l) (sym (eqb-true x r.0 r.2)) r.1

pub mem_some : (x : ℕ) (l : List ℕ) → Mem x l → some (eqb x) l ≡ true
mem_some x l h = has_some (eqb x) l x h (eq-eqb x x refl)

-- ---- lists whose members stand in a relation

module _ (R : ℕ → ℕ → Type 0) where
  pub pairwise_append : (l m : List ℕ) → Pairwise R l → Pairwise R m → ((x y : ℕ) → Mem x l → Mem y m → R x y) → Pairwise R (l ++ m)
  pairwise_append [] m pl pm h = pm
  pairwise_append (x ∷ l) m pl pm h = (
    λ y g. elim (mem_cases l m y g) [ inl k ↦ pl.0 y k | inr k ↦ h x y (inl refl) k ],
    pairwise_append l m pl.1 pm (λ y z hy hz. h y z (inr hy) hz),
  )

  pub pairwise_snoc : (l : List ℕ) (x : ℕ) → Pairwise R l → ((y : ℕ) → Mem y l → R y x) → Pairwise R (l ++ (x ∷ []))
  pairwise_snoc l x pl h =
      pairwise_append l (x ∷ []) pl (λ y g. absurd g, tt) (λ y z hy hz. elim hz [ inl e ↦ subst (R y) (sym e) (h y hy) | inr g ↦ absurd g ])

  pub pairwise_all : (l : List ℕ) → ((x y : ℕ) → Mem x l → Mem y l → R x y) → Pairwise R l
  pairwise_all [] h = tt
  pairwise_all (x ∷ l) h = (λ y g. h x y (inl refl) (inr g), pairwise_all l (λ y z hy hz. h y z (inr hy) (inr hz)))

  pub pairwise_cases : (l : List ℕ) → Pairwise R l → (q p : ℕ) → Mem q l → Mem p l → (q ≡ p) ⊎ (R q p ⊎ R p q)
  pairwise_cases [] pl q p hq hp = absurd hq
  pairwise_cases (x ∷ l) pl q p (inl e) (inl g) = inl (e ∙ sym g)
  pairwise_cases (x ∷ l) pl q p (inl e) (inr h) = inr (inl (subst (λ (y : ℕ). R y p) (sym e) (pl.0 p h)))
  pairwise_cases (x ∷ l) pl q p (inr h) (inl e) = inr (inr (subst (λ (y : ℕ). R y q) (sym e) (pl.0 q h)))
  pairwise_cases (x ∷ l) pl q p (inr h) (inr g) = pairwise_cases l pl.1 q p h g

  pub pairwise_map : (S : ℕ → ℕ → Type 0) (l : List ℕ) → ((x y : ℕ) → Mem x l → Mem y l → R x y → S x y) → Pairwise R l → Pairwise S l
  pairwise_map S [] h pl = tt
  pairwise_map S (x ∷ l) h pl = (λ y g. h x y (inl refl) (inr g) (pl.0 y g), pairwise_map S l (λ y z hy hz. h y z (inr hy) (inr hz)) pl.1)

  -- A member stands in the relation to those at later places.
  pub pairwise_at : (l : List ℕ) → Pairwise R l → (i j d : ℕ) → i < j → j < length l → R (get_or l i d) (get_or l j d)
  pairwise_at [] p i j d h g = absurd (omega arith)
  pairwise_at (x ∷ l) p i zero d h g = absurd (omega arith)
  pairwise_at (x ∷ l) p zero (suc j) d h g = p.0 (get_or l j d) (at_mem l j d (omega arith))
  pairwise_at (x ∷ l) p (suc i) (suc j) d h g = pairwise_at l p.1 i j d (omega arith) (omega arith)

  pub pairwise_filter : (f : ℕ → Bool) (l : List ℕ) → Pairwise R l → Pairwise R (filter f l)
  unfolding filter
  pairwise_filter f [] p = tt
  pairwise_filter f (x ∷ l) p = pick (f x) (pairwise_filter f l p.1)
    where
      pick : (b : Bool) → Pairwise R (filter f l) → Pairwise R (elim b [ true ↦ x ∷ filter f l | false ↦ filter f l ])
      pick true ih = (λ y m. p.0 y (filter_mem f l y m).0, ih)
      pick false ih = ih

-- A rising function gives a rising list.
pub tabulate_rises : (n : ℕ) (f : ℕ → ℕ) → ((i j : ℕ) → i < j → f i < f j) → Pairwise ◌<◌ (tabulate n f)
unfolding tabulate
tabulate_rises zero f h = tt
tabulate_rises (suc n) f h = (
  λ y m. (let r = tabulate_mem n (λ i. f (suc i)) y m in omega (arith, r.2, h 0 (suc r.0) (omega arith))),
  tabulate_rises n (λ i. f (suc i)) (λ i j g. h (suc i) (suc j) (omega arith)),
)

-- A list with no repeats is as long as there are numbers that are in it.
pub distinct_count : (l : List ℕ) (n : ℕ) → Distinct l → ((x : ℕ) → Mem x l → x < n) → length l ≡ count (λ q. some (eqb q) l) n
unfolding some
distinct_count [] n dl below = sym (count_none n)
distinct_count (x ∷ l) n dl below =
    ap suc (distinct_count l n dl.1 (λ y m. below y (inr m))) ∙ sym (count_also (λ q. some (eqb q) l) n x (below x (inl refl))
    (not_true (some (eqb x) l) (λ t. dl.0 x (some_mem x l t) refl)))

-- ---- first

-- What the first member that passes a test is, beside any other that does.
pub record First (f : ℕ → Bool) (R : ℕ → ℕ → Type 0) (l : List ℕ) (x y : ℕ) : Type 0 where
  pub is_in : Mem x l
  pub passes : f x ≡ true
  pub before : (x ≡ y) ⊎ R x y

pub first_is : (f : ℕ → Bool) (R : ℕ → ℕ → Type 0) (d : ℕ) (l : List ℕ) → Pairwise R l → (y : ℕ) → Mem y l → f y ≡ true → First f R l (first f d l) y
unfolding first
first_is f R d [] p y h t = absurd h
first_is f R d (x ∷ l) p y h t = pick (f x) refl h (λ g. first_is f R d l p.1 y g t)
  where
    pick : (b : Bool) → f x ≡ b → Mem y (x ∷ l) → (Mem y l → First f R l (first f d l) y) → First f R (x ∷ l) (elim b [ true ↦ x | false ↦ first f d l ]) y
    pick true e (inl g) ih = record { is_in = inl refl; passes = e; before = inl (sym g) }
    pick true e (inr g) ih = record { is_in = inl refl; passes = e; before = inr (p.0 y g) }
    pick false e (inl g) ih = clash (subst (λ (z : ℕ). f z ≡ true) g t) e
    pick false e (inr g) ih = let r = ih g in record { is_in = inr r.is_in; passes = r.passes; before = r.before }

-- What holds of every member, and of the default, holds of the first that passes.
pub first-all : (P : ℕ → Type 0) (f : ℕ → Bool) (d : ℕ) (l : List ℕ) → P d → ((x : ℕ) → Mem x l → P x) → P (first f d l)
unfolding first
first-all P f d [] h all = h
first-all P f d (x ∷ l) h all = pick (f x) (first-all P f d l h (λ y m. all y (inr m)))
  where
    pick : (b : Bool) → P (first f d l) → P (elim b [ true ↦ x | false ↦ first f d l ])
    pick true ih = all x (inl refl)
    pick false ih = ih

-- ---- place

pub position_le : (f : ℕ → Bool) (l : List ℕ) → position f l ≤ length l
unfolding position
position_le f [] = omega arith
position_le f (x ∷ l) = pick (f x) (position_le f l)
  where
    pick : (b : Bool) → position f l ≤ length l → elim b [ true ↦ 0 | false ↦ suc (position f l) ] ≤ suc (length l)
    pick true h = omega arith
    pick false h = omega arith

module _ (f : ℕ → Bool) where
  pub position_in : (l : List ℕ) (x : ℕ) → Mem x l → f x ≡ true → position f l < length l
  unfolding position
  position_in [] x h t = absurd h
  position_in (y ∷ l) x h t = pick (f y) refl h (λ g. position_in l x g t)
    where
      pick : (b : Bool) → f y ≡ b → Mem x (y ∷ l) → (Mem x l → position f l < length l) → (elim b [ true ↦ 0 | false ↦ suc (position f l) ]) < suc (length l)
      pick true e g ih = omega arith
      pick false e (inl g) ih = clash (subst (λ (z : ℕ). f z ≡ true) g t) e
      pick false e (inr g) ih = omega (arith, ih g)

  pub position_passes : (l : List ℕ) (d : ℕ) → position f l < length l → f (get_or l (position f l) d) ≡ true
  unfolding position
  position_passes [] d h = absurd (omega arith)
  position_passes (y ∷ l) d h = pick (f y) refl h (position_passes l d)
    where
      pick : (b : Bool) → f y ≡ b → (elim b [ true ↦ 0 | false ↦ suc (position f l) ]) < suc (length l) → (position f l < length l → f (get_or l (position f l) d) ≡ true)
          → f (get_or (y ∷ l) (elim b [ true ↦ 0 | false ↦ suc (position f l) ]) d) ≡ true
      pick true e g ih = e
      pick false e g ih = ih (omega arith)

  -- It is i, if no member before place i passes, and the one there does or there is none.
  pub position_is : (l : List ℕ) (i d : ℕ) → i ≤ length l → ((j : ℕ) → j < i → f (get_or l j d) ≡ false) → (i < length l → f (get_or l i d) ≡ true) → position f l ≡ i
  unfolding position
  position_is [] i d h before here = omega arith
  position_is (y ∷ l) zero d h before here = pick (f y) (here (omega arith))
    where
      pick : (b : Bool) → b ≡ true → ◌≡◌ {A = ℕ} (elim b [ true ↦ 0 | false ↦ suc (position f l) ]) 0
      pick true e = refl
      pick false e = clash e refl
  position_is (y ∷ l) (suc i) d h before here =
      pick (f y) (before 0 (omega arith)) (position_is l i d (omega arith) (λ j g. before (suc j) (omega arith)) (λ g. here (omega arith)))
    where
      pick : (b : Bool) → b ≡ false → position f l ≡ i → ◌≡◌ {A = ℕ} (elim b [ true ↦ 0 | false ↦ suc (position f l) ]) (suc i)
      pick true e g = clash refl e
      pick false e g = ap suc g

-- Of f 0, f 1, .. the first that passes.
pub tabulate-position : (f : ℕ → Bool) (n : ℕ) (h : ℕ → ℕ) (i : ℕ) → i ≤ n → ((j : ℕ) → j < i → f (h j) ≡ false) → (i < n → f (h i) ≡ true) → position f (tabulate n h) ≡ i
tabulate-position f n h i le before here =
    let len = tabulate-length n h in
    position_is f (tabulate n h) i 0 (omega arith) (λ j g. ap f (tabulate-at n h j 0 (omega arith)) ∙ before j g) (λ g. ap f (tabulate-at n h i 0 (omega arith)) ∙ here (omega arith))

pub place_in : (x : ℕ) (l : List ℕ) → Mem x l → place x l < length l
place_in x l h = position_in (eqb x) l x h (eq-eqb x x refl)

pub place_at : (x : ℕ) (l : List ℕ) → Mem x l → get_or l (place x l) 0 ≡ x
place_at x l h = sym (eqb-true x (get_or l (place x l) 0) (position_passes (eqb x) l 0 (place_in x l h)))

-- In a list with no repeats, a member's place is where it stands,
pub place_is : (l : List ℕ) → Distinct l → (i : ℕ) → i < length l → place (get_or l i 0) l ≡ i
place_is l dl i h = position_is (eqb (get_or l i 0)) l i 0 (omega arith)
    (λ j g. ne_eqb (get_or l i 0) (get_or l j 0) (λ e. pairwise_at ◌≢◌ l dl j i 0 g h (sym e))) (λ g. eq-eqb (get_or l i 0) (get_or l i 0) refl)

-- and it stands at no other.
pub place-one : (l : List ℕ) → Distinct l → (i j : ℕ) → i < length l → j < length l → get_or l i 0 ≡ get_or l j 0 → i ≡ j
place-one l dl i j hi hj e = sym (place_is l dl i hi) ∙ ap (λ (x : ℕ). place x l) e ∙ place_is l dl j hj

-- A list with no repeats is no longer than one that has all its members.
pub subset_length : (l m : List ℕ) → Distinct l → ((x : ℕ) → Mem x l → Mem x m) → length l ≤ length m
subset_length l m dl h = pigeonhole l (length m) dl (λ x g. place x m) (λ x g. place_in x m (h x g))
    (λ x y g k e. sym (place_at x m (h x g)) ∙ ap (λ (i : ℕ). get_or m i 0) e ∙ place_at y m (h y k))

-- ---- sift
module _ (like : ℕ → ℕ → Bool) where
  pub sift-more : (xs l : List ℕ) → (m : List ℕ) × (sift like l xs ≡ l ++ m)
  unfolding sift
  sift-more [] l = ([], sym (append-nil l))
  sift-more (x ∷ xs) l = pick (some (like x) l) (sift-more xs)
    where
      pick : (b : Bool) → ((l : List ℕ) → (m : List ℕ) × (sift like l xs ≡ l ++ m))
          → (m : List ℕ) × ((elim b [ true ↦ sift like l xs | false ↦ sift like (l ++ (x ∷ [])) xs ]) ≡ l ++ m)
      pick true ih = ih l
      pick false ih = let r = ih (l ++ (x ∷ [])) in (x ∷ r.0, r.1 ∙ append_assoc l (x ∷ []) r.0)

  -- Induction: what holds of l and of what is to come, whichever way each x goes, holds at the end.
  sift_ind : (P : List ℕ → List ℕ → Type 0)
      → ((x : ℕ) (xs l : List ℕ) → P l (x ∷ xs) → some (like x) l ≡ true → P l xs)
      → ((x : ℕ) (xs l : List ℕ) → P l (x ∷ xs) → some (like x) l ≡ false → P (l ++ (x ∷ [])) xs)
      → (xs l : List ℕ) → P l xs → P (sift like l xs) []
  unfolding sift
  sift_ind P skip add [] l h = h
  sift_ind P skip add (x ∷ xs) l h = pick (some (like x) l) refl (sift_ind P skip add xs)
    where
      pick : (b : Bool) → some (like x) l ≡ b → ((l : List ℕ) → P l xs → P (sift like l xs) [])
          → P (elim b [ true ↦ sift like l xs | false ↦ sift like (l ++ (x ∷ [])) xs ]) []
      pick true e ih = ih l (skip x xs l h e)
      pick false e ih = ih (l ++ (x ∷ [])) (add x xs l h e)

  pub sift-all : (Q : ℕ → Type 0) (xs l : List ℕ) → ((x : ℕ) → Mem x l → Q x) → ((x : ℕ) → Mem x xs → Q x) → (x : ℕ) → Mem x (sift like l xs) → Q x
  sift-all Q xs l hl hx = (sift_ind (λ l xs. ((x : ℕ) → Mem x l → Q x) × ((x : ℕ) → Mem x xs → Q x))
      (λ x xs l h e. (h.0, λ y g. h.1 y (inr g)))
      (λ x xs l h e. (λ y g. elim (mem_snoc l x y g) [ inl k ↦ h.0 y k | inr k ↦ subst Q (sym k) (h.1 x (inl refl)) ], λ y g. h.1 y (inr g)))
      xs l (hl, hx)).0

  -- No member is like one before it.
  abbrev pub Apart : ℕ → ℕ → Type 0
  Apart x y = like y x ≡ false

  pub sift-apart : (xs l : List ℕ) → Pairwise Apart l → Pairwise Apart (sift like l xs)
  sift-apart = sift_ind (λ l xs. Pairwise Apart l) (λ x xs l h e. h) (λ x xs l h e. pairwise_snoc Apart l x h (none_has (like x) l e))

  -- Each of xs is like some member that is no later than itself, in an order that the lists follow.
  module _ (R : ℕ → ℕ → Type 0) where
    pub record Ordered (l xs : List ℕ) : Type 0 where
      pub done : Pairwise R l
      pub ahead : Pairwise R xs
      pub between : (y x : ℕ) → Mem y l → Mem x xs → R y x

    pub ordered-nil : (xs : List ℕ) → Pairwise R xs → Ordered [] xs
    ordered-nil xs p = record { done = tt; ahead = p; between = λ y x g h. absurd g }

    ordered-skip : (x : ℕ) (xs l : List ℕ) → Ordered l (x ∷ xs) → Ordered l xs
    ordered-skip x xs l o = record { done = o.done; ahead = o.ahead.1; between = λ y z hy hz. o.between y z hy (inr hz) }

    ordered-add : (x : ℕ) (xs l : List ℕ) → Ordered l (x ∷ xs) → Ordered (l ++ (x ∷ [])) xs
    ordered-add x xs l o = record {
      done = pairwise_snoc R l x o.done (λ y g. o.between y x g (inl refl));
      ahead = o.ahead.1;
      between = λ y z hy hz. elim (mem_snoc l x y hy) [ inl g ↦ o.between y z g (inr hz) | inr e ↦ subst (λ (u : ℕ). R u z) (sym e) (o.ahead.0 z hz) ];
    }

    pub sift-ordered : (xs l : List ℕ) → Ordered l xs → Pairwise R (sift like l xs)
    sift-ordered xs l o = (sift_ind Ordered (λ x xs l o e. ordered-skip x xs l o) (λ x xs l o e. ordered-add x xs l o) xs l o).done

    -- a member that x is like, and that is no later
    pub record Cover (x : ℕ) (l : List ℕ) : Type 0 where
      pub by : ℕ
      pub is_in : Mem by l
      pub alike : like x by ≡ true
      pub early : R by x

    cover-more : (x y : ℕ) (l : List ℕ) → Cover x l → Cover x (l ++ (y ∷ []))
    cover-more x y l c = record { by = c.by; is_in = mem_left l (y ∷ []) c.by c.is_in; alike = c.alike; early = c.early }

    pub sift-covers : (xs l : List ℕ) → Ordered l xs → (x : ℕ) → like x x ≡ true → R x x → Mem x xs → Cover x (sift like l xs)
    sift-covers xs l o x self still h = last (sift_ind (λ m ys. Ordered m ys × (Mem x ys ⊎ Cover x m)) skip add xs l (o, inl h)).1
      where
        last : Mem x [] ⊎ Cover x (sift like l xs) → Cover x (sift like l xs)
        last (inl g) = absurd g
        last (inr c) = c

        skip : (y : ℕ) (ys l : List ℕ) → Ordered l (y ∷ ys) × (Mem x (y ∷ ys) ⊎ Cover x l) → some (like y) l ≡ true → Ordered l ys × (Mem x ys ⊎ Cover x l)
        skip y ys l o e = (
          ordered-skip y ys l o.0,
          elim o.1 [
            | inl m ↦ elim m [
              | inl g ↦ (let r = some_has (like y) l e in
                  inr (record { by = r.0; is_in = r.1; alike = subst (λ (u : ℕ). like u r.0 ≡ true) (sym g) r.2; early = subst (R r.0) (sym g) (o.0.between r.0 y r.1 (inl refl)) }))
              | inr g ↦ inl g
            ]
            | inr c ↦ inr c
          ],
        )

        add : (y : ℕ) (ys l : List ℕ) → Ordered l (y ∷ ys) × (Mem x (y ∷ ys) ⊎ Cover x l) → some (like y) l ≡ false
            → Ordered (l ++ (y ∷ [])) ys × (Mem x ys ⊎ Cover x (l ++ (y ∷ [])))
        add y ys l o e = (
          ordered-add y ys l o.0,
          elim o.1 [
            | inl m ↦ elim m [
              | inl g ↦ inr (record { by = x; is_in = mem_right l (y ∷ []) x (inl g); alike = self; early = still })
              | inr g ↦ inl g
            ]
            | inr c ↦ inr (cover-more x y l c)
          ],
        )

  -- Where each of xs is like some member, nothing is added.
  pub sift-none : (xs l : List ℕ) → ((x : ℕ) → Mem x xs → some (like x) l ≡ true) → sift like l xs ≡ l
  unfolding sift
  sift-none [] l h = refl
  sift-none (x ∷ xs) l h = pick (some (like x) l) (h x (inl refl)) (sift-none xs l (λ y g. h y (inr g)))
    where
      pick : (b : Bool) → b ≡ true → sift like l xs ≡ l → (elim b [ true ↦ sift like l xs | false ↦ sift like (l ++ (x ∷ [])) xs ]) ≡ l
      pick true e ih = ih
      pick false e ih = clash e refl
