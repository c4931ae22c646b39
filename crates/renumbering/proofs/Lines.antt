-- Rows in line: what one more row makes of them, and that they are never more than there are rows.
use mathlib.Core.Path.{◌≡◌, refl, sym, ap, subst, ◌∙◌}
use mathlib.Core.Bool.{Bool, true, false, ◌||◌, cond}
use mathlib.Core.List.{List, [], ◌∷◌, ◌++◌}
use mathlib.Core.Logic.{inl, inr, ◌≢◌}
use Prim.Native.Nat.{ℕ, suc, ◌+◌, ◌*◌, ◌≤◌, ◌<◌}
use native.Mathlib.Omega.{arith}
use native.Mathlib.Decide.{dec_lt}
use borrow.Author.Tests.{eqb-false, eq-eqb, ne_eqb}
use lib.Dec.{eqb}
use lib.ListN.{length, get_or, set, length-set, length-append, get_or-append}
use lib.Seq.{ext_get_or, get_or-set_same, get_or-set_other, get_or-append_seam}
use Rattle.automata.proofs.Lists.{Mem, Pairwise, Distinct, few}
use Rattle.automata.proofs.Tests.{either}
use Rattle.tables.specs.Lists.{some, position, place, sift}
use Rattle.tables.proofs.Lists.{pairwise_map, sift-more, sift-all, sift-apart, Apart}
use Rattle.tables.proofs.Over.{part_length, part_at}
use Rattle.scratch.proofs.Numbers.{eq_or_ne}
use Rattle.renumbering.specs.Line.{fold_row, line_in, number_of, Lined, Frame}

-- ---- lists that are sifted

pub sift-append : (like : ℕ → ℕ → Bool) (xs ys l : List ℕ) → sift like l (xs ++ ys) ≡ sift like (sift like l xs) ys
unfolding sift
sift-append like [] ys l = refl
sift-append like (x ∷ xs) ys l = pick (some (like x) l) (sift-append like xs ys)
  where
    pick : (b : Bool) → ((m : List ℕ) → sift like m (xs ++ ys) ≡ sift like (sift like m xs) ys)
        → elim b [ true ↦ sift like l (xs ++ ys) | false ↦ sift like (l ++ (x ∷ [])) (xs ++ ys) ]
        ≡ sift like (elim b [ true ↦ sift like l xs | false ↦ sift like (l ++ (x ∷ [])) xs ]) ys
    pick true h = h l
    pick false h = h (l ++ (x ∷ []))

pub sift-length : (like : ℕ → ℕ → Bool) (xs l : List ℕ) → length l ≤ length (sift like l xs)
sift-length like xs l = let m = sift-more like xs l in omega (arith, ap length m.1, length-append l m.0)

sift_in : (x : ℕ) (l : List ℕ) → some (eqb x) l ≡ true → sift eqb l (x ∷ []) ≡ l
unfolding sift
sift_in x l e = ap (λ (b : Bool). elim b [ true ↦ l | false ↦ l ++ (x ∷ []) ]) e

sift_out : (x : ℕ) (l : List ℕ) → some (eqb x) l ≡ false → sift eqb l (x ∷ []) ≡ l ++ (x ∷ [])
unfolding sift
sift_out x l e = ap (λ (b : Bool). elim b [ true ↦ l | false ↦ l ++ (x ∷ []) ]) e

-- ---- numbers

or-none : (b : Bool) → (b || false) ≡ b
or-none true = refl
or-none false = refl

some_snoc : (f : ℕ → Bool) (l : List ℕ) (x : ℕ) → some f (l ++ (x ∷ [])) ≡ (some f l || f x)
unfolding some
some_snoc f [] x = or-none (f x)
some_snoc f (y ∷ l) x = pick (f y) (some_snoc f l x)
  where
    pick : (b : Bool) → some f (l ++ (x ∷ [])) ≡ (some f l || f x) → (b || some f (l ++ (x ∷ []))) ≡ ((b || some f l) || f x)
    pick true h = refl
    pick false h = h

position_snoc : (f : ℕ → Bool) (l : List ℕ) (x : ℕ) → position f (l ++ (x ∷ [])) ≡ cond (some f l) (position f l) (length l + cond (f x) 0 1)
unfolding position some
position_snoc f [] x = pick (f x)
  where
    pick : (b : Bool) → ◌≡◌ {A = ℕ} (elim b [ true ↦ 0 | false ↦ 1 ]) (0 + cond b 0 1)
    pick true = refl
    pick false = refl
position_snoc f (y ∷ l) x = pick (f y) (some f l) (position_snoc f l x)
  where
    pick : (b c : Bool) → position f (l ++ (x ∷ [])) ≡ cond c (position f l) (length l + cond (f x) 0 1)
        → ◌≡◌ {A = ℕ} (elim b [ true ↦ 0 | false ↦ suc (position f (l ++ (x ∷ []))) ])
        (cond (b || c) (elim b [ true ↦ 0 | false ↦ suc (position f l) ]) (suc (length l) + cond (f x) 0 1))
    pick true c h = refl
    pick false true h = ap suc h
    pick false false h = ap suc h ∙ omega arith

-- A row in line has a number, and no other.
number-none : (x : ℕ) (l : List ℕ) → number_of l x ≡ 0 → some (eqb x) l ≡ false
number-none x l e = elim (either (some (eqb x) l)) [
  | inl t ↦ let z : ◌≡◌ {A = ℕ} (suc (place x l)) 0 = sym (rw t) ∙ e in absurd (omega arith)
  | inr f ↦ f
]

number-some : (x : ℕ) (l : List ℕ) → (number_of l x ≡ 0 → ⊥) → some (eqb x) l ≡ true
number-some x l ne = elim (either (some (eqb x) l)) [ inl t ↦ t | inr f ↦ absurd (ne (rw f)) ]

module _ (x : ℕ) (l : List ℕ) (out : some (eqb x) l ≡ false) where
  -- The last in line has the last number,
  number_last : number_of (l ++ (x ∷ [])) x ≡ suc (length l)
  number_last = rw (some_snoc (eqb x) l x, position_snoc (eqb x) l x, out, eq-eqb x x refl) (omega arith)

  -- and the others have those they had.
  number_other : (y : ℕ) → y ≢ x → number_of (l ++ (x ∷ [])) y ≡ number_of l y
  number_other y ne = elim (either (some (eqb y) l)) [
    | inl t ↦ rw (some_snoc (eqb y) l x, position_snoc (eqb y) l x, t)
    | inr f ↦ rw (some_snoc (eqb y) l x, f, ne_eqb y x ne)
  ]

-- ---- what has not changed

pub frame_none : (n count : ℕ) (s : List ℕ) → Frame n count s s
frame_none n count s = record { size = refl; leads = λ k h. refl; rest = λ k h g. refl; behind = λ k h. refl }

pub frame_then : {n c d : ℕ} {s t u : List ℕ} → Frame n c s t → Frame n d t u → c ≤ d → Frame n d s u
frame_then f g h = record {
  size = g.size ∙ f.size;
  leads = λ k l. g.leads k l ∙ f.leads k l;
  rest = λ k l m. g.rest k l m ∙ f.rest k (omega arith) m;
  behind = λ k l. g.behind k l ∙ f.behind k l;
}

-- The folds are not in line.
pub folds_stay : {n c : ℕ} {s t : List ℕ} → Frame n c s t → c ≤ n → (q : ℕ) → q < n → fold_row n t q ≡ fold_row n s q
folds_stay {n} f h q l = rw (f.rest (2 * n + q) (omega arith) (omega arith))

-- ---- the line as a list

module _ (n : ℕ) (l s : List ℕ) (g : Lined n l s) where
  pub distinct : Distinct l
  distinct = pairwise_map (Apart eqb) ◌≢◌ l (λ x y hx hy a e. eqb-false y x a (sym e)) g.apart

  pub line_fits : length l ≤ n
  line_fits = few l n distinct g.rows

  pub line_list : (count : ℕ) → count ≡ length l → line_in n s count ≡ l
  line_list count e =
      let fits : n + count ≤ length s = omega (arith, line_fits, g.room) in
      let long = part_length s n count fits in
      ext_get_or 0 (line_in n s count) l (long ∙ e) (λ i h. part_at s n count i (omega arith) ∙ g.line i (omega arith))

  -- The same, as the next step asks for it.
  pub line_again : (count : ℕ) → count ≡ length l → Lined n (line_in n s count) s
  line_again count e = subst (λ (m : List ℕ). Lined n m s) (sym (line_list count e)) g

-- ---- one row more
module _ {n count x : ℕ} {s : List ℕ} (hc : count ≤ n) (hx : x < n) (g : Lined n (line_in n s count) s) where
  abbrev l : List ℕ
  l = line_in n s count

  long : length l ≡ count
  long = part_length s n count (omega (arith, g.room))

  abbrev Joined : ℕ → List ℕ → List ℕ → Type 0
  Joined r m t = (r ≡ length m) × Lined n m t × Frame n (length m) s t

  -- It is in line.
  pub join_in : (get_or s (3 * n + x) 0 ≡ 0 → ⊥) → Joined count (sift eqb l (x ∷ [])) s
  join_in ne =
      let e = sift_in x l (number-some x l (λ z. ne (g.numbers x hx ∙ z))) in
      subst (λ (m : List ℕ). Joined count m s) (sym e) (sym long, g, frame_none n (length l) s)

  -- It is not.
  module _ (free : get_or s (3 * n + x) 0 ≡ 0) where
    out : some (eqb x) l ≡ false
    out = number-none x l (sym (g.numbers x hx) ∙ free)

    siftʳ : sift eqb l (x ∷ []) ≡ l ++ (x ∷ [])
    siftʳ = sift_out x l out

    apartʳ : Distinct (l ++ (x ∷ []))
    apartʳ = subst Distinct siftʳ (pairwise_map (Apart eqb) ◌≢◌ (sift eqb l (x ∷ [])) (λ y z hy hz a e. eqb-false z y a (sym e)) (sift-apart eqb (x ∷ []) l g.apart))

    insideʳ : (y : ℕ) → Mem y (sift eqb l (x ∷ [])) → y < n
    insideʳ = sift-all eqb (λ y. y < n) (x ∷ []) l g.rows (λ y h. elim h [ inl e ↦ subst (λ (z : ℕ). z < n) (sym e) hx | inr u ↦ absurd u ])

    longʳ : length (l ++ (x ∷ [])) ≡ count + 1
    longʳ = omega (arith, length-append l (x ∷ []), long)

    -- So there is room for it.
    join-room : count < n
    join-room = omega (arith, longʳ, few (l ++ (x ∷ [])) n apartʳ (λ y h. insideʳ y (subst (Mem y) (sym siftʳ) h)))

    pub join_out : Joined (count + 1) (sift eqb l (x ∷ [])) (set (set s (n + count) x) (3 * n + x) (count + 1))
    join_out =
        subst (λ (m : List ℕ). Joined (count + 1) m t) (sym siftʳ) (
          sym longʳ,
          record {
            room = omega (arith, size, g.room);
            apart = subst (Pairwise (Apart eqb)) siftʳ (sift-apart eqb (x ∷ []) l g.apart);
            rows = λ y h. insideʳ y (subst (Mem y) (sym siftʳ) h);
            line = there;
            numbers = numbered;
          },
          record {
            size = size;
            leads = λ k h. other k (omega (arith, join-room)) (omega arith);
            rest = λ k h m. other k (omega (arith, longʳ)) (omega arith);
            behind = λ k h. other k (omega (arith, join-room)) (omega arith);
          },
        )
      where
        t : List ℕ
        t = set (set s (n + count) x) (3 * n + x) (count + 1)

        size : length t ≡ length s
        size = length-set (set s (n + count) x) (3 * n + x) (count + 1) ∙ length-set s (n + count) x

        other : (k : ℕ) → k ≢ n + count → k ≢ 3 * n + x → get_or t k 0 ≡ get_or s k 0
        other k a b =
            get_or-set_other (set s (n + count) x) (3 * n + x) k (count + 1) 0 b ∙ get_or-set_other s (n + count) k x 0 a

        there : (i : ℕ) → i < length (l ++ (x ∷ [])) → get_or t (n + i) 0 ≡ get_or (l ++ (x ∷ [])) i 0
        there i h = elim (dec_lt i count) [
          | yes b ↦ other (n + i) (omega arith) (omega (arith, join-room)) ∙ g.line i (omega (arith, long)) ∙ sym (get_or-append l (x ∷ []) 0 i (omega (arith, long)))
          | no b ↦ last i (omega (arith, longʳ, long))
        ]
          where
            last : (i : ℕ) → i ≡ length l → get_or t (n + i) 0 ≡ get_or (l ++ (x ∷ [])) i 0
            last i q =
                let at : n + i ≡ n + count = omega (arith, long) in
                get_or-set_other (set s (n + count) x) (3 * n + x) (n + i) (count + 1) 0 (omega (arith, join-room))
                ∙ ap (λ (k : ℕ). get_or (set s (n + count) x) k 0) at ∙ get_or-set_same s (n + count) x 0 (omega (arith, join-room, g.room))
                ∙ sym (get_or-append_seam l x [] 0) ∙ ap (λ (k : ℕ). get_or (l ++ (x ∷ [])) k 0) (sym q)

        numbered : (y : ℕ) → y < n → get_or t (3 * n + y) 0 ≡ number_of (l ++ (x ∷ [])) y
        numbered y h = elim (eq_or_ne y x) [
          | inl q ↦ rw q (get_or-set_same (set s (n + count) x) (3 * n + x) (count + 1) 0 (omega (arith, length-set s (n + count) x, g.room))
              ∙ omega (arith, long) ∙ sym (number_last x l out))
          | inr q ↦ other (3 * n + y) (omega (arith, join-room)) (omega (arith, q)) ∙ g.numbers y h ∙ sym (number_other x l out y q)
        ]
