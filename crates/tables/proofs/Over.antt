-- Laws of a buffer that is written over from some place on.
use mathlib.Core.Path.{◌≡◌, sym, ap, subst, ◌∙◌}
use mathlib.Core.List.{List, [], ◌∷◌, ◌++◌, append_assoc, append-nil}
use Prim.Native.Nat.{ℕ, suc, ◌+◌, ◌-◌, ◌≤◌, ◌<◌}
use native.Mathlib.Nat.{zero-add}
use native.Mathlib.Numerals.{add-one}
use native.Mathlib.Omega.{arith}
use native.Mathlib.Decide.{dec_lt}
use lib.ListN.{length, get_or, take, drop, set, length-append, length-drop, take-append-drop, drop_of_length-le, get_or-append}
use lib.Seq.{length-take-le, take-add, take-append_seam, get_or-take, get_or-drop, take_at, drop_at, take-suc, take_all, drop-drop, set_split, append_snoc, ext_get_or}
use Rattle.tables.specs.Lists.{over, tabulate}
use Rattle.tables.proofs.Lists.{tabulate-length, tabulate-at}

pub over_none : (d : List ℕ) (at : ℕ) → over d at [] ≡ d
unfolding over
over_none d at =
    let e : at + 0 ≡ at = omega arith in
    rw (e, append-nil) (take-append-drop at d)

module _ (d : List ℕ) (at : ℕ) (s : List ℕ) (fits : at + length s ≤ length d) where
  -- what stands before the end of s
  front : length (take at d ++ s) ≡ at + length s
  front =
      let h = length-take-le at d (omega arith) in
      length-append (take at d) s ∙ ap (λ (n : ℕ). n + length s) h

  pub over-length : length (over d at s) ≡ length d
  unfolding over
  over-length = omega (arith, length-append (take at d ++ s) (drop (at + length s) d), front, length-drop (at + length s) d)

  pub take-over : take (at + length s) (over d at s) ≡ take at d ++ s
  unfolding over
  take-over = take_at (take at d ++ s) (drop (at + length s) d) (at + length s) front

  pub drop-over : drop (at + length s) (over d at s) ≡ drop (at + length s) d
  unfolding over
  drop-over = drop_at (take at d ++ s) (drop (at + length s) d) (at + length s) front

  -- Written over once more where the first part ends.
  pub over-over : (t : List ℕ) → over (over d at s) (at + length s) t ≡ over d at (s ++ t)
  unfolding over
  over-over t =
      let n : at + length s + length t ≡ at + length (s ++ t) = omega (arith, length-append s t) in
      let rest : drop (at + length s + length t) (over d at s) ≡ drop (at + length (s ++ t)) d
      = sym (drop-drop (length t) (at + length s) (over d at s)) ∙ ap (drop (length t)) drop-over ∙ drop-drop (length t) (at + length s) d
      ∙ ap (λ (k : ℕ). drop k d) n in
      rw (take-over, rest, append_assoc (take at d) s t)

-- A store is one element written over.
pub over-set : (d : List ℕ) (at x : ℕ) → at < length d → set d at x ≡ over d at (x ∷ [])
unfolding over
over-set d at x h =
    let e : suc at ≡ at + 1 = omega arith in
    set_split d at x h ∙ sym (append_snoc (take at d) x (drop (suc at) d)) ∙ ap (λ (n : ℕ). take at d ++ (x ∷ []) ++ drop n d) e

-- Two stores are two elements.
pub over_two : (d : List ℕ) (at x y : ℕ) → at + 2 ≤ length d → set (set d at x) (at + 1) y ≡ over d at (x ∷ y ∷ [])
over_two d at x y h =
    ap (λ (e : List ℕ). set e (at + 1) y) (over-set d at x (omega arith))
    ∙ over-set (over d at (x ∷ [])) (at + 1) y (omega (arith, over-length d at (x ∷ []) (omega arith)))
    ∙ over-over d at (x ∷ []) (omega arith) (y ∷ [])

pub over_three : (d : List ℕ) (at x y z : ℕ) → at + 3 ≤ length d → set (set (set d at x) (at + 1) y) (at + 2) z ≡ over d at (x ∷ y ∷ z ∷ [])
over_three d at x y z h =
    let two : List ℕ = x ∷ y ∷ [] in
    ap (λ (s : List ℕ). set s (at + 2) z) (over_two d at x y (omega arith))
    ∙ over-set (over d at two) (at + 2) z (omega (arith, over-length d at two (omega arith)))
    ∙ over-over d at two (omega arith) (z ∷ [])

-- One element more of s.
pub over-next : (d : List ℕ) (at : ℕ) (s : List ℕ) (i : ℕ) → i < length s → at + i < length d → set (over d at (take i s)) (at + i) (get_or s i 0) ≡ over d at (take (suc i) s)
over-next d at s i hi hd =
    let n : length (take i s) ≡ i = length-take-le i s (omega arith) in
    let fits : at + length (take i s) ≤ length d = omega arith in
    let e : at + i ≡ at + length (take i s) = omega arith in
    over-set (over d at (take i s)) (at + i) (get_or s i 0) (omega (arith, over-length d at (take i s) fits))
    ∙ ap (λ (k : ℕ). over (over d at (take i s)) k (get_or s i 0 ∷ [])) e
    ∙ over-over d at (take i s) fits (get_or s i 0 ∷ [])
    ∙ ap (over d at) (sym (take-suc s i 0 hi))

-- All of s.
pub over-all : (d : List ℕ) (at : ℕ) (s : List ℕ) (i : ℕ) → length s ≤ i → over d at (take i s) ≡ over d at s
over-all d at s i h = ap (over d at) (take_all i s h)

-- One element more of f 0, f 1, ..
pub tabulate-next : (n : ℕ) (f : ℕ → ℕ) (d : List ℕ) (i : ℕ) (e : List ℕ) (x : ℕ) → e ≡ over d 0 (take i (tabulate n f)) → x ≡ f i → i < n → n ≤ length d
    → set e i x ≡ over d 0 (take (i + 1) (tabulate n f))
tabulate-next n f d i e x he hx h fits =
    let l : List ℕ = tabulate n f in
    let k : length l ≡ n = tabulate-length n f in
    let value : x ≡ get_or l i 0 = hx ∙ sym (tabulate-at n f i 0 h) in
    ap (λ (u : List ℕ). set u i x) he ∙ ap (set (over d 0 (take i l)) i) value ∙ ap (λ (j : ℕ). set (over d 0 (take i l)) j (get_or l i 0)) (sym (zero-add i))
    ∙ over-next d 0 l i (omega arith) (omega arith) ∙ ap (λ (j : ℕ). over d 0 (take j l)) (sym (add-one i))

-- Written on from where it ended.
pub over_on : (s : List ℕ) (at : ℕ) (l x : List ℕ) (end : ℕ) {t u : List ℕ} → t ≡ over s at l → end ≡ at + length l → end ≤ length s → u ≡ over t end x → u ≡ over s at (l ++ x)
over_on s at l x end et e fits eu =
    eu ∙ ap (λ (v : List ℕ). over v end x) et ∙ ap (λ (k : ℕ). over (over s at l) k x) e ∙ over-over s at l (omega arith) x

-- The same from the front.
pub over_then : (d e f s t : List ℕ) (n : ℕ) → e ≡ over d 0 s → n ≡ length s → n ≤ length d → f ≡ over e n t → f ≡ over d 0 (s ++ t)
over_then d e f s t n he hn fits hf = over_on d 0 s t n he (omega arith) fits hf

-- What is read inside of what was written, before it and behind it.
module _ (d : List ℕ) (at : ℕ) (s : List ℕ) (fits : at + length s ≤ length d) where
  pub over_part : take (length s) (drop at (over d at s)) ≡ s
  unfolding over
  over_part =
      let h : length (take at d) ≡ at = length-take-le at d (omega arith) in
      ap (λ (l : List ℕ). take (length s) (drop at l)) (append_assoc (take at d) s (drop (at + length s) d))
      ∙ ap (take (length s)) (drop_at (take at d) (s ++ drop (at + length s) d) at h)
      ∙ take-append_seam s (drop (at + length s) d)

  pub over_inside : (i x : ℕ) → i < length s → get_or (over d at s) (at + i) x ≡ get_or s i x
  over_inside i x h =
      sym (get_or-drop at (over d at s) i x) ∙ sym (get_or-take (length s) (drop at (over d at s)) i x h) ∙ ap (λ (l : List ℕ). get_or l i x) over_part

  pub over-before : (i x : ℕ) → i < at → get_or (over d at s) i x ≡ get_or d i x
  unfolding over
  over-before i x h =
      let n : length (take at d) ≡ at = length-take-le at d (omega arith) in
      ap (λ (l : List ℕ). get_or l i x) (append_assoc (take at d) s (drop (at + length s) d))
      ∙ get_or-append (take at d) (s ++ drop (at + length s) d) x i (omega arith) ∙ get_or-take at d i x h

  pub over-behind : (i x : ℕ) → at + length s ≤ i → get_or (over d at s) i x ≡ get_or d i x
  over-behind i x h =
      let e : at + length s + (i - (at + length s)) ≡ i = omega arith in
      ap (λ (k : ℕ). get_or (over d at s) k x) (sym e) ∙ sym (get_or-drop (at + length s) (over d at s) (i - (at + length s)) x)
      ∙ ap (λ (l : List ℕ). get_or l (i - (at + length s)) x) (drop-over d at s fits)
      ∙ get_or-drop (at + length s) d (i - (at + length s)) x ∙ ap (λ (k : ℕ). get_or d k x) e

  -- Written over again from the same place, by as much or more.
  pub over_again : (t : List ℕ) → length s ≤ length t → over (over d at s) at t ≡ over d at t
  unfolding over
  over_again t h =
      let e : at + length s + (length t - length s) ≡ at + length t = omega arith in
      let n : length (take at d) ≡ at = length-take-le at d (omega arith) in
      let front : take at (over d at s) ≡ take at d
      = ap (take at) (append_assoc (take at d) s (drop (at + length s) d)) ∙ take_at (take at d) (s ++ drop (at + length s) d) at n in
      let back : drop (at + length t) (over d at s) ≡ drop (at + length t) d
      = ap (λ (k : ℕ). drop k (over d at s)) (sym e) ∙ sym (drop-drop (length t - length s) (at + length s) (over d at s))
      ∙ ap (drop (length t - length s)) (drop-over d at s fits) ∙ drop-drop (length t - length s) (at + length s) d ∙ ap (λ (k : ℕ). drop k d) e in
      rw (front, back)

-- What stands before it, as a list.
pub take-before-over : (d : List ℕ) (at : ℕ) (s : List ℕ) → at + length s ≤ length d → take at (over d at s) ≡ take at d
unfolding over
take-before-over d at s fits =
    let n : length (take at d) ≡ at = length-take-le at d (omega arith) in
    ap (take at) (append_assoc (take at d) s (drop (at + length s) d)) ∙ take_at (take at d) (s ++ drop (at + length s) d) at n

-- A list with f of each number below n from place `at` on, and elsewhere as before.
pub over-tabulate : (s s' : List ℕ) (at n : ℕ) (f : ℕ → ℕ) → length s' ≡ length s → at + n ≤ length s
    → ((k : ℕ) → k < at → get_or s' k 0 ≡ get_or s k 0) → ((i : ℕ) → i < n → get_or s' (at + i) 0 ≡ f i) → ((k : ℕ) → at + n ≤ k → get_or s' k 0 ≡ get_or s k 0)
    → s' ≡ over s at (tabulate n f)
over-tabulate s s' at n f e room before here behind = ext_get_or 0 s' (over s at t) (e ∙ sym (over-length s at t fits)) same
  where
    t : List ℕ
    t = tabulate n f

    count : length t ≡ n
    count = tabulate-length n f

    fits : at + length t ≤ length s
    fits = omega (arith, count)

    same_at : (k i : ℕ) → i < n → k ≡ at + i → get_or s' k 0 ≡ get_or (over s at t) k 0
    same_at k i h g = rw g (here i h ∙ sym (tabulate-at n f i 0 h) ∙ sym (over_inside s at t fits i 0 (omega (arith, count))))

    same : (k : ℕ) → k < length s' → get_or s' k 0 ≡ get_or (over s at t) k 0
    same k h = elim (dec_lt k at) [
      | yes l ↦ before k l ∙ sym (over-before s at t fits k 0 l)
      | no l ↦ elim (dec_lt k (at + n)) [
        | yes g ↦ same_at k (k - at) (omega arith) (omega arith)
        | no g ↦ behind k (omega arith) ∙ sym (over-behind s at t fits k 0 (omega (arith, count)))
      ]
    ]

-- The same in front.
pub front-tabulate : (s s' : List ℕ) (n : ℕ) (f : ℕ → ℕ) → length s' ≡ length s → n ≤ length s → ((i : ℕ) → i < n → get_or s' i 0 ≡ f i) → ((k : ℕ) → n ≤ k → get_or s' k 0 ≡ get_or s k 0)
    → s' ≡ over s 0 (tabulate n f)
front-tabulate s s' n f e room here behind =
    over-tabulate s s' 0 n f e (omega arith) (λ k h. absurd (omega arith)) (λ i h. ap (λ (j : ℕ). get_or s' j 0) (zero-add i) ∙ here i h) (λ k h. behind k (omega arith))

pub front_at : (s : List ℕ) (n : ℕ) (f : ℕ → ℕ) → n ≤ length s → (i : ℕ) → i < n → get_or (over s 0 (tabulate n f)) i 0 ≡ f i
front_at s n f room i h =
    ap (λ (j : ℕ). get_or (over s 0 (tabulate n f)) j 0) (sym (zero-add i))
    ∙ over_inside s 0 (tabulate n f) (omega (arith, tabulate-length n f)) i 0 (omega (arith, tabulate-length n f)) ∙ tabulate-at n f i 0 h

-- Written at two places that do not meet, in either order.
pub over_swap : (d : List ℕ) (at : ℕ) (s : List ℕ) (to : ℕ) (t : List ℕ) → to + length t ≤ at → at + length s ≤ length d → over (over d at s) to t ≡ over (over d to t) at s
over_swap d at s to t apart fits =
    let ds = over-length d at s fits in
    let near : to + length t ≤ length d = omega arith in
    let dt = over-length d to t near in
    let far : at + length s ≤ length (over d to t) = omega arith in
    let back : to + length t ≤ length (over d at s) = omega arith in
    let el = over-length (over d at s) to t back in
    ext_get_or 0 (over (over d at s) to t) (over (over d to t) at s) (el ∙ ds ∙ sym dt ∙ sym (over-length (over d to t) at s far)) (λ i h. elim (dec_lt i at) [
      | yes l ↦ elim (dec_lt i to) [
        | yes m ↦ over-before (over d at s) to t back i 0 m ∙ over-before d at s fits i 0 l ∙ sym (over-before d to t near i 0 m) ∙ sym (over-before (over d to t) at s far i 0 l)
        | no m ↦ elim (dec_lt i (to + length t)) [
          | yes g ↦ inside i l (omega arith) g back near far
          | no g ↦ over-behind (over d at s) to t back i 0 (omega arith) ∙ over-before d at s fits i 0 l ∙ sym (over-behind d to t near i 0 (omega arith)) ∙ sym (over-before (over d to t) at s far i 0 l)
        ]
      ]
      | no l ↦ elim (dec_lt i (at + length s)) [
        | yes g ↦ over-behind (over d at s) to t back i 0 (omega arith) ∙ within i (omega arith) g far
        | no g ↦ over-behind (over d at s) to t back i 0 (omega arith) ∙ over-behind d at s fits i 0 (omega arith) ∙ sym (over-behind d to t near i 0 (omega arith)) ∙ sym (over-behind (over d to t) at s far i 0 (omega arith))
      ]
    ])
  where
    inside : (i : ℕ) → i < at → to ≤ i → i < to + length t → to + length t ≤ length (over d at s) → to + length t ≤ length d → at + length s ≤ length (over d to t)
        → get_or (over (over d at s) to t) i 0 ≡ get_or (over (over d to t) at s) i 0
    inside i l m g back near far =
        let e : to + (i - to) ≡ i = omega arith in
        subst (λ (j : ℕ). get_or (over (over d at s) to t) j 0 ≡ get_or (over (over d to t) at s) j 0) e
        (over_inside (over d at s) to t back (i - to) 0 (omega arith) ∙ sym (over_inside d to t near (i - to) 0 (omega arith)) ∙ sym (over-before (over d to t) at s far (to + (i - to)) 0 (omega arith)))

    within : (i : ℕ) → at ≤ i → i < at + length s → at + length s ≤ length (over d to t) → get_or (over d at s) i 0 ≡ get_or (over (over d to t) at s) i 0
    within i l g far =
        let e : at + (i - at) ≡ i = omega arith in
        subst (λ (j : ℕ). get_or (over d at s) j 0 ≡ get_or (over (over d to t) at s) j 0) e
        (over_inside d at s fits (i - at) 0 (omega arith) ∙ sym (over_inside (over d to t) at s far (i - at) 0 (omega arith)))

-- ---- a part of a list

pub part_length : (s : List ℕ) (at count : ℕ) → at + count ≤ length s → length (take count (drop at s)) ≡ count
part_length s at count fits = length-take-le count (drop at s) (omega (arith, length-drop at s))

pub part_at : (s : List ℕ) (at count i : ℕ) → i < count → get_or (take count (drop at s)) i 0 ≡ get_or s (at + i) 0
part_at s at count i h = get_or-take count (drop at s) i 0 h ∙ get_or-drop at s i 0

-- Written over itself it is what it was.
pub part_over : (s : List ℕ) (at count : ℕ) → at + count ≤ length s → over s at (take count (drop at s)) ≡ s
unfolding over
part_over s at count fits =
    let n : at + length (take count (drop at s)) ≡ at + count = omega (arith, part_length s at count fits) in
    rw (n, sym (take-add at count s)) (take-append-drop (at + count) s)

-- What is written behind it does not change it.
pub part_before : (d : List ℕ) (at count to : ℕ) (s : List ℕ) → at + count ≤ to → to + length s ≤ length d → take count (drop at (over d to s)) ≡ take count (drop at d)
part_before d at count to s apart fits =
    let inside : at + count ≤ length (over d to s) = omega (arith, over-length d to s fits) in
    let size = part_length (over d to s) at count inside in
    ext_get_or 0 (take count (drop at (over d to s))) (take count (drop at d)) (size ∙ sym (part_length d at count (omega arith))) (λ i h.
    let g : i < count = omega arith in
    part_at (over d to s) at count i g ∙ over-before d to s fits (at + i) 0 (omega arith) ∙ sym (part_at d at count i g))

-- ---- the rest of a buffer, lent on from a place

-- The rest, as it is lent, and the buffer with another rest in its place.
abbrev pub rest : List ℕ → ℕ → List ℕ
rest d at = take (length d - at) (drop at d)

abbrev pub with_rest : List ℕ → ℕ → List ℕ → List ℕ
with_rest d at s = take at d ++ (s ++ drop (length d - at) (drop at d))

module _ (d : List ℕ) (at : ℕ) where
  pub rest_is : rest d at ≡ drop at d
  rest_is = take_all (length d - at) (drop at d) (omega (arith, length-drop at d))

  pub rest-length : length (rest d at) ≡ length d - at
  rest-length = ap length rest_is ∙ length-drop at d

  pub rest_same : with_rest d at (rest d at) ≡ d
  rest_same = ap (λ (l : List ℕ). take at d ++ l) (take-append-drop (length d - at) (drop at d)) ∙ take-append-drop at d

  -- What is written over the rest from its front is written over the buffer from the place.
  pub rest_over : (s : List ℕ) → with_rest d at (over (rest d at) 0 s) ≡ over d at s
  unfolding over
  rest_over s =
      let front : over (drop at d) 0 s ≡ s ++ drop (at + length s) d =
      ap (λ (n : ℕ). s ++ drop n (drop at d)) (zero-add (length s)) ∙ ap (λ (l : List ℕ). s ++ l) (drop-drop (length s) at d) in
      rw (rest_is, drop_of_length-le (drop at d) {i = length d - at} (omega (arith, length-drop at d)))
      (ap (λ (l : List ℕ). take at d ++ l) (append-nil (over (drop at d) 0 s) ∙ front) ∙ sym (append_assoc (take at d) s (drop (at + length s) d)))
