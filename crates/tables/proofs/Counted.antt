-- Weights by a mask; and with every event counted, lengths, demands, reduced table and records are what they were before there was a mask (#104).
use mathlib.Core.Path.{◌≡◌, refl, sym, ap, ap₂, fun_ext, ◌∙◌}
use mathlib.Core.Bool.{Bool, true, false, ◌&&◌}
use mathlib.Core.List.{List, [], ◌∷◌, ◌++◌}
use mathlib.Core.Logic.{◌↔◌}
use Prim.Native.Nat.{ℕ, zero, suc, ◌-◌, ◌*◌, ◌/◌, ◌%◌, ◌^◌, ◌≤◌, ◌<◌}
use native.Mathlib.Nat.{div-div-eq-div-mul, div-one, pow-succ'}
use native.Mathlib.Omega.{arith}
use lib.Dec.{eqb}
use lib.ListN.{length}
use Rattle.automata.specs.Runs.{Events, Machine, Light, Len, Run, size, AgreeFrom}
use Rattle.automata.specs.Nearness.{every, rounds, near}
use Rattle.tables.specs.Lists.{first, filter, tabulate, sift}
use Rattle.tables.specs.Lengths.{least, distance, beside, only, sink, one_less, lead, reached, depth}
use Rattle.tables.specs.Table.{Table, Offset, offset, none, Valid, Agrees, Fewest, machine, events_of, weight_by}
use Rattle.tables.specs.Reduction.{same_len, level, levels, order, similar, kept, fold, fate_of, renumbered, reduced, records}
use Rattle.tables.proofs.Theorems.{Ready, ReadyFrom}

-- An event counts as one or not at all.
pub mask_light : (mask : ℕ) (T : Table) → Light (events_of (weight_by mask) T)
mask_light mask T = record { at_most = λ a. omega arith }

-- ---- weights that are alike for every event of n give the same lengths, and so the same of all that is made of them

every_same : (n : ℕ) (f g : ℕ → Bool) → ((a : ℕ) → a < n → f a ≡ g a) → every n f ≡ every n g
unfolding every
every_same zero f g h = refl
every_same (suc n) f g h = ap₂ ◌&&◌ (h n (omega arith)) (every_same n f g (λ a l. h a (omega arith)))

module _ (n : ℕ) (u v : ℕ → ℕ) (alike : (a : ℕ) → a < n → u a ≡ v a) where
  abbrev E : Events
  E = record { count = n; weight = u }

  abbrev F : Events
  F = record { count = n; weight = v }

  run_alike : (w : List ℕ) → Run E w → Run F w
  run_alike [] h = tt
  run_alike (a ∷ w) h = (h.0, run_alike w h.1)

  size-alike : (w : List ℕ) → Run E w → size E w ≡ size F w
  size-alike [] h = refl
  size-alike (a ∷ w) h = omega (arith, alike a h.0, size-alike w h.1)

  rounds-alike : (M : Machine) (base base' : ℕ → ℕ → Bool) (light light' : ℕ → Bool) → ((q p : ℕ) → base q p ≡ base' q p) → ((a : ℕ) → a < n → light a ≡ light' a)
      → (j q p : ℕ) → rounds E M base light j q p ≡ rounds F M base' light' j q p
  unfolding rounds
  rounds-alike M base base' light light' hb hl zero q p = hb q p
  rounds-alike M base base' light light' hb hl (suc j) q p =
      ap₂ ◌&&◌ (hb q p) (every_same n _ _ (λ a h.
      ap₂ (λ (b x : Bool). elim b [ true ↦ x | false ↦ true ]) (hl a h) (rounds-alike M base base' light light' hb hl j (M.target q a) (M.target p a))))

  near-alike : (M : Machine) (c L q p : ℕ) → near E M c L q p ≡ near F M c L q p
  unfolding near
  near-alike M c zero q p = rounds-alike M _ _ _ _ (λ x y. refl) (λ a h. refl) c q p
  near-alike M c (suc L) q p =
      rounds-alike M _ _ _ _
      (λ x y. every_same n _ _ (λ a h. ap₂ (λ (b z : Bool). elim b [ true ↦ true | false ↦ z ]) (ap (λ (m : ℕ). eqb m 0) (alike a h)) (near-alike M c L (M.target x a) (M.target y a))))
      (λ a h. ap (λ (m : ℕ). eqb m 0) (alike a h)) c q p

  distance-alike : (M : Machine) (q p : ℕ) → distance E M q p ≡ distance F M q p
  unfolding distance
  distance-alike M q p = ap (λ (f : ℕ → Bool). least f M.rows 0) (fun_ext (λ L. near-alike M M.rows L q p))

  module _ (M : Machine) where
    lead-alike : (q : ℕ) → lead E M q ≡ lead F M q
    unfolding lead
    lead-alike q = distance-alike (beside (only M q) sink) M.start M.rows

    depth-alike : (q : ℕ) → depth E M q ≡ depth F M q
    unfolding depth
    depth-alike q = ap one_less (lead-alike q)

    reached-alike : (q : ℕ) → reached E M q ≡ reached F M q
    unfolding reached
    reached-alike q = rw (lead-alike q)

    level-alike : (d : Len) → level E M d ≡ level F M d
    unfolding level
    level-alike d =
        ap (λ (f : ℕ → Bool). filter f (tabulate M.rows (λ q. q)))
        (fun_ext (λ q. ap₂ (λ (b : Bool) (e : Len). b && same_len e d) (reached-alike q) (depth-alike q)))

    levels-alike : (d : ℕ) → levels E M d ≡ levels F M d
    unfolding levels
    levels-alike zero = refl
    levels-alike (suc d) = ap₂ ◌++◌ (level-alike _) (levels-alike d)

    order_alike : order E M ≡ order F M
    unfolding order
    order_alike = ap₂ ◌++◌ (level-alike _) (levels-alike M.rows)

    module _ (k : Offset) where
      similar-alike : similar E M k ≡ similar F M k
      unfolding similar
      similar-alike = fun_ext (λ q. fun_ext (λ p. rw (distance-alike M q p, depth-alike q, depth-alike p)))

      kept-alike : kept E M k ≡ kept F M k
      unfolding kept
      kept-alike = ap₂ (λ (like : ℕ → ℕ → Bool) (l : List ℕ). sift like [] l) similar-alike order_alike

      fold_alike : fold E M k ≡ fold F M k
      unfolding fold
      fold_alike = fun_ext (λ q. ap₂ (λ (like : ℕ → ℕ → Bool) (l : List ℕ). first (like q) q l) similar-alike kept-alike)

-- So of a table only the weights of its own events matter.
module _ (u v : ℕ → ℕ) (T : Table) (alike : (a : ℕ) → a < T.events → u a ≡ v a) where
  pub reduced-alike : (k : Offset) → reduced u k T ≡ reduced v k T
  unfolding reduced
  reduced-alike k = ap (renumbered T.events (machine T)) (fold_alike T.events u v alike (machine T) k)

  pub records-alike : (k : Offset) → records u k T ≡ records v k T
  unfolding records fate_of
  records-alike k = rw (fold_alike T.events u v alike (machine T) k, kept-alike T.events u v alike (machine T) k, fun_ext (depth-alike T.events u v alike (machine T)), fun_ext (reached-alike T.events u v alike (machine T)))

agree_alike : (u v : ℕ → ℕ) (T U : Table) → ((a : ℕ) → a < T.events → u a ≡ v a) → (L : ℕ) → AgreeFrom (events_of u T) L (machine T) (machine U) → AgreeFrom (events_of v T) L (machine T) (machine U)
agree_alike u v T U alike L n = record {
  same = λ w hw hl.
      let back : Run (events_of u T) w = run_alike T.events v u (λ a h. sym (alike a h)) w hw in
      n.same w back (omega (arith, size-alike T.events u v alike w back));
}

pub agrees_alike : (u v : ℕ → ℕ) (T U : Table) → ((a : ℕ) → a < T.events → u a ≡ v a) → (k : Offset) → Agrees u k T U → Agrees v k T U
agrees_alike u v T U alike (offset k) a = agree_alike u v T U alike k a
agrees_alike u v T U alike none a = (a.0, agree_alike u v T U alike a.0 a.1)

-- ---- every event counted

-- The mask that counts each of m events: m ones.
abbrev pub full : ℕ → ℕ
full m = 2 ^ m - 1

-- A number of n ones has a one at every place below n.
ones : (n k : ℕ) → k < n → (2 ^ n - 1) / 2 ^ k % 2 ≡ 1
ones zero k h = absurd (omega arith)
ones (suc n) zero h =
    let p = pow-succ' 2 n in
    ap (λ (x : ℕ). x % 2) (div-one (2 ^ suc n - 1)) ∙ odd (2 ^ suc n) (2 ^ n) p (some n)
  where
    some : (n : ℕ) → 1 ≤ 2 ^ n
    some zero = omega arith
    some (suc n) = let p = pow-succ' 2 n in let h = some n in omega arith

    odd : (x y : ℕ) → x ≡ 2 * y → 1 ≤ y → (x - 1) % 2 ≡ 1
    odd x y e h = omega arith
ones (suc n) (suc k) h =
    let p = pow-succ' 2 n in
    let half : (2 ^ suc n - 1) / 2 ≡ 2 ^ n - 1 = omega arith in
    rw (pow-succ' 2 k, ← div-div-eq-div-mul (2 ^ suc n - 1) 2 (2 ^ k), half) (ones n k (omega arith))

pub all-count : (m a : ℕ) → m ≤ 32 → a < m → weight_by (full m) a ≡ 1
all-count m a h l = let e : a % 32 ≡ a = omega arith in rw e (ones m a l)

-- Document 01's own words: every event adds one to a run's length.
abbrev pub unit : ℕ → ℕ
unit a = 1

unit_size : (n : ℕ) (w : List ℕ) → size (record { count = n; weight = unit }) w ≡ length w
unit_size n [] = refl
unit_size n (a ∷ w) = omega (arith, unit_size n w)

module _ (T : Table) (v : Valid T) where
  abbrev pub counted : ℕ → ℕ
  counted = weight_by (full T.events)

  alike : (a : ℕ) → a < T.events → counted a ≡ unit a
  alike a h = all-count T.events a v.events_fit h

  back : (a : ℕ) → a < T.events → unit a ≡ counted a
  back a h = sym (alike a h)

  -- The length of a run is the number of its events;
  pub length_before : (w : List ℕ) → Run (events_of counted T) w → size (events_of counted T) w ≡ length w
  length_before w h = size-alike T.events counted unit alike w h ∙ unit_size T.events w

  -- the reduced table and the records are the same;
  pub reduced-before : (k : Offset) → reduced counted k T ≡ reduced unit k T
  reduced-before = reduced-alike counted unit T alike

  pub records-before : (k : Offset) → records counted k T ≡ records unit k T
  records-before = records-alike counted unit T alike

  -- demands 2 and 3 say the same,
  pub agrees_before : (k : Offset) (U : Table) → Agrees counted k T U ↔ Agrees unit k T U
  agrees_before k U = (agrees_alike counted unit T U alike k, agrees_alike unit counted T U back k)

  pub fewest_before : (k : Offset) (U : Table) → Fewest counted k T U ↔ Fewest unit k T U
  fewest_before k U = (λ f N n e a. f N n e ((agrees_before k N).1 a), λ f N n e a. f N n e ((agrees_before k N).0 a))

  -- and in document 01's words: "after every run of that many events or more".
  pub ready-before : (L : ℕ) (U : Table) → ReadyFrom counted L T U ↔ ((w : List ℕ) → Run (events_of counted T) w → L ≤ length w → Ready U w ↔ Ready T w)
  ready-before L U = (λ r w hw hl. r w hw (omega (arith, length_before w hw)), λ r w hw hl. r w hw (omega (arith, length_before w hw)))
