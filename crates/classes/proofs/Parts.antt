-- One class is split in two, place by place: those that go are led by the first of them. Leaders are read while they change; but none that is asked for
-- does, since the class to which they lead is another.
use mathlib.Core.Path.{◌≡◌, refl, sym, ap, subst, ◌∙◌}
use mathlib.Core.Bool.{Bool, true, false, true≢false}
use mathlib.Core.List.{List}
use mathlib.Core.Logic.{◌⊎◌, inl, inr, ⊎_elim}
use Rattle.std.specs.Prelude.{Option, Some, None, IfSome}
use Rattle.std.specs.Option.{unwrap_or}
use Rattle.std.proofs.lemmas.Option.{none-some, same_Some}
use Prim.Native.Nat.{ℕ, ◌+◌, ◌*◌, ◌≤◌, ◌<◌}
use native.Mathlib.Omega.{arith}
use borrow.Author.Tests.{eqb-true, eq-eqb, ne_eqb}
use lib.Dec.{eqb}
use lib.ListN.{length, set}
use lib.Seq.{get_or-set_same, get_or-set_other}
use Rattle.scratch.proofs.Numbers.{eq_or_ne, lt_or_ge}
use Rattle.splitting.specs.Places.{nxt_at, Frame, Canon, followers}
use Rattle.splitting.proofs.Frames.{frame_then, frame_set}
use Rattle.splitting.proofs.Counts.{followers_lt}
use Rattle.classes.specs.Steps.{Keyed, Goes, Part, stays, joins, Parts}

-- What became of place j, led by x before and by l now.
pub data Gone (goes : Type 0) (first : Option ℕ) (j x l : ℕ) : Type 0 where
  stayed : (goes → ⊥) → l ≡ x → Gone goes first j x l
  went : (y : ℕ) → goes → first ≡ Some y → y ≤ j → l ≡ y → Gone goes first j x l

-- The places below i had their turns.
pub record Parting (n c v : ℕ) (like : Bool) (h : ℕ → ℕ) (s t : List ℕ) (i : ℕ) (first : Option ℕ) : Type 0 where
  pub frame : Frame n s t
  pub ahead : (j : ℕ) → i ≤ j → j < n → nxt_at n t j ≡ nxt_at n s j
  pub turns : (j : ℕ) → j < i → Gone (Goes n c v like h s j) first j (nxt_at n s j) (nxt_at n t j)
  pub lead : (y : ℕ) → first ≡ Some y → (y < i) × Goes n c v like h s y × (nxt_at n t y ≡ y)

eqb_same : (a b v : ℕ) → (a ≡ v → b ≡ v) → (b ≡ v → a ≡ v) → eqb a v ≡ eqb b v
eqb_same a b v f g = ⊎_elim (λ e. eq-eqb a v e ∙ sym (eq-eqb b v (f e))) (λ e. ne_eqb a v e ∙ sym (ne_eqb b v (λ k. e (g k)))) (eq_or_ne a v)

module _ {n to c v : ℕ} {like : Bool} {h : ℕ → ℕ} {s : List ℕ} (p : Parts n to c v like h s) where
  module _ {t : List ℕ} {i : ℕ} {first : Option ℕ} (d : Parting n c v like h s t i first) where
    -- It can be seen as before which places are of class v.
    same-v : (x : ℕ) → x < n → eqb (nxt_at n t x) v ≡ eqb (nxt_at n s x) v
    same-v x l = ⊎_elim (λ g. pick (d.turns x g)) (λ g. ap (λ (k : ℕ). eqb k v) (d.ahead x g l)) (lt_or_ge x i)
      where
        pick : Gone (Goes n c v like h s x) first x (nxt_at n s x) (nxt_at n t x) → eqb (nxt_at n t x) v ≡ eqb (nxt_at n s x) v
        pick (stayed g e) = ap (λ (k : ℕ). eqb k v) e
        pick (went y g f low e) =
            let w = d.lead y f in
            eqb_same (nxt_at n t x) (nxt_at n s x) v
            (λ k. absurd (p.other (sym p.target ∙ ap (nxt_at n s) (sym k ∙ e) ∙ w.1.0)))
            (λ k. absurd (p.other (sym k ∙ g.0)))

    -- The first that went is below i.
    pub parting-first : i ≤ to → IfSome first (λ j. j < to)
    parting-first l = held first refl
      where
        held : (x : Option ℕ) → first ≡ x → IfSome x (λ j. j < to)
        held None e = tt
        held (Some y) e = omega (arith, (d.lead y e).0)

    module _ (room : 12 * n ≤ length s) (l : i < n) (inside : h i < n) where
      goes-is : Goes n c v like h t i → Goes n c v like h s i
      goes-is g = (sym (d.ahead i (omega arith) l) ∙ g.0, sym (same-v (h i) inside) ∙ g.1)

      goes_on : Goes n c v like h s i → Goes n c v like h t i
      goes_on g = (d.ahead i (omega arith) l ∙ g.0, same-v (h i) inside ∙ g.1)

      -- place i stays
      still : (Goes n c v like h s i → ⊥) → Parting n c v like h s t (i + 1) first
      still not =
          record {
            frame = d.frame;
            ahead = λ j a b. d.ahead j (omega arith) b;
            turns = λ j a. ⊎_elim (λ e. subst (λ (k : ℕ). Gone (Goes n c v like h s k) first k (nxt_at n s k) (nxt_at n t k)) (sym e) (stayed not (d.ahead i (omega arith) l))) (λ e. d.turns j (omega arith)) (eq_or_ne j i);
            lead = λ y e. let w = d.lead y e in (omega (arith, w.0), w.1, w.2);
          }

      -- place i is led by y
      module _ (y : ℕ) (r : Option ℕ) (goes : Goes n c v like h s i) (is : r ≡ Some y) (low : y ≤ i) (before : first ≡ None ⊎ first ≡ r) (new : first ≡ None → y ≡ i) where
        led : List ℕ
        led = set t (4 * n + i) y

        other : (j : ℕ) → (j ≡ i → ⊥) → nxt_at n led j ≡ nxt_at n t j
        unfolding led
        other j e = get_or-set_other t (4 * n + i) (4 * n + j) y 0 (λ k. e (omega arith))

        here : nxt_at n led i ≡ y
        unfolding led
        here = get_or-set_same t (4 * n + i) y 0 (omega (arith, room, d.frame.size))

        earlier : (j : ℕ) → j < i → Gone (Goes n c v like h s j) first j (nxt_at n s j) (nxt_at n t j) → Gone (Goes n c v like h s j) r j (nxt_at n s j) (nxt_at n led j)
        earlier j a (stayed g e) = stayed g (other j (omega arith) ∙ e)
        earlier j a (went z g e b k) = went z g (⊎_elim (λ o. absurd (none-some z (sym o ∙ e))) (λ o. sym o ∙ e) before) b (other j (omega arith) ∙ k)

        leader : (z : ℕ) → r ≡ Some z → (z < i + 1) × Goes n c v like h s z × (nxt_at n led z ≡ z)
        leader z e =
            let k : z ≡ y = same_Some z y (sym e ∙ is) in
            ⊎_elim
            (λ o. let w : z ≡ i = k ∙ new o in (omega arith, subst (Goes n c v like h s) (sym w) goes, ap (nxt_at n led) w ∙ here ∙ sym k))
            (λ o. let w = d.lead z (o ∙ e) in (omega (arith, w.0), w.1, other z (omega (arith, w.0)) ∙ w.2))
            before

        goes_to : Parting n c v like h s (set t (4 * n + i) y) (i + 1) r
        unfolding led
        goes_to =
            record {
              frame = frame_then d.frame (frame_set t (4 * n + i) y (omega arith) (omega arith) (inl (omega arith)));
              ahead = λ j a b. other j (omega arith) ∙ d.ahead j (omega arith) b;
              turns = λ j a.
                  ⊎_elim
                  (λ e. subst (λ (k : ℕ). Gone (Goes n c v like h s k) r k (nxt_at n s k) (nxt_at n led k)) (sym e) (went y goes is low here))
                  (λ e. earlier j (omega arith) (d.turns j (omega arith)))
                  (eq_or_ne j i);
              lead = leader;
            }

      pub parting-next : {u : List ℕ} {r : Option ℕ} → Part n i (Goes n c v like h t i) first t u r → Parting n c v like h s u (i + 1) r
      parting-next (stays not e f) = rw (e, f) (still (λ g. not (goes_on g)))
      parting-next {u} {r} (joins goes e f) = by first refl
        where
          by : (x : Option ℕ) → first ≡ x → Parting n c v like h s u (i + 1) r
          by None o = rw (e, o) (goes_to i r (goes-is goes) (f ∙ ap (λ (x : Option ℕ). Some (unwrap_or x i)) o) (omega arith) (inl o) (λ k. refl))
          by (Some y) o =
              let w = d.lead y o in
              let is : r ≡ Some y = f ∙ ap (λ (x : Option ℕ). Some (unwrap_or x i)) o in
              rw (e, o) (goes_to y r (goes-is goes) is (omega (arith, w.0)) (inr (o ∙ sym is)) (λ k. absurd (none-some y (sym k ∙ o))))

  -- ---- all places had their turns, and one went
  module _ {t : List ℕ} {first : Option ℕ} (d : Parting n c v like h s t to first) where
    leader-stays : (j : ℕ) → nxt_at n s j ≡ j → Goes n c v like h s j → ⊥
    leader-stays j e g = let w : j ≡ c = sym e ∙ g.0 in p.stays (subst (λ (k : ℕ). eqb (nxt_at n s (h k)) v ≡ like) w g.1)

    kept : (j : ℕ) → j < to → nxt_at n s j ≡ j → nxt_at n t j ≡ j
    kept j l e = pick (d.turns j l)
      where
        pick : Gone (Goes n c v like h s j) first j (nxt_at n s j) (nxt_at n t j) → nxt_at n t j ≡ j
        pick (stayed g k) = k ∙ e
        pick (went y g f b k) = absurd (leader-stays j e g)

    down : (j : ℕ) → j < to → nxt_at n t j ≤ j
    down j l = pick (d.turns j l)
      where
        pick : Gone (Goes n c v like h s j) first j (nxt_at n s j) (nxt_at n t j) → nxt_at n t j ≤ j
        pick (stayed g k) = omega (arith, k, p.canon.down j l)
        pick (went y g f b k) = omega arith

    led-by : (j : ℕ) → j < to → nxt_at n t (nxt_at n t j) ≡ nxt_at n t j
    led-by j l = pick (d.turns j l)
      where
        pick : Gone (Goes n c v like h s j) first j (nxt_at n s j) (nxt_at n t j) → nxt_at n t (nxt_at n t j) ≡ nxt_at n t j
        pick (stayed g k) = ap (nxt_at n t) k ∙ kept (nxt_at n s j) (omega (arith, p.canon.down j l)) (p.canon.leads j l) ∙ sym k
        pick (went y g f b k) = ap (nxt_at n t) k ∙ (d.lead y f).2 ∙ sym k

    both : (i j : ℕ) → nxt_at n s i ≡ nxt_at n s j → nxt_at n s (h i) ≡ nxt_at n s (h j) → Goes n c v like h s i → Goes n c v like h s j
    both i j e f g = (sym e ∙ g.0, ap (λ (k : ℕ). eqb k v) (sym f) ∙ g.1)

    together : (i j : ℕ) → nxt_at n s i ≡ nxt_at n s j → nxt_at n s (h i) ≡ nxt_at n s (h j) → Gone (Goes n c v like h s i) first i (nxt_at n s i) (nxt_at n t i)
        → Gone (Goes n c v like h s j) first j (nxt_at n s j) (nxt_at n t j) → nxt_at n t i ≡ nxt_at n t j
    together i j e f (stayed g k) (stayed g' k') = k ∙ e ∙ sym k'
    together i j e f (stayed g k) (went y g' o b k') = absurd (g (both j i (sym e) (sym f) g'))
    together i j e f (went y g o b k) (stayed g' k') = absurd (g' (both i j e f g))
    together i j e f (went y g o b k) (went z g' o' b' k') = let w : y ≡ z = same_Some y z (sym o ∙ o') in k ∙ w ∙ sym k'

    less : (i : ℕ) → i < to → Goes n c v like h s i → Gone (Goes n c v like h s i) first i (nxt_at n s i) (nxt_at n t i) → followers (nxt_at n t) to < followers (nxt_at n s) to
    less i l goes (stayed not k) = absurd (not goes)
    less i l goes (went y g f b k) =
        let w = d.lead y f in
        followers_lt (nxt_at n s) (nxt_at n t) to y kept w.0 (λ e. leader-stays y e w.1) w.2

    pub parting-end : (i : ℕ) → i < to → Goes n c v like h s i → Keyed n to (λ j. nxt_at n s (h j)) s t 1
    parting-end i l goes =
        record {
          frame = d.frame;
          canon = record { down = down; leads = led-by };
          same = λ j k a b e f. together j k e f (d.turns j a) (d.turns k b);
          count = omega (arith, less i l goes (d.turns i l));
          gains = λ j a e. omega arith;
        }

-- ---- how the class of a place that is unlike its leader is split
module _ {to : ℕ} (n : ℕ) (h : ℕ → ℕ) (s : List ℕ) (i : ℕ) (canon : Canon to (nxt_at n s)) (inside : (j : ℕ) → j < to → h j < to) (l : i < to)
    (unlike : nxt_at n s (h i) ≡ nxt_at n s (h (nxt_at n s i)) → ⊥) where
  pub leader_inside : nxt_at n s i < to
  leader_inside = omega (arith, canon.down i l)

  -- those go that lead where it leads, if that is out of the class
  pub parts_like : (v : ℕ) → v ≡ nxt_at n s (h i) → (v ≡ nxt_at n s i → ⊥) → Parts n to (nxt_at n s i) v true h s × Goes n (nxt_at n s i) v true h s i
  parts_like v e o = (
    record {
      canon = canon;
      inside = leader_inside;
      class = canon.leads i l;
      target = ap (nxt_at n s) e ∙ canon.leads (h i) (inside i l) ∙ sym e;
      other = o;
      stays = λ k. unlike (sym e ∙ sym (eqb-true (nxt_at n s (h (nxt_at n s i))) v k));
    },
    (refl, eq-eqb (nxt_at n s (h i)) v (sym e)),
  )

  -- else those that do not lead where its leader leads
  pub parts_else : (v w : ℕ) → v ≡ nxt_at n s (h i) → v ≡ nxt_at n s i → w ≡ nxt_at n s (h (nxt_at n s i)) → Parts n to (nxt_at n s i) w false h s × Goes n (nxt_at n s i) w false h s i
  parts_else v w e o k = (
    record {
      canon = canon;
      inside = leader_inside;
      class = canon.leads i l;
      target = ap (nxt_at n s) k ∙ canon.leads (h (nxt_at n s i)) (inside (nxt_at n s i) leader_inside) ∙ sym k;
      other = λ z. unlike (sym e ∙ o ∙ sym z ∙ k);
      stays = λ z. true≢false (sym (eq-eqb (nxt_at n s (h (nxt_at n s i))) w (sym k)) ∙ z);
    },
    (refl, ne_eqb (nxt_at n s (h i)) w (λ z. unlike (z ∙ k))),
  )
