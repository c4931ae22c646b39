-- A place that alone leads where it leads gets out of its class alone.
use mathlib.Core.Path.{◌≡◌, refl, sym, ap, subst, ◌∙◌}
use mathlib.Core.List.{List}
use mathlib.Core.Logic.{inl, ⊎_elim}
use Prim.Native.Nat.{ℕ, ◌+◌, ◌*◌, ◌/◌, ◌≤◌, ◌<◌}
use native.Mathlib.Omega.{arith}
use native.Mathlib.Nat.{zero-add}
use lib.Arith.{digits_lt, digits_div}
use lib.ListN.{length, get_or, set}
use lib.Seq.{get_or-set_same, get_or-set_other}
use Rattle.scratch.proofs.Numbers.{eq_or_ne}
use Rattle.splitting.specs.Places.{front, nxt_at, Canon}
use Rattle.splitting.proofs.Frames.{frame_set}
use Rattle.splitting.proofs.Counts.{followers_lt}
use Rattle.classes.specs.Values.{row_in, target_in, lead_to, Sizes, Reads}
use Rattle.classes.specs.Steps.{Keyed}
use Rattle.classes.proofs.Reading.{front_read, row_is, cell_in}

-- Of `count` values no two are x.
abbrev Single : (ℕ → ℕ) → ℕ → ℕ → Type 0
Single f count x = (i j : ℕ) → i < count → j < count → f i ≡ x → f j ≡ x → i ≡ j

-- One place is of the class to which place i leads, and stands for one row, which is the target of one row, which stands at one place.
module _ {n m to : ℕ} {cells s : List ℕ} (z : Sizes n m to cells s) (within : (j : ℕ) → j < to → Reads n m to cells s (row_in n (front n s) j)) (a : ℕ) (h : a < m) where
  -- what is read of place i
  pub record Looked (i row target place leader : ℕ) : Type 0 where
    pub row_is : row ≡ row_in n (front n s) i
    pub target_is : target ≡ target_in m cells (row_in n (front n s) i) a
    pub place_is : place ≡ lead_to n m cells (front n s) a i
    pub leader_is : leader ≡ nxt_at n s (lead_to n m cells (front n s) a i)
    pub cell : row * m + a < length cells
    pub target_low : target < n
    pub place_low : place < n

  pub looked : (i : ℕ) → i < to → let row = get_or s (3 * n + i) 0 in let target = get_or cells (row * m + a) 0 in let place = get_or s (2 * n + target) 0 in Looked i row target place (nxt_at n s place)
  looked i l =
      let w = within i l in
      let row = row_is n s i (get_or s (3 * n + i) 0) refl (omega (arith, z.inside)) in
      let target = ap (λ (q : ℕ). get_or cells (q * m + a) 0) row in
      let place = ap (λ (t : ℕ). get_or s (2 * n + t) 0) target ∙ sym (front_read n s (2 * n + target_in m cells (row_in n (front n s) i) a) (omega (arith, w.targets a h))) in
      record {
        row_is = row;
        target_is = target;
        place_is = place;
        leader_is = ap (nxt_at n s) place;
        cell = cell_in (get_or s (3 * n + i) 0) a z (omega (arith, row, w.row)) h;
        target_low = omega (arith, target, w.targets a h);
        place_low = omega (arith, place, w.places a h, z.inside);
      }

  pub sole_place : {i row target place leader : ℕ} → i < to → Looked i row target place leader → Single (λ k. get_or cells (0 + k) 0) (n * m) target → Single (λ k. get_or s (2 * n + k) 0) n place
      → Single (λ k. get_or s (4 * n + k) 0) to leader → Single (λ k. get_or s (3 * n + k) 0) to row → (j : ℕ) → j < to
      → nxt_at n s (lead_to n m cells (front n s) a j) ≡ nxt_at n s (lead_to n m cells (front n s) a i) → j ≡ i
  sole_place {i} {row} {target} {place} {leader} l d one-target one_place one-leader one-row j g e =
      let q : ℕ → ℕ = row_in n (front n s) in
      let t : ℕ → ℕ = λ k. target_in m cells (q k) a in
      let h-same = one-leader (lead_to n m cells (front n s) a j) (lead_to n m cells (front n s) a i) ((within j g).places a h) ((within i l).places a h) (e ∙ sym d.leader_is) (sym d.leader_is) in
      let reads : (k : ℕ) → k < to → get_or s (2 * n + t k) 0 ≡ lead_to n m cells (front n s) a k = λ k b. sym (front_read n s (2 * n + t k) (omega (arith, (within k b).targets a h))) in
      let t_same = one_place (t j) (t i) ((within j g).targets a h) ((within i l).targets a h) (reads j g ∙ h-same ∙ sym d.place_is) (reads i l ∙ sym d.place_is) in
      let at : (k : ℕ) → get_or cells (0 + (q k * m + a)) 0 ≡ t k = λ k. ap (λ (x : ℕ). get_or cells x 0) (zero-add (q k * m + a)) in
      let c-same = one-target (q j * m + a) (q i * m + a) (digits_lt (within j g).row h) (digits_lt (within i l).row h) (at j ∙ t_same ∙ sym d.target_is) (at i ∙ sym d.target_is) in
      let q-same : q j ≡ q i = sym (digits_div (q j) h) ∙ ap (λ (x : ℕ). x / m) c-same ∙ digits_div (q i) h in
      let listed : (k : ℕ) → k < to → get_or s (3 * n + k) 0 ≡ q k = λ k b. sym (front_read n s (3 * n + k) (omega (arith, z.inside))) in
      one-row j i g l (listed j g ∙ q-same ∙ sym d.row_is) (listed i l ∙ sym d.row_is)

-- Place i alone has its key, which is not its leader's: it leads then.
module _ {to : ℕ} (n : ℕ) (key : ℕ → ℕ) (s : List ℕ) (i : ℕ) (fits : to ≤ n) (room : 12 * n ≤ length s) (canon : Canon to (nxt_at n s)) (l : i < to)
    (unlike : key i ≡ key (nxt_at n s i) → ⊥) (alone : (j : ℕ) → j < to → key j ≡ key i → j ≡ i) where
  out : List ℕ
  out = set s (4 * n + i) i

  here : nxt_at n out i ≡ i
  unfolding out
  here = get_or-set_same s (4 * n + i) i 0 (omega arith)

  other : (j : ℕ) → (j ≡ i → ⊥) → nxt_at n out j ≡ nxt_at n s j
  unfolding out
  other j e = get_or-set_other s (4 * n + i) (4 * n + j) i 0 (λ k. e (omega arith))

  follows : nxt_at n s i ≡ i → ⊥
  follows e = unlike (ap key (sym e))

  kept : (j : ℕ) → j < to → nxt_at n s j ≡ j → nxt_at n out j ≡ j
  kept j h e = other j (λ k. follows (subst (λ (x : ℕ). nxt_at n s x ≡ x) k e)) ∙ e

  down : (j : ℕ) → j < to → nxt_at n out j ≤ j
  down j h = ⊎_elim (λ e. subst (λ (k : ℕ). nxt_at n out k ≤ k) (sym e) (omega (arith, here))) (λ e. omega (arith, other j e, canon.down j h)) (eq_or_ne j i)

  led : (j : ℕ) → j < to → nxt_at n out (nxt_at n out j) ≡ nxt_at n out j
  led j h =
      ⊎_elim
      (λ e. subst (λ (k : ℕ). nxt_at n out (nxt_at n out k) ≡ nxt_at n out k) (sym e) (ap (nxt_at n out) here))
      (λ e. ap (nxt_at n out) (other j e) ∙ kept (nxt_at n s j) (omega (arith, canon.down j h)) (canon.leads j h) ∙ sym (other j e))
      (eq_or_ne j i)

  same : (j k : ℕ) → j < to → k < to → nxt_at n s j ≡ nxt_at n s k → key j ≡ key k → nxt_at n out j ≡ nxt_at n out k
  same j k h g e f =
      ⊎_elim
      (λ o. ap (nxt_at n out) (o ∙ sym (alone k g (sym f ∙ ap key o))))
      (λ o. ⊎_elim (λ q. absurd (o (alone j h (f ∙ ap key q)))) (λ q. other j o ∙ e ∙ sym (other k q)) (eq_or_ne k i))
      (eq_or_ne j i)

  pub single_out : Keyed n to key s (set s (4 * n + i) i) 1
  unfolding out
  single_out =
      record {
        frame = frame_set s (4 * n + i) i (omega arith) (omega arith) (inl (omega arith));
        canon = record { down = down; leads = led };
        same = same;
        count = omega (arith, followers_lt (nxt_at n s) (nxt_at n out) to i kept l follows here);
        gains = λ j h e. omega arith;
      }
