-- Laws of runs, of the ways from row to row, and of `Near`.
use mathlib.Core.Path.{◌≡◌, refl, sym, ap, subst, ◌∙◌}
use mathlib.Core.List.{List, [], ◌∷◌, ◌++◌}
use Prim.Native.Nat.{ℕ, ◌+◌, ◌-◌, ◌≤◌, ◌<◌}
use native.Mathlib.Omega.{arith}
use Rattle.automata.specs.Runs.{Events, Machine, Sound, Run, size, after, Near, Leads}

pub run_append : (E : Events) (u w : List ℕ) → Run E u → Run E w → Run E (u ++ w)
run_append E [] w hu hw = hw
run_append E (a ∷ u) w hu hw = (hu.0, run_append E u w hu.1 hw)

pub size-append : (E : Events) (u w : List ℕ) → size E (u ++ w) ≡ size E u + size E w
size-append E [] w = omega arith
size-append E (a ∷ u) w = let h = size-append E u w in omega arith

pub after-append : (M : Machine) (q : ℕ) (u w : List ℕ) → after M q (u ++ w) ≡ after M (after M q u) w
after-append M q [] w = refl
after-append M q (a ∷ u) w = after-append M (M.target q a) u w

pub after_in : {E : Events} {M : Machine} → Sound E M → (w : List ℕ) (q : ℕ) → Run E w → q < M.rows → after M q w < M.rows
after_in s [] q hw hq = hq
after_in {M} s (a ∷ w) q hw hq = after_in s w (M.target q a) hw.1 (s.target_inside q a hq hw.0)

-- A run from q to p, of size c or more.
pub record Way (E : Events) (M : Machine) (q p c : ℕ) : Type 0 where
  pub by : List ℕ
  pub leads : Leads E M q p by
  pub long : c ≤ size E by

-- A run from the start to q, of size c or more.
abbrev pub Reach : Events → Machine → ℕ → ℕ → Type 0
Reach E M q c = Way E M M.start q c

module _ {E : Events} {M : Machine} where
  pub stay : (q : ℕ) → Way E M q q 0
  stay q = record { by = []; leads = record { run = tt; ends = refl }; long = omega arith }

  pub event : (q a : ℕ) → a < E.count → Way E M q (M.target q a) (E.weight a)
  event q a h = record { by = a ∷ []; leads = record { run = (h, tt); ends = refl }; long = omega arith }

  infixl 20 ◌then◌
  pub ◌then◌ : {x q p c d : ℕ} → Way E M x q c → Way E M q p d → Way E M x p (c + d)
  u then w = record {
    by = u.by ++ w.by;
    leads = record {
      run = run_append E u.by w.by u.leads.run w.leads.run;
      ends = after-append M _ u.by w.by ∙ ap (λ (y : ℕ). after M y w.by) u.leads.ends ∙ w.leads.ends;
    };
    long = omega (arith, size-append E u.by w.by, u.long, w.long);
  }

  pub less : {q p c d : ℕ} → d ≤ c → Way E M q p c → Way E M q p d
  less h w = record { by = w.by; leads = w.leads; long = omega (arith, w.long) }

  pub way_in : {q p c : ℕ} → Sound E M → q < M.rows → Way E M q p c → p < M.rows
  way_in s h w = subst (λ (x : ℕ). x < M.rows) w.leads.ends (after_in s w.by _ w.leads.run h)

module _ {E : Events} where
  pub near_refl : {M : Machine} {L q : ℕ} → Near E M M L q q
  near_refl = record { same = λ w hw hl. refl }

  pub near_sym : {M N : Machine} {L q p : ℕ} → Near E M N L q p → Near E N M L p q
  near_sym n = record { same = λ w hw hl. sym (n.same w hw hl) }

  pub near_trans : {M N K : Machine} {L q p r : ℕ} → Near E M N L q p → Near E N K L p r → Near E M K L q r
  near_trans n k = record { same = λ w hw hl. n.same w hw hl ∙ k.same w hw hl }

  pub near_up : {M N : Machine} {L K q p : ℕ} → L ≤ K → Near E M N L q p → Near E M N K q p
  near_up h n = record { same = λ w hw hl. n.same w hw (omega arith) }

  -- One event further, the distance is less by its weight.
  pub near_step : {M N : Machine} {L q p : ℕ} (a : ℕ) → a < E.count → Near E M N L q p → Near E M N (L - E.weight a) (M.target q a) (N.target p a)
  near_step a ha n = record { same = λ w hw hl. n.same (a ∷ w) (ha, hw) (omega arith) }

  pub near_cast : {M N : Machine} {L q q' p p' : ℕ} → q ≡ q' → p ≡ p' → Near E M N L q p → Near E M N L q' p'
  near_cast {M} {N} {L} {q'} {p} e f n = subst (λ (y : ℕ). Near E M N L q' y) f (subst (λ (x : ℕ). Near E M N L x p) e n)
