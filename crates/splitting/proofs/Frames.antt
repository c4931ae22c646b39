-- What a store leaves as it was, and values that fill a region one by one.
use mathlib.Core.Path.{◌≡◌, refl, sym, ap, subst, ◌∙◌}
use mathlib.Core.List.{List}
use mathlib.Core.Logic.{◌⊎◌, inl, inr, ⊎_elim}
use Prim.Native.Nat.{ℕ, ◌+◌, ◌-◌, ◌*◌, ◌≤◌, ◌<◌}
use native.Mathlib.Omega.{arith}
use borrow.Author.Tests.{le-ltb}
use lib.ListN.{length, get_or, set, take, drop, replicate, length-set, length-replicate, get_or-replicate}
use lib.Seq.{get_or-set_same, get_or-set_other, take-set-le, drop-set-lt, take-take, drop-drop}
use Rattle.tables.specs.Lists.{over}
use Rattle.tables.proofs.Over.{over-length, over-before, over_inside, over-behind, take-before-over, drop-over}
use Rattle.scratch.specs.Scratch.{cleared}
use Rattle.scratch.proofs.Numbers.{eq_or_ne}
use Rattle.splitting.specs.Places.{Frame, Filled, Span}

pub frame_none : {n : ℕ} {s : List ℕ} → Frame n s s
frame_none = record { size = refl; before = refl; spare = λ k l h. refl; behind = refl }

pub frame_then : {n : ℕ} {s t u : List ℕ} → Frame n s t → Frame n t u → Frame n s u
frame_then f g =
    record {
      size = g.size ∙ f.size;
      before = g.before ∙ f.before;
      spare = λ k l h. g.spare k l h ∙ f.spare k l h;
      behind = g.behind ∙ f.behind;
    }

pub frame_back : {n : ℕ} {s t : List ℕ} → Frame n s t → Frame n t s
frame_back f = record { size = sym f.size; before = sym f.before; spare = λ k l h. sym (f.spare k l h); behind = sym f.behind }

pub frame_set : {n : ℕ} (s : List ℕ) (k x : ℕ) → 4 * n ≤ k → k < 12 * n → (k < 8 * n) ⊎ (9 * n ≤ k) → Frame n s (set s k x)
frame_set {n} s k x from until aside =
    record {
      size = length-set s k x;
      before = take-set-le (4 * n) s k x from;
      spare = λ j l h. get_or-set_other s k j x 0 (λ e. ⊎_elim (λ g. omega arith) (λ g. omega arith) aside);
      behind = drop-set-lt (12 * n) s k x until;
    }

-- ---- values that fill a region one by one
module _ {n at : ℕ} {f : ℕ → ℕ} where
  pub filled_none : (s : List ℕ) → Filled n at 0 f s s
  filled_none s = record { frame = frame_none; here = λ i l. absurd (omega arith); below = λ k l. refl; above = λ k l. refl }

  pub filled_next : {s t : List ℕ} (count i x : ℕ) → Filled n at i f s t → Span n at count s → i < count → x ≡ f i → Filled n at (i + 1) f s (set t (at + i) x)
  filled_next {s} {t} count i x d p l e =
      let size = d.frame.size in
      let room : at + i < length t = omega (arith, p.until, p.room, size) in
      record {
        frame =
            frame_then d.frame
            (frame_set t (at + i) x (omega (arith, p.from)) (omega (arith, p.until)) (⊎_elim (λ g. inl (omega arith)) (λ g. inr (omega arith)) p.aside));
        here = λ j h.
            ⊎_elim
            (λ g. let k : at + j ≡ at + i = omega arith in rw k (get_or-set_same t (at + i) x 0 room ∙ e ∙ ap f (sym g)))
            (λ g. get_or-set_other t (at + i) (at + j) x 0 (λ z. g (omega arith)) ∙ d.here j (omega arith))
            (eq_or_ne j i);
        below = λ k h. get_or-set_other t (at + i) k x 0 (λ z. omega arith) ∙ d.below k h;
        above = λ k h. get_or-set_other t (at + i) k x 0 (λ z. omega arith) ∙ d.above k (omega arith);
      }

-- ---- cells that are cleared
module _ {n at count : ℕ} {s : List ℕ} (p : Span n at count s) where
  abbrev zeros : List ℕ
  zeros = over s at (replicate count 0)

  many : length {A = ℕ} (replicate count 0) ≡ count
  many = length-replicate count 0

  fits : at + length {A = ℕ} (replicate count 0) ≤ length s
  fits = omega (arith, many, p.until, p.room)

  below : (k : ℕ) → k < at → get_or zeros k 0 ≡ get_or s k 0
  below k h = over-before s at (replicate count 0) fits k 0 h

  above : (k : ℕ) → at + count ≤ k → get_or zeros k 0 ≡ get_or s k 0
  above k h = over-behind s at (replicate count 0) fits k 0 (omega (arith, many))

  rest : drop (12 * n) zeros ≡ drop (12 * n) s
  rest =
      let end : ℕ = at + length {A = ℕ} (replicate count 0) in
      let e : end + (12 * n - end) ≡ 12 * n = omega (arith, many, p.until) in
      ap (λ (k : ℕ). drop k zeros) (sym e) ∙ sym (drop-drop (12 * n - end) end zeros) ∙ ap (drop (12 * n - end)) (drop-over s at (replicate count 0) fits)
      ∙ drop-drop (12 * n - end) end s ∙ ap (λ (k : ℕ). drop k s) e

  filled-zeros : Filled n at count (λ i. 0) s zeros
  filled-zeros =
      record {
        frame =
            record {
              size = over-length s at (replicate count 0) fits;
              before =
                  sym (take-take (4 * n) at zeros p.from) ∙ ap (take (4 * n)) (take-before-over s at (replicate count 0) fits) ∙ take-take (4 * n) at s p.from;
              spare = λ k l h. ⊎_elim (λ g. above k (omega arith)) (λ g. below k (omega arith)) p.aside;
              behind = rest;
            };
        here = λ i h. over_inside s at (replicate count 0) fits i 0 (omega (arith, many)) ∙ get_or-replicate count i 0 0 h;
        below = below;
        above = above;
      }

  cleared-zeros : cleared s at (at + count) ≡ zeros
  unfolding cleared
  cleared-zeros =
      let e : at + count - at ≡ count = omega arith in
      rw (le-ltb (length s) (at + count) (omega (arith, p.until, p.room)), e)

  pub filled_clear : {t : List ℕ} → t ≡ cleared s at (at + count) → Filled n at count (λ i. 0) s t
  filled_clear e = subst (Filled n at count (λ i. 0) s) (sym (e ∙ cleared-zeros)) filled-zeros

pub span_at : {n at count : ℕ} {s : List ℕ} → n ≤ 1024 → 12 * n ≤ length s → 4 * n ≤ at → at + count ≤ 8 * n → Span n at count s
span_at few room from until = record { few = few; room = room; from = from; until = omega arith; aside = inl until }
