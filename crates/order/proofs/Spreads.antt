-- A sweep that meets pairs: one event, one pair, a pair that is passed over.
use mathlib.Core.Path.{◌≡◌, refl, sym, ap, subst, subst₂, ◌∙◌}
use mathlib.Core.List.{List}
use mathlib.Core.Logic.{◌⊎◌, inl, inr}
use Prim.Native.Nat.{ℕ, zero, suc, ◌+◌, ◌*◌, ◌≤◌, ◌<◌}
use native.Mathlib.Omega.{arith}
use native.Mathlib.Decide.{ℕ_discrete}
use lib.ListN.{length, get_or, set, length-set}
use lib.Seq.{get_or-set_same, get_or-set_other, set-get_or}
use Rattle.automata.proofs.Tests.{last_or_less}
use Rattle.ordering.specs.Found.{Graph, Inside}
use Rattle.order.specs.Cells.{met_with, worse, raised}
use Rattle.order.specs.Search.{From, Followed, Spreading}

-- ---- what is made of a cell and of `most`

pub met_kept : (m next c : ℕ) → ¬ (c ≡ 0) → met_with m next c ≡ c
met_kept m next zero h = absurd (h refl)
met_kept m next (suc c) h = refl

pub raised_kept : (most m c : ℕ) → ¬ (c ≡ 0) → raised most m c ≡ most
raised_kept most m zero h = absurd (h refl)
raised_kept most m (suc c) h = refl

worse-some : (most m : ℕ) → 1 ≤ worse most m
worse-some zero zero = omega arith
worse-some (suc most) zero = omega arith
worse-some most (suc m) = omega arith

worse_quiet : (most m : ℕ) → worse most m ≤ 1 → (most ≤ 1) × (m ≡ 0)
worse_quiet zero zero h = (omega arith, refl)
worse_quiet (suc most) zero h = (h, refl)
worse_quiet most (suc m) h = absurd (omega arith)

worse-told : (most m : ℕ) → 2 ≤ worse most m → (2 ≤ most) ⊎ (¬ (m ≡ 0))
worse-told zero zero h = absurd (omega arith)
worse-told (suc most) zero h = inl h
worse-told most (suc m) h = inr (λ e. omega arith)

module _ {G : Graph} (inside : Inside G) {level : ℕ} {s : List ℕ} (room : G.places ≤ length s) where
  -- Nothing was followed yet.
  pub spread_none : Spreading G level 0 0 s s 0
  spread_none = record {
    each = λ x hx. inl refl;
    met = λ y a hy ha e f. elim f [ inl h ↦ absurd (omega arith) | inr h ↦ absurd (omega (arith, h.1)) ];
    still = λ e. refl;
    quiet = λ h x hx z p. absurd (omega arith);
    told = λ h. absurd (omega arith);
    framed = record { size = refl; beyond = λ i h. refl };
  }

  -- What was followed may be told in another way.
  followed_as : {k i l j most : ℕ} {t : List ℕ} → ((y a : ℕ) → y < G.places → a < G.count → get_or s y 0 ≡ level → Followed G l j y a → Followed G k i y a)
      → Spreading G level k i s t most → Spreading G level l j s t most
  followed_as f w = record {
    each = w.each;
    met = λ y a hy ha e g. w.met y a hy ha e (f y a hy ha e g);
    still = w.still;
    quiet = w.quiet;
    told = w.told;
    framed = w.framed;
  }

  -- All events of a pair.
  pub spread_pair : {k i most : ℕ} {t : List ℕ} → G.count ≤ i → Spreading G level k i s t most → Spreading G level (k + 1) 0 s t most
  spread_pair {k} {i} h w = followed_as (λ y a hy ha e f. elim f [
    | inl l ↦ elim (last_or_less y k (omega arith)) [ inl g ↦ inr (g, omega arith) | inr g ↦ inl g ]
    | inr l ↦ absurd (omega (arith, l.1))
  ]) w

  module _ (pos : 0 < level) {k i most : ℕ} {t : List ℕ} (w : Spreading G level k i s t most) where
    -- A pair is of the level after a part of the sweep just if it was before.
    pub level_before : (x : ℕ) → x < G.places → get_or t x 0 ≡ level → get_or s x 0 ≡ level
    level_before x hx e = elim (w.each x hx) [ inl f ↦ sym f ∙ e | inr f ↦ absurd (omega (arith, e, f.1)) ]

    level-after : (x : ℕ) → x < G.places → get_or s x 0 ≡ level → get_or t x 0 ≡ level
    level-after x hx e = elim (w.each x hx) [ inl f ↦ f ∙ e | inr f ↦ absurd (omega (arith, e, f.0)) ]

    -- A pair of another level is passed over.
    pub spread-other : k < G.places → i ≡ 0 → ¬ (get_or t k 0 ≡ level) → Spreading G level (k + 1) 0 s t most
    spread-other hk z h = followed_as (λ y a hy ha e f. elim f [
      | inl l ↦ elim (last_or_less y k (omega arith)) [ inl g ↦ absurd (h (level-after k hk (ap (λ (j : ℕ). get_or s j 0) (sym g) ∙ e))) | inr g ↦ inl g ]
      | inr l ↦ absurd (omega (arith, l.1))
    ]) w

    -- An event is followed from pair k to x, where m is told by the marks.
    module _ (hk : k < G.places) (hi : i < G.count) (e : get_or s k 0 ≡ level) {x m : ℕ} (hx : G.step k i ≡ x) (hm : G.mark x ≡ m) where
      x-in : x < G.places
      x-in = subst (λ (j : ℕ). j < G.places) hx (inside k i hk hi)

      -- x was met before.
      again : ¬ (get_or t x 0 ≡ 0) → Spreading G level k (suc i) s t most
      again h = record {
        each = w.each;
        met = λ y a hy ha f g. elim g [
          | inl l ↦ w.met y a hy ha f (inl l)
          | inr l ↦ elim (last_or_less a i l.1) [
            | inl j ↦
                let there : G.step y a ≡ x = ap (λ (b : ℕ). G.step b a) l.0 ∙ ap (G.step k) j ∙ hx in
                subst (λ (b : ℕ). 0 < get_or t b 0) (sym there) (omega arith)
            | inr j ↦ w.met y a hy ha f (inr (l.0, j))
          ]
        ];
        still = w.still;
        quiet = w.quiet;
        told = w.told;
        framed = w.framed;
      }

      -- x is met now.
      module _ (z : get_or t x 0 ≡ 0) where
        abbrev v : ℕ
        v = 4096 * m + suc level

        long : x < length t
        long = omega (arith, x-in, room, w.framed.size)

        here : get_or (set t x v) x 0 ≡ v
        here = get_or-set_same t x v 0 long

        other : (y : ℕ) → ¬ (y ≡ x) → get_or (set t x v) y 0 ≡ get_or t y 0
        other y n = get_or-set_other t x y v 0 n

        -- It was not met when the sweep began.
        was-none : get_or s x 0 ≡ 0
        was-none = elim (w.each x x-in) [ inl f ↦ sym f ∙ z | inr f ↦ f.0 ]

        more : (y : ℕ) → 0 < get_or t y 0 → 0 < get_or (set t x v) y 0
        more y h = elim (ℕ_discrete y x) [ yes f ↦ absurd (omega (arith, z, ap (λ (j : ℕ). get_or t j 0) f)) | no f ↦ omega (arith, other y f) ]

        anew : Spreading G level k (suc i) s (set t x v) (worse most m)
        anew = record {
          each = λ y hy. elim (ℕ_discrete y x) [
            | yes f ↦
                subst (λ (j : ℕ). (get_or (set t x v) j 0 ≡ get_or s j 0) ⊎ ((get_or s j 0 ≡ 0) × (get_or (set t x v) j 0 ≡ 4096 * G.mark j + suc level) × From G level s j)) (sym f)
                (inr (was-none, here ∙ ap (λ (j : ℕ). 4096 * j + suc level) (sym hm), (k, hk, e, (i, hi, hx))))
            | no f ↦ elim (w.each y hy) [
              | inl g ↦ inl (other y f ∙ g)
              | inr g ↦ inr (g.0, other y f ∙ g.1, g.2)
            ]
          ];
          met = λ y a hy ha f g. elim g [
            | inl l ↦ more (G.step y a) (w.met y a hy ha f (inl l))
            | inr l ↦ elim (last_or_less a i l.1) [
              | inl j ↦
                  let there : G.step y a ≡ x = ap (λ (b : ℕ). G.step b a) l.0 ∙ ap (G.step k) j ∙ hx in
                  subst (λ (b : ℕ). 0 < get_or (set t x v) b 0) (sym there) (omega (arith, here))
              | inr j ↦ more (G.step y a) (w.met y a hy ha f (inr (l.0, j)))
            ]
          ];
          still = λ h. absurd (omega (arith, worse-some most m));
          quiet = λ h y hy f g. elim (ℕ_discrete y x) [
            | yes j ↦ ap G.mark j ∙ hm ∙ (worse_quiet most m h).1
            | no j ↦ w.quiet (worse_quiet most m h).0 y hy f (omega (arith, other y j))
          ];
          told = λ h. elim (worse-told most m h) [
            | inl l ↦ (let y = w.told l in (y.0, y.1, y.2, more y.0 y.3, y.4))
            | inr l ↦ (x, x-in, was-none, omega (arith, here), λ f. l (sym hm ∙ f))
          ];
          framed = record {
            size = length-set t x v ∙ w.framed.size;
            beyond = λ j h. other j (λ f. omega (arith, x-in)) ∙ w.framed.beyond j h;
          };
        }

      pub spread-event : Spreading G level k (suc i) s (set t x (met_with m (suc level) (get_or t x 0))) (raised most m (get_or t x 0))
      spread-event = elim (ℕ_discrete (get_or t x 0) 0) [
        | yes z ↦
            subst (λ (c : ℕ). Spreading G level k (suc i) s (set t x (met_with m (suc level) c)) (raised most m c)) (sym z) (anew z)
        | no z ↦
            subst₂ (λ (u : List ℕ) (r : ℕ). Spreading G level k (suc i) s u r)
            (sym (ap (set t x) (met_kept m (suc level) (get_or t x 0) z) ∙ set-get_or t x 0)) (sym (raised_kept most m (get_or t x 0) z)) (again z)
      ]
