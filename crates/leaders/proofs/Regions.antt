-- What stores into the working regions leave as it was.
use mathlib.Core.Path.{◌≡◌, refl, sym, ap, subst, ◌∙◌}
use mathlib.Core.List.{List}
use mathlib.Core.Logic.{◌⊎◌, inl, inr, ⊎_elim}
use Prim.Native.Nat.{ℕ, ◌+◌, ◌*◌, ◌≤◌, ◌<◌}
use native.Mathlib.Omega.{arith}
use lib.ListN.{length, get_or, set}
use lib.Seq.{get_or-set_same, get_or-set_other, get_or-take}
use Rattle.splitting.proofs.Frames.{frame_none, frame_then, frame_back, frame_set}
use Rattle.scratch.proofs.Numbers.{eq_or_ne}
use Rattle.signatures.specs.Signatures.{value_at}
use Rattle.leader_table.specs.Putting.{row_at, Sizes}
use Rattle.leaders.specs.Leaders.{Kept}
use Rattle.leaders.specs.Steps.{Seeded}

pub kept_none : {n : ℕ} {s : List ℕ} → Kept n s s
kept_none = record { frame = frame_none; stamps = λ x h l. refl }

pub kept_then : {n : ℕ} {s t w : List ℕ} → Kept n s t → Kept n t w → Kept n s w
kept_then a b = record { frame = frame_then a.frame b.frame; stamps = λ x h l. b.stamps x h l ∙ a.stamps x h l }

pub kept_back : {n : ℕ} {s t : List ℕ} → Kept n s t → Kept n t s
kept_back a = record { frame = frame_back a.frame; stamps = λ x h l. sym (a.stamps x h l) }

-- What stands in front stays.
pub kept_front : {n : ℕ} {s t : List ℕ} → Kept n s t → (x : ℕ) → x < 4 * n → get_or t x 0 ≡ get_or s x 0
kept_front {n} {s} {t} k x h = sym (get_or-take (4 * n) t x 0 h) ∙ ap (λ (l : List ℕ). get_or l x 0) k.frame.before ∙ get_or-take (4 * n) s x 0 h

-- A store into region 4, into 6 or 7, or into the table.
pub kept_set : {n : ℕ} (s : List ℕ) (k x : ℕ) → 4 * n ≤ k → k < 12 * n → (k < 5 * n) ⊎ ((6 * n ≤ k) × ((k < 8 * n) ⊎ (9 * n ≤ k))) → Kept n s (set s k x)
kept_set {n} s k x from until aside =
    record {
      frame = frame_set s k x from until (⊎_elim (λ g. inl (omega arith)) (λ g. g.1) aside);
      stamps = λ y h l. get_or-set_other s k y x 0 (λ e. ⊎_elim (λ g. omega arith) (λ g. omega (arith, g.0)) aside);
    }

-- With nothing known.
pub sizes_anew : {n m to known : ℕ} {s t : List ℕ} → Sizes n m to known s → Kept n s t → Sizes n m to 0 t
sizes_anew z k = record { few = z.few; room = omega (arith, z.room, k.frame.size); events = z.events; inside = z.inside; past = omega arith }

-- One leader more of those from `known` on.
pub seeded_next : {n known c : ℕ} {s t : List ℕ} (x : ℕ) → Seeded n known c s t → known ≤ c → c < n → 12 * n ≤ length s → (row_at n s c < n → x ≡ value_at n s (row_at n s c)) → Seeded n known (c + 1) s (set t (4 * n + c) x)
seeded_next {n} {known} {c} {s} {t} x d past h room e =
    record {
      kept = kept_then d.kept (kept_set t (4 * n + c) x (omega arith) (omega arith) (inl (omega arith)));
      here = λ y l g r.
          ⊎_elim
          (λ q. let k : 4 * n + y ≡ 4 * n + c = omega arith in
          ap (λ (z : ℕ). get_or (set t (4 * n + c) x) z 0) k ∙ (get_or-set_same t (4 * n + c) x 0 (omega (arith, d.kept.frame.size)) ∙ e (subst (λ (z : ℕ). row_at n s z < n) q r) ∙ ap (λ (z : ℕ). value_at n s (row_at n s z)) (sym q)))
          (λ ne. get_or-set_other t (4 * n + c) (4 * n + y) x 0 (λ z. ne (omega arith)) ∙ d.here y l (omega arith) r)
          (eq_or_ne y c);
      others = λ y l.
          get_or-set_other t (4 * n + c) y x 0 (λ z. ⊎_elim (λ b. omega arith) (λ b. omega arith) l) ∙ d.others y (⊎_elim (λ b. inl b) (λ b. inr (omega arith)) l);
    }
