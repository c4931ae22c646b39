-- Signatures, keys and changes stay what they are while only the working regions change.
use mathlib.Core.Path.{◌≡◌, sym, ap, subst, ◌∙◌}
use mathlib.Core.List.{List}
use mathlib.Core.Logic.{inl, inr}
use Prim.Native.Nat.{ℕ, ◌+◌, ◌*◌, ◌/◌, ◌≤◌, ◌<◌}
use native.Mathlib.Omega.{arith}
use Rattle.signatures.specs.Signatures.{stamp_at, target_at, class_at, Changed}
use Rattle.signatures.proofs.Keys.{to_same}
use Rattle.leader_table.specs.Putting.{row_at, Old, Settled, Same, hash_in}
use Rattle.leaders.specs.Leaders.{InHand, Kept}
use Rattle.leaders.proofs.Regions.{kept_back, kept_front}

module _ {n m to : ℕ} {cells s t : List ℕ} (g : InHand n m to cells s) (k : Kept n s t) (fit : to ≤ n) where
  pub row_same : (c : ℕ) → c < to → row_at n t c ≡ row_at n s c
  row_same c h = kept_front k (3 * n + c) (omega arith)

  class_same : (c a : ℕ) → c < to → a < m → class_at n m cells t (row_at n t c) a ≡ class_at n m cells s (row_at n s c) a
  class_same c a h l =
      let r = g.targets c a h l in
      ap (λ (q : ℕ). class_at n m cells t q a) (row_same c h) ∙ kept_front k (2 * n + target_at m cells (row_at n s c) a) (omega arith)

  pub same_same : (mask c d : ℕ) → c < to → d < to → Same mask n m cells t c d → Same mask n m cells s c d
  same_same mask c d hc hd e a l w = sym (class_same c a hc l) ∙ e a l w ∙ class_same d a hd l

  pub hash_same : (mask c : ℕ) → c < to → hash_in mask n m cells t c ≡ hash_in mask n m cells s c
  hash_same mask c h = ap (λ (x : ℕ). x / 65536) (to_same mask n m cells t s (row_at n t c) (row_at n s c) m (λ a l w. class_same c a h l))

  stamp_same : (c a : ℕ) → c < to → a < m → stamp_at n t (target_at m cells (row_at n t c) a) ≡ stamp_at n s (target_at m cells (row_at n s c) a)
  stamp_same c a h l =
      let r = g.targets c a h l in
      ap (λ (q : ℕ). stamp_at n t (target_at m cells q a)) (row_same c h) ∙ k.stamps (5 * n + target_at m cells (row_at n s c) a) (omega arith) (omega arith)

  pub changed_same : (last c : ℕ) → c < to → Changed n m cells t last (row_at n t c) → Changed n m cells s last (row_at n s c)
  changed_same last c h e = (e.0, e.1, sym (stamp_same c e.0 h e.1) ∙ e.2)

-- The rows at hand are rows still.
pub hand_still : {n m to : ℕ} {cells s t : List ℕ} → InHand n m to cells s → Kept n s t → to ≤ n → InHand n m to cells t
hand_still {n} {m} {to} {cells} {s} {t} g k fit =
    record {
      rows = λ c h. subst (λ (q : ℕ). q < n) (sym (row_same g k fit c h)) (g.rows c h);
      targets = λ c a h l. subst (λ (q : ℕ). target_at m cells q a < n) (sym (row_same g k fit c h)) (g.targets c a h l);
    }

module _ {n m to : ℕ} {cells s t : List ℕ} (g : InHand n m to cells s) (k : Kept n s t) (fit : to ≤ n) where
  -- Settled after is settled before, and the other way round.
  pub old_to : (known last c : ℕ) → c < to → Old n m known last cells t c → Old n m known last cells s c
  old_to known last c h o = (o.0, λ e. o.1 (changed_same (hand_still g k fit) (kept_back k) fit last c h e))

  pub settled-to : (known last i c : ℕ) → c < to → Settled (Old n m known last cells t) i c → Settled (Old n m known last cells s) i c
  settled-to known last i c h (inl l) = inl l
  settled-to known last i c h (inr o) = inr (old_to known last c h o)

  pub settled-from : (known last i c : ℕ) → c < to → Settled (Old n m known last cells s) i c → Settled (Old n m known last cells t) i c
  settled-from known last i c h (inl l) = inl l
  settled-from known last i c h (inr o) = inr (o.0, λ e. o.1 (changed_same g k fit last c h e))

  pub same_from : (mask c d : ℕ) → c < to → d < to → Same mask n m cells s c d → Same mask n m cells t c d
  same_from = same_same (hand_still g k fit) (kept_back k) fit
