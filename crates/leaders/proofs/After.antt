-- What is known of the table at the next level: after rows have come in, and after values have become their leaders.
use mathlib.Core.Path.{◌≡◌, sym, ap, subst, ◌∙◌}
use mathlib.Core.List.{List}
use mathlib.Core.Logic.{◌⊎◌, ⊎_elim}
use Prim.Native.Nat.{ℕ, ◌*◌, ◌/◌, ◌≤◌, ◌<◌}
use native.Mathlib.Omega.{arith}
use Rattle.scratch.proofs.Numbers.{eq_or_ne}
use Rattle.splitting.specs.Places.{nxt_at, key_at, tab_at}
use Rattle.signatures.specs.Signatures.{value_at, stamp_at, target_at, class_at}
use Rattle.leader_table.specs.Putting.{row_at, Old, slot_of, Same, hash_in}
use Rattle.leaders.specs.Leaders.{Table, Known, Joins}
use Rattle.signatures.proofs.Keys.{to_same}

-- A table whose leaders, keys and entries stand in t stands in w too, if the signatures are the same at the places that are settled there.
table_same : (mask n m to fewer : ℕ) (cells s t b w : List ℕ) (settled settled' : ℕ → Type 0) → fewer ≤ to
    → Table to (3 * n) (slot_of n) (hash_in mask n m cells s) settled (Same mask n m cells s) (nxt_at n t) (key_at n t) (tab_at n t)
    → ((c : ℕ) → c < fewer → settled' c → settled c)
    → ((c : ℕ) → c < fewer → nxt_at n w c ≡ nxt_at n t c) → ((c : ℕ) → c < fewer → key_at n w c ≡ key_at n t c) → ((x : ℕ) → x < 3 * n → tab_at n w x ≡ tab_at n t x)
    → ((c a : ℕ) → c < fewer → settled' c → a < m → class_at n m cells b (row_at n b c) a ≡ class_at n m cells s (row_at n s c) a)
    → Table fewer (3 * n) (slot_of n) (hash_in mask n m cells b) settled' (Same mask n m cells b) (nxt_at n w) (key_at n w) (tab_at n w)
table_same mask n m to fewer cells s t b w settled settled' fit table is nxt key tab class =
    record {
      keys = λ c h l g.
          key c h ∙ table.keys c (omega arith) (sym (nxt c h) ∙ l) (is c h g)
          ∙ sym (ap (λ (x : ℕ). x / 65536) (to_same mask n m cells b s (row_at n b c) (row_at n s c) m (λ a ha w. class c a h g ha)));
      entries = λ c h l g.
          let e = table.entries c (omega arith) (sym (nxt c h) ∙ l) (is c h g) in
          record {
            at = e.at;
            from = subst (λ (y : ℕ). slot_of n y ≤ e.at) (sym (key c h)) e.from;
            inside = e.inside;
            here = tab e.at e.inside ∙ e.here;
            filled = λ x g₁ l₁ z. e.filled x (subst (λ (y : ℕ). slot_of n y ≤ x) (key c h) g₁) l₁ (sym (tab x (omega (arith, e.inside))) ∙ z);
          };
      lone = λ c d hc hd lc ld gc gd same.
          table.lone c d (omega arith) (omega arith) (sym (nxt c hc) ∙ lc) (sym (nxt d hd) ∙ ld) (is c hc gc) (is d hd gd)
          (λ a ha wa. sym (class c a hc gc ha) ∙ same a ha wa ∙ class d a hd gd ha);
    }

-- Nothing is known of no places.
pub known_none : {mask n m last : ℕ} {cells s : List ℕ} → Known mask n m 0 last cells s
known_none =
    record {
      down = λ c h. absurd (omega arith);
      leads = λ c h. absurd (omega arith);
      led = λ c h. absurd (omega arith);
      table = record { keys = λ c h. absurd (omega arith); entries = λ c h. absurd (omega arith); lone = λ c d h. absurd (omega arith) };
    }

-- Rows have come in: those that are known, their values, their classes and their stamps stay.
pub known_still : {mask n m known last : ℕ} {cells s t : List ℕ} → Known mask n m known last cells s
    → ((c : ℕ) → c < known → row_at n t c ≡ row_at n s c) → ((c : ℕ) → c < known → value_at n t (row_at n s c) ≡ value_at n s (row_at n s c))
    → ((c a : ℕ) → c < known → a < m → class_at n m cells t (row_at n s c) a ≡ class_at n m cells s (row_at n s c) a)
    → ((c a : ℕ) → c < known → a < m → stamp_at n t (target_at m cells (row_at n s c) a) ≡ stamp_at n s (target_at m cells (row_at n s c) a))
    → ((c : ℕ) → c < known → nxt_at n t c ≡ nxt_at n s c) → ((c : ℕ) → c < known → key_at n t c ≡ key_at n s c) → ((x : ℕ) → x < 3 * n → tab_at n t x ≡ tab_at n s x)
    → Known mask n m known last cells t
known_still {mask} {n} {m} {known} {last} {cells} {s} {t} k row value class stamp nxt key tab =
    record {
      down = λ c h. omega (arith, nxt c h, k.down c h);
      leads = λ c h e. nxt c h ∙ k.leads c h (sym (own c h) ∙ e);
      led = λ c h e. own c h ∙ k.led c h (sym (nxt c h) ∙ e);
      table = table_same mask n m known known cells s s t t (Old n m known last cells s) (Old n m known last cells t) (omega arith) k.table (λ c h o. (o.0, λ e. o.1 (e.0, e.1, ap (λ (q : ℕ). stamp_at n t (target_at m cells q e.0)) (row c h) ∙ stamp c e.0 h e.1 ∙ e.2)))
          nxt key tab (λ c a h o ha. ap (λ (q : ℕ). class_at n m cells t q a) (row c h) ∙ class c a h ha);
    }
  where
    own : (c : ℕ) → c < known → value_at n t (row_at n t c) ≡ value_at n s (row_at n s c)
    own c h = ap (value_at n t) (row c h) ∙ value c h

-- Leaders have been joined and values have become their leaders: the places below u are known, but for those that the change concerns.
pub known_next : {mask n m u to lost last : ℕ} {cells s t w : List ℕ} → Joins mask n m u to cells s t lost → u ≤ to → ((c : ℕ) → c < to → value_at n s (row_at n s c) ≤ c)
    → ((c : ℕ) → c < u → row_at n w c ≡ row_at n s c) → ((c : ℕ) → c < u → value_at n w (row_at n s c) ≡ nxt_at n t (value_at n s (row_at n s c)))
    → ((c a : ℕ) → c < u → a < m → (class_at n m cells w (row_at n s c) a ≡ class_at n m cells s (row_at n s c) a) ⊎ (stamp_at n w (target_at m cells (row_at n s c) a) ≡ last))
    → ((c : ℕ) → c < u → nxt_at n w c ≡ nxt_at n t c) → ((c : ℕ) → c < u → key_at n w c ≡ key_at n t c) → ((x : ℕ) → x < 3 * n → tab_at n w x ≡ tab_at n t x)
    → Known mask n m u last cells w
known_next {mask} {n} {m} {u} {to} {lost} {last} {cells} {s} {t} {w} j fit low row value class nxt key tab =
    record {
      down = λ c h. omega (arith, nxt c h, j.down c (omega arith));
      leads = λ c h e. nxt c h ∙ ⊎_elim
          (λ z. ap (nxt_at n t) (sym z) ∙ sym (own c h) ∙ e)
          (λ ne. absurd (below c h ne (sym (own c h) ∙ e)))
          (eq_or_ne (value_at n s (row_at n s c)) c);
      led = λ c h e. ⊎_elim
          (λ z. own c h ∙ ap (nxt_at n t) z ∙ sym (nxt c h) ∙ e)
          (λ ne. absurd (j.others c (omega arith) ne (sym (nxt c h) ∙ e)))
          (eq_or_ne (value_at n s (row_at n s c)) c);
      table = table_same mask n m to u cells s t w w (λ c. c < to) (Old n m u last cells w) fit j.table (λ c h o. omega arith) nxt key tab
          (λ c a h o ha. ap (λ (q : ℕ). class_at n m cells w q a) (row c h) ∙ ⊎_elim (λ e. e) (λ e. absurd (o.1 (a, ha, ap (λ (q : ℕ). stamp_at n w (target_at m cells q a)) (row c h) ∙ e))) (class c a h ha));
    }
  where
    own : (c : ℕ) → c < u → value_at n w (row_at n w c) ≡ nxt_at n t (value_at n s (row_at n s c))
    own c h = ap (value_at n w) (row c h) ∙ value c h

    below : (c : ℕ) → c < u → (value_at n s (row_at n s c) ≡ c → ⊥) → nxt_at n t (value_at n s (row_at n s c)) ≡ c → ⊥
    below c h ne e = ne (omega (arith, low c (omega arith), j.down (value_at n s (row_at n s c)) (omega (arith, low c (omega arith)))))
