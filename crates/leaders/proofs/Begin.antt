-- From what is asked to what holds before the first place is put, and from what holds after the last to what is left.
use mathlib.Core.Path.{◌≡◌, refl, sym, ap, subst, ◌∙◌}
use mathlib.Core.List.{List}
use mathlib.Core.Logic.{◌⊎◌, inl, inr, ⊎_elim}
use Prim.Native.Nat.{ℕ, ◌+◌, ◌*◌, ◌≤◌, ◌<◌}
use native.Mathlib.Omega.{arith}
use native.Mathlib.Decide.{dec_lt}
use lib.ListN.{get_or}
use Rattle.scratch.proofs.Numbers.{eq_or_ne}
use Rattle.splitting.specs.Places.{nxt_at, key_at, jump_at}
use Rattle.signatures.specs.Signatures.{value_at, target_at, Changed}
use Rattle.leader_table.specs.Putting.{row_at, Old, Settled, slot_of, Same, Sizes}
use Rattle.leaders.specs.Leaders.{InHand, Begun, Kept, Joins}
use Rattle.leaders.specs.Steps.{JoiningIn, Seeded}
use Rattle.leaders.proofs.Regions.{kept_front}
use Rattle.leaders.proofs.After.{known_none}
use Rattle.leaders.proofs.Signatures.{row_same, hand_still, hash_same, same_same, same_from, old_to}

module _ (mask n m u to known last : ℕ) (cells : List ℕ) {s t : List ℕ} (sizes : Sizes n m to known s) (fit : u ≤ to) (b : Begun mask n m to known last cells s) (d : Seeded n known to s t) where
  same_cell : (x : ℕ) → (x < 4 * n + known) ⊎ (5 * n ≤ x) → get_or t x 0 ≡ get_or s x 0
  same_cell x h = d.others x (⊎_elim (λ l. inl l) (λ l. inr (omega (arith, sizes.inside))) h)

  -- A place leads just if it is the value of its row.
  nxt_new : (c : ℕ) → c < to → (c < known → ⊥) → nxt_at n t c ≡ value_at n s (row_at n s c)
  nxt_new c h ne = d.here c (omega arith) h (b.hand.rows c h)

  pub leads_now : (c : ℕ) → c < to → value_at n s (row_at n s c) ≡ c → nxt_at n t c ≡ c
  leads_now c h e = elim (dec_lt c known) [
    | yes l ↦ same_cell (4 * n + c) (inl (omega arith)) ∙ b.past.leads c l e
    | no l ↦ nxt_new c h l ∙ e
  ]

  led-before : (c : ℕ) → c < to → nxt_at n t c ≡ c → value_at n s (row_at n s c) ≡ c
  led-before c h e = elim (dec_lt c known) [
    | yes l ↦ b.past.led c l (sym (same_cell (4 * n + c) (inl (omega arith))) ∙ e)
    | no l ↦ sym (nxt_new c h l) ∙ e
  ]

  down_now : (c : ℕ) → c < to → nxt_at n t c ≤ c
  down_now c h = elim (dec_lt c known) [
    | yes l ↦ omega (arith, same_cell (4 * n + c) (inl (omega arith)), b.past.down c l)
    | no l ↦ omega (arith, nxt_new c h l, b.low c h)
  ]

  -- Before the first place is put: those below `from` are known, and no change concerns them.
  pub begin : (from : ℕ) → from ≤ known → ((c : ℕ) → c < from → Changed n m cells t last (row_at n t c) → ⊥) → JoiningIn mask n m u to known last cells from t t 0
  begin from past calm =
      record {
        table =
            record {
              keys = λ c h l g.
                  same_cell (6 * n + c) (inr (omega arith)) ∙ b.past.table.keys c (known_of c g) (lead-of c g l) (old_of c h g) ∙ sym (hash_same b.hand d.kept sizes.inside mask c h);
              entries = λ c h l g.
                  let e = b.past.table.entries c (known_of c g) (lead-of c g l) (old_of c h g) in
                  let k : key_at n t c ≡ key_at n s c = same_cell (6 * n + c) (inr (omega arith)) in
                  record {
                    at = e.at;
                    from = subst (λ (y : ℕ). slot_of n y ≤ e.at) (sym k) e.from;
                    inside = e.inside;
                    here = same_cell (9 * n + e.at) (inr (omega arith)) ∙ e.here;
                    filled = λ x g₁ l₁ z. e.filled x (subst (λ (y : ℕ). slot_of n y ≤ x) k g₁) l₁ (sym (same_cell (9 * n + x) (inr (omega arith))) ∙ z);
                  };
              lone = λ c d₁ hc hd lc ld gc gd e.
                  b.past.table.lone c d₁ (known_of c gc) (known_of d₁ gd) (lead-of c gc lc) (lead-of d₁ gd ld) (old_of c hc gc) (old_of d₁ hd gd) (same_same b.hand d.kept sizes.inside mask c d₁ hc hd e);
            };
        down = down_now;
        others = λ c h ne. refl;
        leads = λ c h l. ap (nxt_at n t) l;
        signed = λ c h l. subst (Same mask n m cells t c) (sym l) (λ a g w. refl);
        put = λ c h l ne. absurd (ne l);
        listed = λ c h l ne. absurd (ne l);
        losers = λ x h. absurd (omega arith);
      }
    where
      known_of : (c : ℕ) → Settled (Old n m known last cells t) from c → c < known
      known_of c (inl l) = omega arith
      known_of c (inr o) = o.0

      lead-of : (c : ℕ) → Settled (Old n m known last cells t) from c → nxt_at n t c ≡ c → nxt_at n s c ≡ c
      lead-of c g l = let k = known_of c g in sym (same_cell (4 * n + c) (inl (omega arith))) ∙ l

      old_of : (c : ℕ) → c < to → Settled (Old n m known last cells t) from c → Old n m known last cells s c
      old_of c h (inl l) = old_to b.hand d.kept sizes.inside known last c h (omega arith, calm c l)
      old_of c h (inr o) = old_to b.hand d.kept sizes.inside known last c h o

  -- After the last.
  pub end : {w : List ℕ} {lost : ℕ} → lost ≤ to → JoiningIn mask n m u to known last cells to t w lost → Joins mask n m u to cells s w lost
  end {w} {lost} few j =
      record {
        few = few;
        down = j.down;
        others = λ c h ne l. ne (led-before c h (⊎_elim (λ e. e) (λ g. absurd (g (sym (j.others c h g) ∙ l))) (either c)));
        leads = λ c h e. j.leads c h (leads_now c h e);
        signed = λ c h e. let g = j.down c h in same_same b.hand d.kept sizes.inside mask c (nxt_at n w c) h (omega arith) (j.signed c h (leads_now c h e));
        table =
            record {
              keys = λ c h l g. j.table.keys c h l (inl h) ∙ hash_same b.hand d.kept sizes.inside mask c h;
              entries = λ c h l g. j.table.entries c h l (inl h);
              lone = λ c e hc he lc le gc ge same. j.table.lone c e hc he lc le (inl hc) (inl he) (same_from b.hand d.kept sizes.inside mask c e hc he same);
            };
        listed = λ c h e ne. j.listed c h (leads_now c (omega arith) e) ne;
        losers = λ x h. let r = j.losers x h in (r.0, led-before (jump_at n w x) (omega (arith, r.0)) r.1, r.2);
      }
    where
      either : (c : ℕ) → (nxt_at n t c ≡ c) ⊎ (nxt_at n t c ≡ c → ⊥)
      either c = eq_or_ne (nxt_at n t c) c

-- Nothing changed at a level above all 16-bit numbers.
pub calm_above : (n m last from : ℕ) (cells t : List ℕ) → 65535 < last → ((x : ℕ) → get_or t x 0 ≤ 65535) → (c : ℕ) → c < from → Changed n m cells t last (row_at n t c) → ⊥
calm_above n m last from cells t h small c l e = omega (arith, e.2, small (5 * n + target_at m cells (row_at n t c) e.0))

-- ---- begun once more, with nothing known, after only the working regions have changed
module _ {n m to : ℕ} {cells s t : List ℕ} (fit : to ≤ n) (hand : InHand n m to cells s) (k : Kept n s t) where
  own_same : (c : ℕ) → c < to → value_at n t (row_at n t c) ≡ value_at n s (row_at n s c)
  own_same c h =
      let r = hand.rows c h in
      ap (value_at n t) (row_same hand k fit c h) ∙ kept_front k (2 * n + row_at n s c) (omega arith)

  pub begun_anew : {mask known last : ℕ} → Begun mask n m to known last cells s → Begun mask n m to 0 last cells t
  begun_anew b =
      record {
        hand = hand_still hand k fit;
        low = λ c h. omega (arith, own_same c h, b.low c h);
        past = known_none;
      }

  pub joins-before : {mask u lost : ℕ} {w : List ℕ} → u ≤ to → Joins mask n m u to cells t w lost → Joins mask n m u to cells s w lost
  joins-before {mask} {u} {lost} {w} past j =
      record {
        few = j.few;
        down = j.down;
        others = λ c h ne. j.others c h (λ e. ne (sym (own_same c h) ∙ e));
        leads = λ c h e. j.leads c h (own_same c h ∙ e);
        signed = λ c h e. let d = j.down c h in same_same hand k fit mask c (nxt_at n w c) h (omega arith) (j.signed c h (own_same c h ∙ e));
        table =
            record {
              keys = λ c h l g. j.table.keys c h l g ∙ hash_same hand k fit mask c h;
              entries = λ c h l g. j.table.entries c h l g;
              lone = λ c e hc he lc le gc ge same. j.table.lone c e hc he lc le gc ge (same_from hand k fit mask c e hc he same);
            };
        listed = λ c h e ne. j.listed c h (own_same c (omega arith) ∙ e) ne;
        losers = λ x h. let r = j.losers x h in (r.0, sym (own_same (jump_at n w x) (omega (arith, r.0))) ∙ r.1, r.2);
      }
