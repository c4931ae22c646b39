-- The turn of one place, over any signatures, keys and slots: what holds of the places below i holds of those below i + 1.
use mathlib.Core.Path.{◌≡◌, sym, ap, subst, ◌∙◌}
use mathlib.Core.Logic.{◌⊎◌, inl, inr, ⊎_elim}
use Prim.Native.Nat.{ℕ, suc, ◌+◌, ◌≤◌, ◌<◌}
use native.Mathlib.Omega.{arith}
use native.Mathlib.Decide.{dec_lt}
use Rattle.scratch.proofs.Numbers.{eq_or_ne}
use Rattle.leader_table.specs.Putting.{Settled}
use Rattle.leaders.specs.Leaders.{Entry, Table}
use Rattle.leaders.specs.Steps.{Joining}

-- One place more is settled.
settled_less : (old : ℕ → Type 0) (i c : ℕ) → Settled old (i + 1) c → (c ≡ i → ⊥) → Settled old i c
settled_less old i c (inl h) ne = inl (omega arith)
settled_less old i c (inr h) ne = inr h

module _ {u to end : ℕ} {slot hash : ℕ → ℕ} {old : ℕ → Type 0} {same : ℕ → ℕ → Type 0} {nxt₀ : ℕ → ℕ} where
  -- A place that does not lead, or is settled, has had its turn.
  pub turn_rests : {i lost : ℕ} {nxt key tab list : ℕ → ℕ} → Joining u to end slot hash old same nxt₀ i nxt key tab list lost → (nxt i ≡ i → ⊥) ⊎ Settled old i i
      → Joining u to end slot hash old same nxt₀ (i + 1) nxt key tab list lost
  turn_rests {i} {nxt = nxt} j why =
      record {
        table =
            record {
              keys = λ c h l s. j.table.keys c h l (less c l s);
              entries = λ c h l s. j.table.entries c h l (less c l s);
              lone = λ c d hc hd lc ld sc sd e. j.table.lone c d hc hd lc ld (less c lc sc) (less d ld sd) e;
            };
        down = j.down;
        others = j.others;
        leads = j.leads;
        signed = j.signed;
        put = λ c h l ne. omega (arith, j.put c h l ne);
        listed = j.listed;
        losers = j.losers;
      }
    where
      less : (c : ℕ) → nxt c ≡ c → Settled old (i + 1) c → Settled old i c
      less c l s = ⊎_elim (λ e. ⊎_elim (λ ne. absurd (ne (subst (λ (x : ℕ). nxt x ≡ x) e l))) (λ g. subst (Settled old i) (sym e) g) why) (settled_less old i c s) (eq_or_ne c i)

  -- Place i leads and is put: its key has been noted, and the table was gone through from its slot up to cell p.
  module _ {i lost : ℕ} {nxt key tab list : ℕ → ℕ} (j : Joining u to end slot hash old same nxt₀ i nxt key tab list lost)
      (same-sym : (c d : ℕ) → same c d → same d c) (same-trans : (c d e : ℕ) → same c d → same d e → same c e)
      (same-hash : (c d : ℕ) → same c d → hash c ≡ hash d)
      (hi : i < to) (li : nxt i ≡ i)
      {key' : ℕ → ℕ} (own : key' i ≡ hash i) (rest : (c : ℕ) → c < to → (c ≡ i → ⊥) → key' c ≡ key c) where
    -- It led before, too.
    lead-before : (c : ℕ) → c < to → nxt c ≡ c → nxt₀ c ≡ c
    lead-before c h l = ⊎_elim (λ e. e) (λ ne. absurd (ne (sym (j.others c h ne) ∙ l))) (eq_or_ne (nxt₀ c) c)

    -- Keys and entries of the other places hold: a cell that is not empty stays so.
    key-holds : (c : ℕ) → c < to → (c ≡ i → ⊥) → nxt c ≡ c → Settled old (i + 1) c → key' c ≡ hash c
    key-holds c h ne l s = rest c h ne ∙ j.table.keys c h l (settled_less old i c s ne)

    entry-holds : {tab' : ℕ → ℕ} (c : ℕ) → c < to → (c ≡ i → ⊥) → nxt c ≡ c → Settled old (i + 1) c
        → ((x : ℕ) → x < end → tab x ≡ suc c → tab' x ≡ suc c) → ((x : ℕ) → x < end → tab' x ≡ 0 → tab x ≡ 0) → Entry end slot key' tab' c
    entry-holds c h ne l s here some =
        let k : key' c ≡ key c = rest c h ne in
        let e = j.table.entries c h l (settled_less old i c s ne) in
        record {
          at = e.at;
          from = subst (λ (y : ℕ). slot y ≤ e.at) (sym k) e.from;
          inside = e.inside;
          here = here e.at e.inside e.here;
          filled = λ x g b z. e.filled x (subst (λ (y : ℕ). slot y ≤ x) k g) b (some x (omega (arith, e.inside)) z);
        }

    lone-holds : (c d : ℕ) → c < to → d < to → nxt c ≡ c → nxt d ≡ d → Settled old (i + 1) c → Settled old (i + 1) d → (c ≡ i → ⊥) → (d ≡ i → ⊥) → same c d → c ≡ d
    lone-holds c d hc hd lc ld sc sd nc nd e = j.table.lone c d hc hd lc ld (settled_less old i c sc nc) (settled_less old i d sd nd) e

    -- No other place of its signature leads and is settled: then neither does one when it has been entered.
    lone-all : {lead : ℕ → Type 0} → ((c : ℕ) → lead c → nxt c ≡ c) → ((c : ℕ) → c < to → (c ≡ i → ⊥) → lead c → Settled old i c → same c i → ⊥)
        → (c d : ℕ) → c < to → d < to → lead c → lead d → Settled old (i + 1) c → Settled old (i + 1) d → same c d → c ≡ d
    lone-all leads alone c d hc hd lc ld sc sd e = pick (eq_or_ne c i) (eq_or_ne d i)
      where
        pick : (c ≡ i) ⊎ (c ≡ i → ⊥) → (d ≡ i) ⊎ (d ≡ i → ⊥) → c ≡ d
        pick (inl x) (inl y) = x ∙ sym y
        pick (inl x) (inr y) = absurd (alone d hd y ld (settled_less old i d sd y) (same-sym i d (subst (λ (z : ℕ). same z d) x e)))
        pick (inr x) (inl y) = absurd (alone c hc x lc (settled_less old i c sc x) (subst (same c) y e))
        pick (inr x) (inr y) = lone-holds c d hc hd (leads c lc) (leads d ld) sc sd x y e

    -- ---- the table was gone through from its slot up to cell p
    module _ (p : ℕ) (from : slot (key' i) ≤ p) (inside : p < end) (filled : (x : ℕ) → slot (key' i) ≤ x → x < p → tab x ≡ 0 → ⊥)
        {tab' : ℕ → ℕ} (here : tab' p ≡ suc i) (there : (x : ℕ) → x < end → (x ≡ p → ⊥) → tab' x ≡ tab x) where
      entry-own : Entry end slot key' tab' i
      entry-own = record { at = p; from = from; inside = inside; here = here; filled = λ x g b z. filled x g b (sym (there x (omega arith) (λ e. omega arith)) ∙ z) }

      some-still : (x : ℕ) → x < end → tab' x ≡ 0 → tab x ≡ 0
      some-still x h z = ⊎_elim (λ e. omega (arith, here, subst (λ (y : ℕ). tab' y ≡ 0) e z)) (λ ne. sym (there x h ne) ∙ z) (eq_or_ne x p)

      here-still : (c : ℕ) → (tab p ≡ suc c → ⊥) → (x : ℕ) → x < end → tab x ≡ suc c → tab' x ≡ suc c
      here-still c other x h e = ⊎_elim (λ g. absurd (other (ap tab (sym g) ∙ e))) (λ ne. there x h ne ∙ e) (eq_or_ne x p)

      table-with : {nxt' : ℕ → ℕ} → ((c : ℕ) → c < to → nxt' c ≡ c → nxt c ≡ c) → ((c : ℕ) → c < to → nxt' c ≡ c → tab p ≡ suc c → ⊥)
          → ((c : ℕ) → c < to → (c ≡ i → ⊥) → nxt' c ≡ c → Settled old i c → same c i → ⊥) → Table to end slot hash (Settled old (i + 1)) same nxt' key' tab'
      table-with {nxt'} leads other alone =
          record {
            keys = λ c h l s. ⊎_elim (λ e. ap key' e ∙ own ∙ ap hash (sym e)) (λ ne. key-holds c h ne (leads c h l) s) (eq_or_ne c i);
            entries = λ c h l s.
                ⊎_elim (λ e. subst (Entry end slot key' tab') (sym e) entry-own) (λ ne. entry-holds c h ne (leads c h l) s (here-still c (other c h l)) some-still) (eq_or_ne c i);
            lone = λ c d hc hd lc ld sc sd e.
                lone-all {lead = λ x. (x < to) × (nxt' x ≡ x)} (λ x y. leads x y.0 y.1) (λ x hx ne y s g. alone x hx ne y.1 s g) c d hc hd (hc, lc) (hd, ld) sc sd e;
          }

      -- The cell is empty, so that no other place of its signature is in the table.
      pub turn-enters : tab p ≡ 0
          → ((x c : ℕ) → slot (key' i) ≤ x → x < p → tab x ≡ suc c → c < to → (c ≡ i → ⊥) → nxt c ≡ c → key' c ≡ key' i → Settled old i c → same c i → ⊥)
          → Joining u to end slot hash old same nxt₀ (i + 1) nxt key' tab' list lost
      turn-enters empty unlike =
          record {
            table = table-with (λ c h l. l) (λ c h l e. omega (arith, empty)) alone;
            down = j.down;
            others = j.others;
            leads = j.leads;
            signed = j.signed;
            put = λ c h l ne. omega (arith, j.put c h l ne);
            listed = j.listed;
            losers = j.losers;
          }
        where
          alone : (c : ℕ) → c < to → (c ≡ i → ⊥) → nxt c ≡ c → Settled old i c → same c i → ⊥
          alone c h ne l s e =
              let k : key c ≡ hash i = j.table.keys c h l s ∙ same-hash c i e in
              let g : slot (key c) ≡ slot (key' i) = ap slot (k ∙ sym own) in
              let y = j.table.entries c h l s in
              elim (dec_lt y.at p) [
                | yes a ↦ unlike y.at c (omega (arith, y.from)) a y.here h ne l (rest c h ne ∙ k ∙ sym own) s e
                | no a ↦ elim (dec_lt p y.at) [
                  | yes b ↦ y.filled p (omega arith) b empty
                  | no b ↦ (let q : y.at ≡ p = omega arith in omega (arith, ap tab q, y.here))
                ]
              ]

    -- ---- of two places of one signature the higher, z, follows the lower, w
    module _ (z w : ℕ) (hz : z < to) (lower : w < z) (lz : nxt z ≡ z) (lw : nxt w ≡ w) (alike : same z w) (put : w < i + 1)
        (alone : (c : ℕ) → c < to → nxt₀ c ≡ c → (c ≡ z → ⊥) → nxt c ≡ z → ⊥)
        {nxt' : ℕ → ℕ} (follows : nxt' z ≡ w) (others : (c : ℕ) → c < to → (c ≡ z → ⊥) → nxt' c ≡ nxt c) (old-fit : u ≤ to)
        {list' : ℕ → ℕ} {lost' : ℕ} (grows : lost ≤ lost') (before : (x : ℕ) → x < lost → list' x ≡ list x)
        (listed : z < u → (x : ℕ) × (x < lost') × (list' x ≡ z)) (last : (x : ℕ) → lost ≤ x → x < lost' → (z < u) × (list' x ≡ z)) where
      still-leads : (c : ℕ) → c < to → nxt' c ≡ c → nxt c ≡ c
      still-leads c h l = ⊎_elim (λ e. omega (arith, follows, subst (λ (y : ℕ). nxt' y ≡ y) e l)) (λ ne. sym (others c h ne) ∙ l) (eq_or_ne c z)

      not-z : (c : ℕ) → nxt' c ≡ c → c ≡ z → ⊥
      not-z c l e = omega (arith, follows, subst (λ (y : ℕ). nxt' y ≡ y) e l)

      joined : {tab' : ℕ → ℕ} → Table to end slot hash (Settled old (i + 1)) same nxt' key' tab' → Joining u to end slot hash old same nxt₀ (i + 1) nxt' key' tab' list' lost'
      joined table =
          record {
            table = table;
            down = λ c h. ⊎_elim (λ e. omega (arith, subst (λ (y : ℕ). nxt' y ≡ w) (sym e) follows)) (λ ne. omega (arith, others c h ne, j.down c h)) (eq_or_ne c z);
            others = λ c h ne. others c h (λ e. ne (subst (λ (y : ℕ). nxt₀ y ≡ y) (sym e) (lead-before z hz lz))) ∙ j.others c h ne;
            leads = λ c h l. ⊎_elim
                (λ e. let q : nxt' c ≡ w = ap nxt' e ∙ follows in ap nxt' q ∙ others w (omega arith) (λ g. omega arith) ∙ lw ∙ sym q)
                (λ ne. let q : nxt' c ≡ nxt c = others c h ne in ap nxt' q ∙ others (nxt c) (omega (arith, j.down c h)) (alone c h l ne) ∙ j.leads c h l ∙ sym q)
                (eq_or_ne c z);
            signed = λ c h l. ⊎_elim
                (λ e. let q : nxt' c ≡ w = ap nxt' e ∙ follows in subst (same c) (sym q) (subst (λ (y : ℕ). same y w) (sym e) alike))
                (λ ne. subst (same c) (sym (others c h ne)) (j.signed c h l))
                (eq_or_ne c z);
            put = λ c h l ne. ⊎_elim
                (λ e. omega (arith, ap nxt' e, follows))
                (λ g. omega (arith, others c h g, j.put c h l (λ e. ne (others c h g ∙ e))))
                (eq_or_ne c z);
            listed = λ c h l ne. ⊎_elim
                (λ e. let r = listed (subst (λ (y : ℕ). y < u) e h) in (r.0, r.1, r.2 ∙ sym e))
                (λ g. let r = j.listed c h l (λ e. ne (others c (omega arith) g ∙ e)) in (r.0, omega (arith, r.1), before r.0 r.1 ∙ r.2))
                (eq_or_ne c z);
            losers = λ x h. elim (dec_lt x lost) [
              | yes g ↦ (let r = j.losers x g in
                  let e : list' x ≡ list x = before x g in
                  let o : nxt' (list x) ≡ nxt (list x) = others (list x) (omega (arith, r.0)) (λ q. r.2 (subst (λ (y : ℕ). nxt y ≡ y) (sym q) lz)) in
                  (omega (arith, r.0), subst (λ (y : ℕ). nxt₀ y ≡ y) (sym e) r.1, λ q. r.2 (sym o ∙ subst (λ (y : ℕ). nxt' y ≡ y) e q)))
              | no g ↦ (let r = last x (omega arith) h in
                  (omega (arith, r.0, r.1), subst (λ (y : ℕ). nxt₀ y ≡ y) (sym r.1) (lead-before z hz lz), λ q. not-z (list' x) q r.1))
            ];
          }

      -- It is place i itself that follows,
      pub turn-follows : z ≡ i → Joining u to end slot hash old same nxt₀ (i + 1) nxt' key' tab list' lost'
      turn-follows zi = joined (record {
        keys = λ c h l s. key-holds c h (λ e. not-z c l (e ∙ sym zi)) (still-leads c h l) s;
        entries = λ c h l s. entry-holds c h (λ e. not-z c l (e ∙ sym zi)) (still-leads c h l) s (λ x b e. e) (λ x b e. e);
        lone = λ c d hc hd lc ld sc sd e.
            lone-holds c d hc hd (still-leads c hc lc) (still-leads d hd ld) sc sd (λ g. not-z c lc (g ∙ sym zi)) (λ g. not-z d ld (g ∙ sym zi)) e;
      })

      -- or one that was in the table, whose cell it takes.
      module _ (wi : w ≡ i) (sz : Settled old i z) (p : ℕ) (from : slot (key' i) ≤ p) (inside : p < end)
          (filled : (x : ℕ) → slot (key' i) ≤ x → x < p → tab x ≡ 0 → ⊥) (held : tab p ≡ suc z)
          {tab' : ℕ → ℕ} (here : tab' p ≡ suc i) (there : (x : ℕ) → x < end → (x ≡ p → ⊥) → tab' x ≡ tab x) where
        pub turn-leads : Joining u to end slot hash old same nxt₀ (i + 1) nxt' key' tab' list' lost'
        turn-leads = joined (table-with p from inside filled here there still-leads
            (λ c h l e. (let q : c ≡ z = omega (arith, held) in not-z c l q))
            (λ c h ne l s e. not-z c l (j.table.lone c z h hz (still-leads c h l) lz s sz (same-trans c w z (subst (same c) (sym wi) e) (same-sym z w alike)))))

-- What counts of leaders, keys, table and list are the places, cells and entries in use.
pub joining_same : {u to end : ℕ} {slot hash : ℕ → ℕ} {old : ℕ → Type 0} {same : ℕ → ℕ → Type 0} {nxt₀ : ℕ → ℕ} {i lost : ℕ} {nxt key tab list nxt' key' tab' list' : ℕ → ℕ}
    → Joining u to end slot hash old same nxt₀ i nxt key tab list lost → u ≤ to
    → ((c : ℕ) → c < to → nxt' c ≡ nxt c) → ((c : ℕ) → c < to → key' c ≡ key c) → ((x : ℕ) → x < end → tab' x ≡ tab x) → ((x : ℕ) → x < lost → list' x ≡ list x)
    → Joining u to end slot hash old same nxt₀ i nxt' key' tab' list' lost
joining_same {to = to} {slot = slot} {same = same} {nxt₀ = nxt₀} {nxt = nxt} {nxt' = nxt'} j fit n k t l =
    record {
      table =
          record {
            keys = λ c h e s. k c h ∙ j.table.keys c h (back c h e) s;
            entries = λ c h e s.
                let x = j.table.entries c h (back c h e) s in
                record {
                  at = x.at;
                  from = subst (λ (y : ℕ). slot y ≤ x.at) (sym (k c h)) x.from;
                  inside = x.inside;
                  here = t x.at x.inside ∙ x.here;
                  filled = λ y g b z. x.filled y (subst (λ (w : ℕ). slot w ≤ y) (k c h) g) b (sym (t y (omega (arith, x.inside))) ∙ z);
                };
            lone = λ c d hc hd lc ld sc sd e. j.table.lone c d hc hd (back c hc lc) (back d hd ld) sc sd e;
          };
      down = λ c h. omega (arith, n c h, j.down c h);
      others = λ c h ne. n c h ∙ j.others c h ne;
      leads = λ c h e. let d = j.down c h in ap nxt' (n c h) ∙ n (nxt c) (omega arith) ∙ j.leads c h e ∙ sym (n c h);
      signed = λ c h e. subst (same c) (sym (n c h)) (j.signed c h e);
      put = λ c h e ne. omega (arith, n c h, j.put c h e (λ g. ne (n c h ∙ g)));
      listed = λ c h e ne. let r = j.listed c h e (λ g. ne (n c (omega arith) ∙ g)) in (r.0, r.1, l r.0 r.1 ∙ r.2);
      losers = λ x h.
          let r = j.losers x h in
          let e = l x h in
          (omega (arith, r.0), ap nxt₀ e ∙ r.1 ∙ sym e, λ g. r.2 (sym (n _ (omega (arith, r.0))) ∙ ap nxt' (sym e) ∙ g ∙ e));
    }
  where
    back : (c : ℕ) → c < to → nxt' c ≡ c → nxt c ≡ c
    back c h e = sym (n c h) ∙ e
