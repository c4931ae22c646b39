-- The turn of one place in the lent scratch, from what the code has done.
use mathlib.Core.Path.{◌≡◌, refl, sym, ap, subst, ◌∙◌}
use mathlib.Core.List.{List}
use mathlib.Core.Logic.{◌⊎◌, inl, inr, ⊎_elim}
use Prim.Native.Nat.{ℕ, suc, ◌+◌, ◌*◌, ◌≤◌, ◌<◌}
use native.Mathlib.Omega.{arith}
use native.Mathlib.Numerals.{add-one}
use lib.ListN.{length, get_or, set, length-set}
use lib.Seq.{get_or-set_same, get_or-set_other}
use Rattle.scratch.proofs.Numbers.{eq_or_ne}
use Rattle.splitting.specs.Places.{nxt_at, key_at, jump_at, tab_at}
use Rattle.leader_table.specs.Putting.{row_at, Old, Settled, slot_of, Same, Sizes, Alike, Found, hash_in, Put, full, entered, follows, leads}
use Rattle.leaders.specs.Leaders.{InHand, Kept}
use Rattle.leaders.specs.Steps.{Stepped, rests, passed, noted, JoiningIn}
use Rattle.leaders.proofs.Regions.{kept_none, kept_then, kept_set}
use Rattle.signatures.proofs.Keys.{signed_back, signed_trans, key_same}
use Rattle.leaders.proofs.Signatures.{same_same, hash_same, settled-to, settled-from, same_from}
use Rattle.leaders.proofs.Table.{turn_rests, turn-enters, turn-follows, turn-leads, joining_same}

module _ (mask n m u to known last : ℕ) (cells : List ℕ) (i : ℕ) {b s : List ℕ} (sizes : Sizes n m to known b) (fit : u ≤ to) (hand : InHand n m to cells b) (hi : i < to) (kept : Kept n b s) where
  -- The place's key is noted.
  module _ {k : List ℕ} (ke : k ≡ set s (6 * n + i) (hash_in mask n m cells s i)) where
    kept-k : Kept n b k
    kept-k = kept_then kept (subst (Kept n s) (sym ke) (kept_set s (6 * n + i) (hash_in mask n m cells s i) (omega (arith, sizes.inside)) (omega (arith, sizes.inside)) (inr (omega arith, inl (omega (arith, sizes.inside))))))

    other-k : (x : ℕ) → (x ≡ 6 * n + i → ⊥) → get_or k x 0 ≡ get_or s x 0
    other-k x ne = ap (λ (l : List ℕ). get_or l x 0) ke ∙ get_or-set_other s (6 * n + i) x (hash_in mask n m cells s i) 0 ne

    own-k : key_at n k i ≡ hash_in mask n m cells b i
    own-k = ap (λ (l : List ℕ). key_at n l i) ke
        ∙ get_or-set_same s (6 * n + i) (hash_in mask n m cells s i) 0 (omega (arith, sizes.inside, sizes.room, kept.frame.size)) ∙ hash_same hand kept sizes.inside mask i hi

    key-k : (c : ℕ) → c < to → (c ≡ i → ⊥) → key_at n k c ≡ key_at n s c
    key-k c h ne = other-k (6 * n + c) (λ e. ne (omega arith))

    nxt-k : (c : ℕ) → c < to → nxt_at n k c ≡ nxt_at n s c
    nxt-k c h = other-k (4 * n + c) (λ e. omega (arith, sizes.inside))

    tab-k : (x : ℕ) → tab_at n k x ≡ tab_at n s x
    tab-k x = other-k (9 * n + x) (λ e. omega (arith, sizes.inside))

    -- What was passed over is unlike the place, by the signatures of the start.
    unlike-k : {at : ℕ} → Found mask n m to known last cells i k at → (x c : ℕ) → slot_of n (key_at n k i) ≤ x → x < at → tab_at n s x ≡ suc c
        → c < to → (c ≡ i → ⊥) → nxt_at n s c ≡ c → key_at n k c ≡ key_at n k i → Settled (Old n m known last cells b) i c → Same mask n m cells b c i → ⊥
    unlike-k f x c from l e h ne lead key settled same = f.unlike x c from l (tab-k x ∙ e)
        (record {
          inside = h;
          other = ne;
          leads = nxt-k c h ∙ lead;
          key = key;
          settled = settled-from hand kept-k sizes.inside known last i c h settled;
          signed = same_from hand kept-k sizes.inside mask c i h hi same;
        })

    -- A place like it is so by the signatures of the start.
    module _ {y : ℕ} (a : Alike mask n m to known last cells k i y) where
      settled-y : Settled (Old n m known last cells b) i y
      settled-y = settled-to hand kept-k sizes.inside known last i y a.inside a.settled

      same-y : Same mask n m cells b y i
      same-y = same_same hand kept-k sizes.inside mask y i a.inside hi a.signed

      lead_y : nxt_at n s y ≡ y
      lead_y = sym (nxt-k y a.inside) ∙ a.leads

  sym_b : (c d : ℕ) → Same mask n m cells b c d → Same mask n m cells b d c
  sym_b c d = signed_back mask n m cells b (row_at n b c) (row_at n b d)

  trans_b : (c d e : ℕ) → Same mask n m cells b c d → Same mask n m cells b d e → Same mask n m cells b c e
  trans_b c d e = signed_trans mask n m cells b (row_at n b c) (row_at n b d) (row_at n b e)

  hash_b : (c d : ℕ) → Same mask n m cells b c d → hash_in mask n m cells b c ≡ hash_in mask n m cells b d
  hash_b c d = key_same mask n m cells b (row_at n b c) (row_at n b d)

  module _ {lost : ℕ} (j : JoiningIn mask n m u to known last cells i b s lost) where
    pub step-rests : (nxt_at n s i ≡ i → ⊥) ⊎ Settled (Old n m known last cells s) i i → JoiningIn mask n m u to known last cells (i + 1) b s lost
    step-rests (inl ne) = turn_rests j (inl ne)
    step-rests (inr h) = turn_rests j (inr (settled-to hand kept sizes.inside known last i i hi h))

    -- The place leads and is put; w is what stands in the end, and the place that leads no more, if it is below u, is on the list there.
    module _ (li : nxt_at n s i ≡ i) (t w : List ℕ) (z lost' : ℕ)
        (nxt-w : (c : ℕ) → c < to → nxt_at n w c ≡ nxt_at n t c) (key-w : (c : ℕ) → c < to → key_at n w c ≡ key_at n t c) (tab-w : (x : ℕ) → x < 3 * n → tab_at n w x ≡ tab_at n t x)
        (grows : lost ≤ lost') (before : (x : ℕ) → x < lost → jump_at n w x ≡ jump_at n s x)
        (listed : z < u → (x : ℕ) × (x < lost') × (jump_at n w x ≡ z)) (last-z : (x : ℕ) → lost ≤ x → x < lost' → (z < u) × (jump_at n w x ≡ z)) where
      pub step-put : Put mask n m to known last cells i s t z → z ≤ to → JoiningIn mask n m u to known last cells (i + 1) b w lost'
      step-put (full e h) l = absurd (omega arith)
      step-put (entered k at ke ha f empty te ze) l =
          let none : lost ≡ lost' = same_count in
          subst (JoiningIn mask n m u to known last cells (i + 1) b w) none (joining_same
          (turn-enters j sym_b trans_b hash_b hi li (own-k ke) (key-k ke) at f.from ha (λ x g c e. f.filled x g c (tab-k ke x ∙ e))
          {tab' = tab_at n t}
          (ap (λ (y : List ℕ). tab_at n y at) te ∙ get_or-set_same k (9 * n + at) (i + 1) 0 (omega (arith, sizes.room, (kept-k ke).frame.size)) ∙ add-one i)
          (λ x h ne. ap (λ (y : List ℕ). tab_at n y x) te ∙ get_or-set_other k (9 * n + at) (9 * n + x) (i + 1) 0 (λ e. ne (omega arith)) ∙ tab-k ke x)
          (sym (tab-k ke at) ∙ empty) (unlike-k ke f))
          fit
          (λ c h. nxt-w c h ∙ ap (λ (y : List ℕ). nxt_at n y c) te ∙ get_or-set_other k (9 * n + at) (4 * n + c) (i + 1) 0 (λ e. omega (arith, sizes.inside)) ∙ nxt-k ke c h)
          (λ c h. key-w c h ∙ ap (λ (y : List ℕ). key_at n y c) te ∙ get_or-set_other k (9 * n + at) (6 * n + c) (i + 1) 0 (λ e. omega (arith, sizes.inside)))
          tab-w
          before)
        where
          same_count : lost ≡ lost'
          same_count = ⊎_elim (λ e. e) (λ ne. omega (arith, (last-z lost (omega arith) (omega arith)).0)) (eq_or_ne lost lost')
      step-put (follows k y ke a lower te ze) l =
          joining_same
          (turn-follows j sym_b trans_b hash_b hi li (own-k ke) (key-k ke) z y (omega arith) (omega arith) (subst (λ (x : ℕ). nxt_at n s x ≡ x) (sym ze) li) (lead_y ke a)
          (subst (λ (x : ℕ). Same mask n m cells b x y) (sym ze) (sym_b y i (same-y ke a))) (omega arith)
          (λ c h l₀ ne e. let p = j.put c h l₀ (λ q. ne (sym q ∙ e)) in omega arith)
          {nxt' = nxt_at n t}
          (ap (nxt_at n t) ze ∙ ap (λ (x : List ℕ). nxt_at n x i) te ∙ get_or-set_same k (4 * n + i) y 0 (omega (arith, sizes.room, sizes.inside, (kept-k ke).frame.size)))
          (λ c h ne. ap (λ (x : List ℕ). nxt_at n x c) te ∙ get_or-set_other k (4 * n + i) (4 * n + c) y 0 (λ e. ne (omega arith)) ∙ nxt-k ke c h)
          fit grows before listed last-z ze)
          fit
          nxt-w
          (λ c h. key-w c h ∙ ap (λ (x : List ℕ). key_at n x c) te ∙ get_or-set_other k (4 * n + i) (6 * n + c) y 0 (λ e. omega (arith, sizes.inside)))
          (λ x h. tab-w x h ∙ ap (λ (v : List ℕ). tab_at n v x) te ∙ get_or-set_other k (4 * n + i) (9 * n + x) y 0 (λ e. omega (arith, sizes.inside)) ∙ tab-k ke x)
          (λ x h. refl)
      step-put (leads k at y ke ha f held a higher te ze) l =
          let hy = a.inside in
          let rk = (kept-k ke).frame.size in
          joining_same
          (turn-leads j sym_b trans_b hash_b hi li (own-k ke) (key-k ke) z i (omega arith) (omega arith) (subst (λ (x : ℕ). nxt_at n s x ≡ x) (sym ze) (lead_y ke a)) li
          (subst (λ (x : ℕ). Same mask n m cells b x i) (sym ze) (same-y ke a)) (omega arith)
          (λ c h l₀ ne e. let p = j.put c h l₀ (λ q. ne (sym q ∙ e)) in omega arith)
          {nxt' = nxt_at n t}
          (ap (nxt_at n t) ze ∙ ap (λ (x : List ℕ). nxt_at n x y) te ∙ get_or-set_other (set k (4 * n + y) i) (9 * n + at) (4 * n + y) (i + 1) 0 (λ e. omega (arith, sizes.inside))
          ∙ get_or-set_same k (4 * n + y) i 0 (omega (arith, sizes.room, sizes.inside)))
          (λ c h ne. ap (λ (x : List ℕ). nxt_at n x c) te ∙ get_or-set_other (set k (4 * n + y) i) (9 * n + at) (4 * n + c) (i + 1) 0 (λ e. omega (arith, sizes.inside))
          ∙ get_or-set_other k (4 * n + y) (4 * n + c) i 0 (λ e. ne (omega arith)) ∙ nxt-k ke c h)
          fit grows before listed last-z refl (subst (Settled (Old n m known last cells b) i) (sym ze) (settled-y ke a))
          at f.from ha (λ x g c e. f.filled x g c (tab-k ke x ∙ e)) (sym (tab-k ke at) ∙ held ∙ ap suc (sym ze))
          {tab' = tab_at n t}
          (ap (λ (x : List ℕ). tab_at n x at) te ∙ get_or-set_same (set k (4 * n + y) i) (9 * n + at) (i + 1) 0 (omega (arith, sizes.room, length-set k (4 * n + y) i)) ∙ add-one i)
          (λ x h ne. ap (λ (v : List ℕ). tab_at n v x) te ∙ get_or-set_other (set k (4 * n + y) i) (9 * n + at) (9 * n + x) (i + 1) 0 (λ e. ne (omega arith))
          ∙ get_or-set_other k (4 * n + y) (9 * n + x) i 0 (λ e. omega (arith, sizes.inside)) ∙ tab-k ke x))
          fit
          nxt-w
          (λ c h. key-w c h ∙ ap (λ (x : List ℕ). key_at n x c) te ∙ get_or-set_other (set k (4 * n + y) i) (9 * n + at) (6 * n + c) (i + 1) 0 (λ e. omega (arith, sizes.inside))
          ∙ get_or-set_other k (4 * n + y) (6 * n + c) i 0 (λ e. omega (arith, sizes.inside)))
          tab-w
          (λ x h. refl)

-- ---- what a turn leaves
module _ {mask n m to known last : ℕ} {cells : List ℕ} {i : ℕ} {s t : List ℕ} {z : ℕ} (inside : to ≤ n) (hi : i < to) where
  -- Only leaders, keys and the table change.
  pub put_kept : Put mask n m to known last cells i s t z → Kept n s t
  put_kept (full e h) = subst (Kept n s) (sym e) (kept_set s (6 * n + i) (hash_in mask n m cells s i) (omega arith) (omega arith) (inr (omega arith, inl (omega arith))))
  put_kept (entered k at ke ha f empty te ze) =
      kept_then (subst (Kept n s) (sym ke) (kept_set s (6 * n + i) (hash_in mask n m cells s i) (omega arith) (omega arith) (inr (omega arith, inl (omega arith)))))
      (subst (Kept n k) (sym te) (kept_set k (9 * n + at) (i + 1) (omega arith) (omega arith) (inr (omega arith, inr (omega arith)))))
  put_kept (follows k y ke a lower te ze) =
      kept_then (subst (Kept n s) (sym ke) (kept_set s (6 * n + i) (hash_in mask n m cells s i) (omega arith) (omega arith) (inr (omega arith, inl (omega arith)))))
      (subst (Kept n k) (sym te) (kept_set k (4 * n + i) y (omega arith) (omega arith) (inl (omega arith))))
  put_kept (leads k at y ke ha f held a higher te ze) =
      kept_then (subst (Kept n s) (sym ke) (kept_set s (6 * n + i) (hash_in mask n m cells s i) (omega arith) (omega arith) (inr (omega arith, inl (omega arith)))))
      (subst (Kept n k) (sym te) (kept_then (kept_set k (4 * n + y) i (omega arith) (omega (arith, a.inside)) (inl (omega (arith, a.inside))))
      (kept_set (set k (4 * n + y) i) (9 * n + at) (i + 1) (omega arith) (omega arith) (inr (omega arith, inr (omega arith))))))

  -- The list stays.
  pub put_list : Put mask n m to known last cells i s t z → (x : ℕ) → x < n → jump_at n t x ≡ jump_at n s x
  put_list (full e h) x l = ap (λ (y : List ℕ). jump_at n y x) e ∙ get_or-set_other s (6 * n + i) (7 * n + x) (hash_in mask n m cells s i) 0 (λ e. omega arith)
  put_list (entered k at ke ha f empty te ze) x l =
      ap (λ (y : List ℕ). jump_at n y x) te ∙ get_or-set_other k (9 * n + at) (7 * n + x) (i + 1) 0 (λ e. omega arith)
      ∙ ap (λ (y : List ℕ). jump_at n y x) ke ∙ get_or-set_other s (6 * n + i) (7 * n + x) (hash_in mask n m cells s i) 0 (λ e. omega arith)
  put_list (follows k y ke a lower te ze) x l =
      ap (λ (v : List ℕ). jump_at n v x) te ∙ get_or-set_other k (4 * n + i) (7 * n + x) y 0 (λ e. omega arith)
      ∙ ap (λ (v : List ℕ). jump_at n v x) ke ∙ get_or-set_other s (6 * n + i) (7 * n + x) (hash_in mask n m cells s i) 0 (λ e. omega arith)
  put_list (leads k at y ke ha f held a higher te ze) x l =
      ap (λ (v : List ℕ). jump_at n v x) te ∙ get_or-set_other (set k (4 * n + y) i) (9 * n + at) (7 * n + x) (i + 1) 0 (λ e. omega arith)
      ∙ get_or-set_other k (4 * n + y) (7 * n + x) i 0 (λ e. omega (arith, a.inside))
      ∙ ap (λ (v : List ℕ). jump_at n v x) ke ∙ get_or-set_other s (6 * n + i) (7 * n + x) (hash_in mask n m cells s i) 0 (λ e. omega arith)

module _ {mask n m u to known last : ℕ} {cells : List ℕ} {i lost : ℕ} {s t : List ℕ} {r : ℕ} (inside : to ≤ n) (hi : i < to) (few : lost ≤ i) where
  pub step_kept : Stepped mask n m u to known last cells i lost s t r → Kept n s t
  step_kept (rests why te re) = subst (Kept n s) (sym te) kept_none
  step_kept (passed z li p low h re) = put_kept inside hi p
  step_kept (noted z k li p low te re) =
      kept_then (put_kept inside hi p) (subst (Kept n k) (sym te) (kept_set k (7 * n + lost) z (omega arith) (omega arith) (inr (omega arith, inl (omega arith)))))
  step_kept (Stepped.full z p re) = put_kept inside hi p

  -- What holds of the places below i holds of those below i + 1.
  pub step-joins : {b : List ℕ} → Sizes n m to known b → u ≤ to → InHand n m to cells b → Kept n b s → JoiningIn mask n m u to known last cells i b s lost
      → Stepped mask n m u to known last cells i lost s t r → r ≤ 1024 → JoiningIn mask n m u to known last cells (i + 1) b t r
  step-joins {b} sizes fit hand kept j (rests why te re) h =
      subst (λ (x : ℕ). JoiningIn mask n m u to known last cells (i + 1) b t x) (sym re)
      (subst (λ (x : List ℕ). JoiningIn mask n m u to known last cells (i + 1) b x lost) (sym te) (step-rests mask n m u to known last cells i sizes fit hand hi kept j why))
  step-joins sizes fit hand kept j (passed z li p low g re) h =
      step-put mask n m u to known last cells i sizes fit hand hi kept j li t t z r (λ c l. refl) (λ c l. refl) (λ x l. refl) (omega arith)
      (λ x l. put_list inside hi p x (omega arith)) (λ l. absurd (omega arith)) (λ x l₁ l₂. absurd (omega arith)) p g
  step-joins sizes fit hand kept j (noted z k li p low te re) h =
      let size : length k ≡ length s = (put_kept inside hi p).frame.size in
      step-put mask n m u to known last cells i sizes fit hand hi kept j li k t z r
      (λ c l. ap (λ (x : List ℕ). nxt_at n x c) te ∙ get_or-set_other k (7 * n + lost) (4 * n + c) z 0 (λ e. omega arith))
      (λ c l. ap (λ (x : List ℕ). key_at n x c) te ∙ get_or-set_other k (7 * n + lost) (6 * n + c) z 0 (λ e. omega arith))
      (λ x l. ap (λ (y : List ℕ). tab_at n y x) te ∙ get_or-set_other k (7 * n + lost) (9 * n + x) z 0 (λ e. omega arith))
      (omega arith)
      (λ x l. ap (λ (y : List ℕ). jump_at n y x) te ∙ get_or-set_other k (7 * n + lost) (7 * n + x) z 0 (λ e. omega arith) ∙ put_list inside hi p x (omega arith))
      (λ l. (lost, omega arith, here size))
      (λ x l₁ l₂. let e : x ≡ lost = omega arith in (low, ap (jump_at n t) e ∙ here size))
      p (omega arith)
    where
      here : length k ≡ length s → jump_at n t lost ≡ z
      here size = ap (λ (x : List ℕ). jump_at n x lost) te ∙ get_or-set_same k (7 * n + lost) z 0 (omega (arith, sizes.room, kept.frame.size))
  step-joins sizes fit hand kept j (Stepped.full z p re) h = absurd (omega arith)
