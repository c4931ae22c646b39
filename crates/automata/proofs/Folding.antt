-- A machine whose rows are folded into similar ones: it agrees from the offset on, meets every kept row, and no machine that agrees has fewer.
use mathlib.Core.Path.{◌≡◌, sym, ap, subst, ◌∙◌}
use mathlib.Core.List.{List, [], ◌∷◌, ◌++◌}
use Prim.Native.Nat.{ℕ, ◌+◌, ◌-◌, ◌≤◌, ◌<◌, min}
use native.Mathlib.Omega.{arith}
use lib.ListN.{length}
use Rattle.automata.specs.Runs.{Events, Machine, Sound, Run, size, after, Near, AgreeFrom, Leads, Len, len, endless, IsDepth}
use Rattle.automata.proofs.Lists.{Mem, Distinct, pigeonhole}
use Rattle.automata.proofs.Runs.{run_append, size-append, after-append, after_in, Reach, stay, event, ◌then◌, less, near_refl, near_trans, near_up, near_step}

-- ---- lengths

-- The length is at least c.
abbrev pub Atleast : Len → ℕ → Type 0
Atleast (len d) c = c ≤ d
Atleast endless c = Unit {0}

-- The smaller of k and the length.
abbrev pub cap : ℕ → Len → ℕ
cap k (len d) = min k d
cap k endless = k

-- The second length is no smaller.
infix 50 ◌⊑◌
abbrev pub ◌⊑◌ : Len → Len → Type 0
d ⊑ e = (c : ℕ) → Atleast d c → Atleast e c

at_cap : (k : ℕ) (d : Len) → Atleast d (cap k d)
at_cap k (len d) = omega arith
at_cap k endless = tt

cap_le : (k : ℕ) (d : Len) (c : ℕ) → Atleast d c → min k c ≤ cap k d
cap_le k (len d) c h = omega arith
cap_le k endless c h = omega arith

-- A row of depth d has a run of size c just if d is at least c.
run_of : (E : Events) (M : Machine) (q : ℕ) (d : Len) → IsDepth E M q d → (c : ℕ) → Atleast d c → Reach E M q c
run_of E M q (len d) h c a = record { by = h.0.0; leads = h.0.1; long = omega (arith, h.0.2) }
run_of E M q endless h c a = let r = h c in record { by = r.0; leads = r.1; long = r.2 }

deep_of : (E : Events) (M : Machine) (q : ℕ) (d : Len) → IsDepth E M q d → (c : ℕ) → Reach E M q c → Atleast d c
deep_of E M q (len d) h c r = omega (arith, h.1 r.by r.leads, r.long)
deep_of E M q endless h c r = tt

-- ---- folding

-- Similarity at offset k, of rows of depths d and e.
abbrev pub Alike : Events → Machine → ℕ → ℕ → ℕ → Len → Len → Type 0
Alike E M k q p d e = Near E M M (k - min (cap k d) (cap k e)) q p

-- What is asked of the kept rows, and of the kept row into which each reached row folds.
pub record Folding (E : Events) (M : Machine) (depth : ℕ → Len) (k : ℕ) (kept : List ℕ) (fold : ℕ → ℕ) : Type 0 where
  pub distinct : Distinct kept
  pub depth_is : (q : ℕ) → Reach E M q 0 → IsDepth E M q (depth q)
  pub kept_reach : (q : ℕ) → Mem q kept → Reach E M q 0
  pub kept_apart : (q p : ℕ) → Mem q kept → Mem p kept → Alike E M k q p (depth q) (depth p) → q ≡ p
  pub fold_kept : (q : ℕ) → Reach E M q 0 → Mem (fold q) kept
  pub fold_alike : (q : ℕ) → Reach E M q 0 → Alike E M k q (fold q) (depth q) (depth (fold q))
  pub fold_deep : (q : ℕ) → Reach E M q 0 → depth q ⊑ depth (fold q)

-- M with its start, and each target, replaced by the row into which it folds.
abbrev pub folded : Machine → (ℕ → ℕ) → Machine
folded M fold = record { rows = M.rows; start = fold M.start; target = λ q a. fold (M.target q a); mark = M.mark }

module _ {E : Events} {M : Machine} {depth : ℕ → Len} {k : ℕ} {kept : List ℕ} {fold : ℕ → ℕ} (F : Folding E M depth k kept fold) where
  -- A longest run to a kept row, as far as k goes.
  longest : (q : ℕ) → Mem q kept → Reach E M q (cap k (depth q))
  longest q h = run_of E M q (depth q) (F.depth_is q (F.kept_reach q h)) (cap k (depth q)) (at_cap k (depth q))

  deep : {q c : ℕ} → Reach E M q c → Atleast (depth q) c
  deep {q} {c} r = deep_of E M q (depth q) (F.depth_is q (less (omega arith) r)) c r

  -- After a run of size c, the row q of M and the row p of the folded machine.
  record Follows (c q p : ℕ) : Type 0 where
    close : Near E M M (k - c) q p
    far : Atleast (depth p) c
    is-kept : Mem p kept

  -- Folding a row that has a run of size c leaves it near.
  follow : {x c : ℕ} (q : ℕ) → Near E M M (k - c) q x → Reach E M x c → Follows c q (fold x)
  follow {x} {c} q n r =
      let r0 : Reach E M x 0 = less (omega arith) r in
      let h = cap_le k (depth x) c (deep r) in
      let d = F.fold_deep x r0 c (deep r) in
      let g = cap_le k (depth (fold x)) c d in
      record { close = near_trans n (near_up (omega arith) (F.fold_alike x r0)); far = d; is-kept = F.fold_kept x r0 }

  follow-event : {c q p : ℕ} (a : ℕ) → a < E.count → Follows c q p → Follows (c + E.weight a) (M.target q a) (fold (M.target p a))
  follow-event {c} {q} {p} a ha i = follow (M.target q a) (near_up (omega arith) (near_step a ha i.close))
      (run_of E M p (depth p) (F.depth_is p (F.kept_reach p i.is-kept)) c i.far then event p a ha)

  follow_run : (w : List ℕ) {c q p : ℕ} → Run E w → Follows c q p → Follows (c + size E w) (after M q w) (after (folded M fold) p w)
  follow_run [] {c} {q} {p} hw i = subst (λ (x : ℕ). Follows x q p) (omega arith) i
  follow_run (a ∷ w) {c} {q} {p} hw i =
      subst (λ (x : ℕ). Follows x (after M (M.target q a) w) (after (folded M fold) (fold (M.target p a)) w)) (omega arith) (follow_run w hw.1 (follow-event a hw.0 i))

  follows : (w : List ℕ) → Run E w → Follows (0 + size E w) (after M M.start w) (after (folded M fold) (fold M.start) w)
  follows w hw = follow_run w hw (follow M.start near_refl (stay M.start))

  -- The folded machine agrees with M from the offset on.
  pub fold_agrees : AgreeFrom E k M (folded M fold)
  fold_agrees = record { same = λ w hw hl. (follows w hw).close.same [] tt (omega arith) }

  -- Every kept row is met.
  pub kept_met : (q : ℕ) → Mem q kept → (w : List ℕ) × Leads E (folded M fold) (fold M.start) q w
  kept_met q hq =
      let r = longest q hq in
      let i = follows r.by r.leads.run in
      let p : ℕ = after (folded M fold) (fold M.start) r.by in
      let n : Alike E M k q p (depth q) (depth p) = record {
        same = λ w hw hl. ap (λ (x : ℕ). M.mark (after M x w)) (sym r.leads.ends) ∙ i.close.same w hw (omega (arith, r.long));
      } in
      (r.by, record { run = r.leads.run; ends = sym (F.kept_apart q p hq i.is-kept n) })

  -- A machine that agrees with M from the offset on has no fewer rows.
  module _ (N : Machine) (t : Sound E N) (agree : AgreeFrom E k N M) where
    -- rows that N does not tell apart
    blurred : (q p c d : ℕ) (r : Reach E M q c) (u : Reach E M p d) → after N N.start r.by ≡ after N N.start u.by → Near E M M (k - min c d) q p
    blurred q p c d r u e = record {
      same = λ w hw hl.
          let a = agree.same (r.by ++ w) (run_append E r.by w r.leads.run hw) (omega (arith, size-append E r.by w, r.long)) in
          let b = agree.same (u.by ++ w) (run_append E u.by w u.leads.run hw) (omega (arith, size-append E u.by w, u.long)) in
          let x = r.leads.ends in
          let y = u.leads.ends in
          cc (after-append M M.start r.by w, after-append M M.start u.by w, after-append N N.start r.by w, after-append N N.start u.by w);
    }

    pub fewest : length kept ≤ N.rows
    fewest = pigeonhole kept N.rows F.distinct
        (λ q h. after N N.start (longest q h).by)
        (λ q h. after_in t (longest q h).by N.start (longest q h).leads.run t.start_inside)
        (λ q p g h e. F.kept_apart q p g h (blurred q p (cap k (depth q)) (cap k (depth p)) (longest q g) (longest p h) e))
