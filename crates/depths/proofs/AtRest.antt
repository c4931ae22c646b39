-- Where no event raises a lead any more, the leads are those of the rows.
use mathlib.Core.Path.{◌≡◌, refl, sym, ap, subst, ◌∙◌}
use mathlib.Core.List.{List, [], ◌∷◌}
use mathlib.Core.Logic.{inl, inr}
use Prim.Native.Nat.{ℕ, suc, ◌+◌, ◌-◌, ◌≤◌, ◌<◌, min}
use native.Mathlib.Omega.{arith}
use native.Mathlib.Decide.{dec_lt}
use Rattle.automata.specs.Runs.{Events, Machine, Sound, Light, Run, size, after, Leads, Len, len, endless, IsDepth}
use Rattle.automata.proofs.Tests.{either}
use Rattle.automata.proofs.Runs.{Reach, less}
use Rattle.tables.specs.Lengths.{lead, reached, depth}
use Rattle.tables.specs.Table.{Table, machine, events_of, target_of, weight_by}
use Rattle.tables.proofs.Lengths.{Below, reached_is, reached-found, depth_is, depth-one, depth_below, lead-unreached, lead-reached, lead-endless}
use Rattle.scratch.specs.Scratch.{len_cell, lead_in}
use Rattle.depths.specs.Steps.{Known, QuietRows}
use Rattle.depths.proofs.Moves.{further-least}
use Rattle.tables.proofs.Counted.{mask_light}

module _ (mask : ℕ) (T : Table) (s : List ℕ) (fit : T.rows ≤ 1024) (v : Sound (events_of (weight_by mask) T) (machine T))
    (k : Known (events_of (weight_by mask) T) (machine T) s) (quiet : QuietRows mask T s) where
  abbrev n : ℕ
  n = T.rows

  abbrev E : Events
  E = events_of (weight_by mask) T

  abbrev M : Machine
  M = machine T

  abbrev cell : ℕ → ℕ
  cell = lead_in s

  z : Light E
  z = mask_light mask T

  -- A run goes on from a lead to one that is as much greater, or above the number of rows.
  follows : (w : List ℕ) (p : ℕ) → Run E w → p < n → 0 < cell p → min (n + 1) (cell p + size E w) ≤ cell (after M p w)
  follows [] p hw hp h = omega arith
  follows (a ∷ w) p hw hp h =
      let q : ℕ = target_of T p a in
      let up : min (n + 1) (cell p + weight_by mask a) ≤ cell q = omega (arith, quiet p hp a hw.0 h, further-least n (cell p) (weight_by mask a) fit) in
      omega (arith, follows w q hw.1 (v.target_inside p a hp hw.0) (omega arith))

  longest : (q : ℕ) (w : List ℕ) → Leads E M M.start q w → min (n + 1) (1 + size E w) ≤ cell q
  longest q w l =
      let f : min (n + 1) (1 + size E w) ≤ cell (after M M.start w) = omega (arith, k.begun, follows w M.start l.run v.start_inside k.begun) in
      subst (λ (x : ℕ). min (n + 1) (1 + size E w) ≤ cell x) l.ends f

  module _ (q : ℕ) (hq : q < n) where
    unreached-cell : cell q ≡ 0 → lead E M q ≡ len 0
    unreached-cell e = elim (either (reached E M q)) [
      | inl t ↦ (let r = reached_is v z q hq t in absurd (omega (arith, longest q r.by r.leads)))
      | inr f ↦ lead-unreached E M q f
    ]

    depth-cell : (c : ℕ) → cell q ≡ suc c → suc c ≤ n → lead E M q ≡ len (suc c)
    depth-cell c e h = lead-reached E M q c (reached-found v z q hq (less (omega arith) r)) (depth-one E M q (depth E M q) (len c) (depth_is v z q hq (less (omega arith) r)) is)
      where
        r : Reach E M q (min (cell q - 1) n)
        r = k.run q hq (omega arith)

        at_most : (w : List ℕ) → Leads E M M.start q w → size E w ≤ c
        at_most w l = omega (arith, longest q w l)

        is : IsDepth E M q (len c)
        is = ((r.by, r.leads, omega (arith, r.long, at_most r.by r.leads)), at_most)

    endless-cell : cell q ≡ 65535 → lead E M q ≡ endless
    endless-cell e = lead-endless E M q (pick (depth E M q) (depth_is v z q hq (less (omega arith) r)) (depth_below E M q (omega arith)))
      where
        r : Reach E M q (min (cell q - 1) n)
        r = k.run q hq (omega arith)

        pick : (x : Len) → IsDepth E M q x → Below n x → x ≡ endless
        pick (len d) h b = absurd (omega (arith, r.long, h.1 r.by r.leads))
        pick endless h b = refl

    pub cell-lead : cell q ≡ len_cell (lead E M q)
    cell-lead = elim (k.small q hq) [
      | inl h ↦ elim (dec_lt 0 (cell q)) [
        | yes g ↦ (let e : cell q ≡ suc (cell q - 1) = omega arith in e ∙ sym (ap len_cell (depth-cell (cell q - 1) e (omega arith))))
        | no g ↦ (let e : cell q ≡ 0 = omega arith in e ∙ sym (ap len_cell (unreached-cell e)))
      ]
      | inr e ↦ e ∙ sym (ap len_cell (endless-cell e))
    ]
