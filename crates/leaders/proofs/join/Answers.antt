use Rattle.std.proofs.Common.{rules}
use Prim.Native.Nat.{ℕ, ◌≤◌}
use native.Mathlib.Omega.{arith}
use Rattle.std.specs.Prelude.{IfSome}
use Rattle.std.specs.Option.{unwrap_or}
use Rattle.std.specs.declared.option.Option.{Option}
use Rattle.std.specs.declared.option.Option.TheVariants.{Some, None}
use Rattle.leaders.proofs.Regions.{kept_then}
use Rattle.leaders.proofs.Signatures.{hand_still}
use Rattle.leaders.proofs.Begin.{begin, end, calm_above}
use Rattle.leaders.proofs.join.Goals as goal
use Rattle.leaders.proofs.join.Goals.{then-last-gt65535, else-last-gt65535}

-- An answer of no more than 1,024 is one that was found.
found : (P : ℕ → Type 0) (r : Option ℕ) → IfSome r P → unwrap_or r 1025 ≤ 1024 → P (unwrap_or r 1025)
found P (Some x) p h = p
found P None p h = absurd (omega arith)

pub returns : goal.returns
returns c = let a = c.args in
    let d = c.seed.ensures in
    let e = c.step_all.ensures in
    let u = c.unwrap_or.ensures in (
      kept_then d.kept e.0,
      λ z f b h.
          let g = found _ c.step_all.result e.1 (omega (arith, u)) in
          rw u (end a.mask a.n a.m a.u a.to a.known a.last a.cells.now z f b d g.0 (g.1 (hand_still b.hand d.kept z.inside)
          (begin a.mask a.n a.m a.u a.to a.known a.last a.cells.now z f b d c.if-last-gt65535.from
          (elim (c.if-last-gt65535.branch) [ then-last-gt65535 w ↦ omega arith | else-last-gt65535 w ↦ omega arith ])
          (λ x l. elim (c.if-last-gt65535.branch) [
            | then-last-gt65535 w ↦ calm_above a.n a.m a.last a.known a.cells.now c.seed.new.scratch w.if-last-gt65535.true (λ y. search rules) x (omega arith)
            | else-last-gt65535 w ↦ absurd (omega arith)
          ])))),
    )
