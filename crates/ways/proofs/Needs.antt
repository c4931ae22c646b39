-- Each way's figure has room for what numbering needs.
use Prim.Native.Nat.{ℕ, ◌*◌, ◌≤◌}
use native.Mathlib.Omega.{arith}
use Rattle.pairs.proofs.Triangle.{needed-value}
use Rattle.ways.specs.Ways.{need_of}
use Rattle.ways.specs.declared.Way.{Way}
use Rattle.ways.specs.declared.Way.TheVariants.{First, Second}

-- Each way has room for four regions.
pub four_regions : (way : Way) (n : ℕ) → 4 * n ≤ need_of way n
four_regions First n = omega (arith, needed-value n)
four_regions Second n = omega arith
