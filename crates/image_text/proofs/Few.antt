-- How many targets an image has, where the checks of their count find nothing.
use mathlib.Core.Path.{◌≡◌}
use mathlib.Core.Bool.{not}
use Prim.Native.Nat.{ℕ, ◌*◌, ◌/◌, ◌%◌, ◌≤◌}
use native.Mathlib.Nat.{div-add-mod, mul-le-mul}
use native.Mathlib.Omega.{arith}
use borrow.Author.Tests.{eqb-true, not-false}
use lib.Dec.{eqb}
use Rattle.rules.specs.Rules.{sound, rule, winch, outside, events_rule}
use Rattle.rules.specs.declared.Rule.TheVariants.{Count, Events}
use Rattle.rules.proofs.Checks.{unbroken, inside}

module _ (rows count : ℕ) (even : rule Count (not (eqb (count % rows) 0)) 0 ≡ sound) where
  -- The rows have equally many,
  pub whole-rows : rows * (count / rows) ≡ count
  whole-rows = omega (arith, div-add-mod count rows, eqb-true (count % rows) 0 (not-false (eqb (count % rows) 0) (unbroken Count (not (eqb (count % rows) 0)) 0 even)))

  module _ (sound : events_rule winch (count / rows) ≡ sound) where
    -- at most 32,
    pub few_events : count / rows ≤ 32
    few_events = ((inside 32 (count / rows)).0 (unbroken Events (outside 32 (count / rows)) 0 sound)).1

    -- and so at most 4,096 in 128 rows.
    pub few-targets : rows ≤ 128 → count ≤ 4096
    few-targets few = omega (arith, whole-rows, mul-le-mul few few_events)
