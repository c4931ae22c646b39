-- A sum of f rows events over the tables of a list, on top of k, gone through from a place on.
use mathlib.Core.Path.{◌≡◌}
use mathlib.Core.List.{List}
use Prim.Native.Nat.{ℕ, ◌+◌, ◌*◌, ◌^◌, ◌≤◌, ◌<◌}
use native.Mathlib.Nat.{mul-le-mul}
use native.Mathlib.Omega.{arith}
use lib.ListN.{length, get_or, drop}
use Rattle.tables.specs.Table.{mark_byte_count}
use Rattle.images.specs.Image.{length_of_image}
use Rattle.images.specs.declared.Form.TheVariants.{Radio}
use Rattle.packs.specs.Pack.{total}
use Rattle.packs.proofs.Threes.{total-next, total-none, total_most}

-- f of two numbers of 16 bits is small.
abbrev pub Small : (ℕ → ℕ → ℕ) → Type 0
Small f = (rows events : ℕ) → rows ≤ 65535 → events ≤ 65535 → f rows events ≤ 2 ^ 33

pub cells_small : Small (λ rows events. rows * events)
cells_small rows events hr he = omega (arith, mul-le-mul hr he)

pub marks_small : Small (λ rows events. mark_byte_count rows)
marks_small rows events hr he = omega arith

pub image-small : Small (length_of_image Radio)
image-small rows events hr he = omega (arith, mul-le-mul hr he)

-- s is the sum of the tables before the place.
pub record Summed (f : ℕ → ℕ → ℕ) (k : ℕ) (list : List ℕ) (at s : ℕ) : Type 0 where
  pub sum : s + total f (drop at list) ≡ k + total f list

module _ {f : ℕ → ℕ → ℕ} {k : ℕ} {list : List ℕ} {at s : ℕ} (e : Summed f k list at s) where
  -- One table more.
  module _ (h : at + 3 ≤ length list) (x : ℕ) (here : x ≡ f (get_or list at 0) (get_or list (at + 1) 0)) where
    pub sum-next : Summed f k list (at + 3) (s + x)
    sum-next = record { sum = omega (arith, total-next list at f h) }

    pub sum_fits : Small f → k ≤ 2 → length list ≤ 50 → ((i : ℕ) → get_or list i 0 ≤ 65535) → s + x < 2 ^ 64
    sum_fits small few short narrow = omega (arith, total-next list at f h, total_most f (2 ^ 33) small list narrow)

  -- No table more.
  pub sum_none : length list < at + 3 → at ≤ length list → s ≡ k + total f list
  sum_none h begun = omega (arith, total-none list at h begun f)
