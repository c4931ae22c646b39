-- A buffer into which parts are written one behind the other: what is still to come, written over it, gives what it is to hold.
use mathlib.Core.Path.{◌≡◌, refl, sym, ap, ◌∙◌}
use mathlib.Core.List.{List, [], ◌++◌}
use Prim.Native.Nat.{ℕ, ◌+◌, ◌≤◌}
use native.Mathlib.Omega.{arith}
use lib.ListN.{length, length-append}
use Rattle.tables.specs.Lists.{over}
use Rattle.tables.proofs.Over.{over_none, over-over, over-length}

-- d₀ before, d now, written up to a place; `rest` is to come, and all of it is to stand in front.
pub record Filling (d₀ d : List ℕ) (at : ℕ) (rest all : List ℕ) : Type 0 where
  pub final : over d at rest ≡ over d₀ 0 all
  pub kept : length d ≡ length d₀
  pub room : at + length rest ≤ length d

pub filling_begin : (d₀ all : List ℕ) → length all ≤ length d₀ → Filling d₀ d₀ 0 all all
filling_begin d₀ all h = record { final = refl; kept = refl; room = omega arith }

module _ {d₀ d : List ℕ} {at : ℕ} {rest all : List ℕ} (f : Filling d₀ d at rest all) where
  -- There is room for the next part, and it is written.
  module _ (x more : List ℕ) (e : rest ≡ x ++ more) where
    pub filling-room : at + length x + length more ≤ length d
    filling-room = omega (arith, f.room, ap length e, length-append x more)

    pub filling-next : (d' : List ℕ) (at' : ℕ) → d' ≡ over d at x → at' ≡ at + length x → Filling d₀ d' at' more all
    filling-next d' at' h g =
        let n : length d' ≡ length d = ap length h ∙ over-length d at x (omega (arith, filling-room)) in
        record {
          final = rw (h, g) (over-over d at x (omega (arith, filling-room)) more ∙ ap (over d at) (sym e) ∙ f.final);
          kept = n ∙ f.kept;
          room = omega (arith, n, g, filling-room);
        }

  pub filling_end : rest ≡ [] → d ≡ over d₀ 0 all
  filling_end e = sym (ap (over d at) e ∙ over_none d at) ∙ f.final
