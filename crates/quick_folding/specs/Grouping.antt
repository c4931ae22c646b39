-- The classes of a level: by the table of leaders or by splits, and what is known of that table afterwards.
use Rattle.std.specs.Prelude.{◌≡◌, Bool, true, false, List, ℕ, ◌≤◌, ◌<◌}
use Rattle.classes.specs.Values.{values_by}
use Rattle.classes.specs.Steps as Classes
use Rattle.leaders.specs.Leaders.{Kept, Joins}

-- How the classes came about; r is how many places below u lead no more, if that is known.
pub data Grouped (plain top : Bool) (mask n m u to : ℕ) (cells marks s t : List ℕ) (r : ℕ) : Type 0 where
  joined : plain ≡ true → r ≤ 1024 → Kept n s t → Joins mask n m u to cells s t r → Grouped plain top mask n m u to cells marks s t r
  split : 1024 < r → Classes.Settled n (values_by top mask n m to cells marks s) s t → Grouped plain top mask n m u to cells marks s t r

-- The u places kept before the level are in the table if that was used; `last` is the level if values changed at it, and else above all levels.
pub data Tells (u level : ℕ) (rest : Bool) (lost known last : ℕ) : Type 0 where
  empty : 1024 < lost → known ≡ 0 → Tells u level rest lost known last
  calm : lost ≤ 1024 → rest ≡ true → known ≡ u → last ≡ 65536 → Tells u level rest lost known last
  moved : lost ≤ 1024 → rest ≡ false → known ≡ u → last ≡ level → Tells u level rest lost known last
