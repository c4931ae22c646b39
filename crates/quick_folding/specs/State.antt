-- The invariant of the sweep over the levels, for events E, the machine M of a stored table, and offset k.
use Rattle.std.specs.Prelude.{◌≡◌, Bool, true, List, ℕ, suc, ◌-◌, ◌*◌, ◌≤◌, ◌<◌, length, get_or}
use Rattle.automata.specs.Runs.{Events, Machine}
use Rattle.tables.specs.Lengths.{lead, reached}
use Rattle.tables.specs.Table.{Table, offset}
use Rattle.tables.specs.Reduction.{order, fold}
use Rattle.scratch.specs.Scratch.{lead_in, len_cell, few_cells, workable_in}
use Rattle.leaders.specs.Leaders.{Known}
use Rattle.levels.specs.Levels.{row_at}
use Rattle.levels.specs.Sweep.{Placed, Rests, kept_to, Border, Led, Labelled}
use Rattle.quick_folding.specs.Parts.{label_at, value_at, list_at}

-- A table that can be worked on in the cells lent, and an offset that the code can count.
pub record Fits (T : Table) (k : ℕ) (s : List ℕ) : Type 0 where
  pub workable : workable_in few_cells T (length s) ≡ true
  pub offset : k ≤ 65535

-- Every idle event stays on every reached row.
pub record Stays (E : Events) (M : Machine) : Type 0 where
  pub stays : (q a : ℕ) → q < M.rows → reached E M q ≡ true → a < E.count → E.weight a ≡ 0 → M.target q a ≡ q

-- Of the u kept rows the `known` first are in the table of leaders, but for those of which an event leads to a row whose value changed at level `last`.
pub record Tabled (mask : ℕ) (T : Table) (u known last : ℕ) (s : List ℕ) : Type 0 where
  pub few : known ≤ u
  pub past : Known mask T.rows T.events known last T.cells s

-- Behind the leads and before the spare cells anything may have changed.
pub record Apart (n : ℕ) (s t : List ℕ) : Type 0 where
  pub size : length t ≡ length s
  pub leads : (k : ℕ) → k < n → get_or t k 0 ≡ get_or s k 0
  pub behind : (k : ℕ) → 12 * n ≤ k → get_or t k 0 ≡ get_or s k 0

module _ (E : Events) (M : Machine) where
  -- What stands in front: the leads, and the order from place i on.
  pub record Laid (i : ℕ) (s : List ℕ) : Type 0 where
    pub leads : (q : ℕ) → q < M.rows → lead_in s q ≡ len_cell (lead E M q)
    pub order_from : (x : ℕ) → i ≤ x → x < length (order E M) → list_at M.rows s x ≡ row_at E M x

  module _ (k : ℕ) where
    -- The first i rows of the order have been taken: u of them are kept, and stand in front of the list.
    pub record Gone (i u : ℕ) (s : List ℕ) : Type 0 where
      pub laid : Laid i s
      pub many : u ≡ length (kept_to E M k i)
      pub listed : (c : ℕ) → c < u → list_at M.rows s c ≡ get_or (kept_to E M k i) c 0
      pub low : (q : ℕ) → q < M.rows → value_at M.rows s q ≤ u - 1
      pub labelled : Labelled E M k i (label_at M.rows s)

    -- Level L has been made of them.
    pub record Swept (L i u : ℕ) (s : List ℕ) : Type 0 where
      pub gone : Gone i u s
      pub border : Border E M k L i
      pub led : Led E M k L i (value_at M.rows s)

    -- Level L is about to be made, with the rows from place i up to j.
    pub record Before (L i j u : ℕ) (s : List ℕ) : Type 0 where
      pub gone : Gone i u s
      pub to : i ≤ j
      pub border : Border E M k L j
      pub first : L ≡ 0 → i ≡ 0
      pub last : (K : ℕ) → L ≡ suc K → Border E M k K i
      pub led : Led E M k (L - 1) i (value_at M.rows s)

    -- It has been made. Above level 0 region 8 is as it was.
    pub record After (L j : ℕ) (s t : List ℕ) (u : ℕ) (rest : Bool) : Type 0 where
      pub apart : Apart M.rows s t
      pub noted : 0 < L → (x : ℕ) → 8 * M.rows ≤ x → x < 9 * M.rows → get_or t x 0 ≡ get_or s x 0
      pub swept : Swept L j u t
      pub rests : rest ≡ true → 0 < L → Rests E M (Placed E M j) L

    -- Between two levels.
    pub record Going (L i u : ℕ) (rest : Bool) (s : List ℕ) : Type 0 where
      pub swept : Swept L i u s
      pub rests : rest ≡ true → Rests E M (Placed E M i) L

    -- All rows have been taken: each has the place of the row into which it folds for its label.
    pub record Folded (s t : List ℕ) : Type 0 where
      pub apart : Apart M.rows s t
      pub inside : (q : ℕ) → q < M.rows → reached E M q ≡ true → label_at M.rows t q < M.rows
      pub folds : (q : ℕ) → q < M.rows → reached E M q ≡ true → list_at M.rows t (label_at M.rows t q) ≡ fold E M (offset k) q
