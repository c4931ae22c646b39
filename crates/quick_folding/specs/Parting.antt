-- The least distance of each row from the rows before it, by the sweep at offset 0, which takes all rows at level 0. Region 8 has by place the level at which
-- the row there lost its lead; 0 if it leads.
use Rattle.std.specs.Prelude.{◌≡◌, true, cond, List, ℕ, ◌+◌, ◌*◌, ◌≤◌, ◌<◌, eqb, leb, length, get_or}
use Rattle.automata.specs.Runs.{Events, Machine, Len, len, endless}
use Rattle.tables.specs.Lengths.{lead, reached}
use Rattle.tables.specs.Reduction.{order}
use Rattle.scratch.specs.Scratch.{lead_in, len_cell}
use Rattle.levels.specs.Levels.{apart}
use Rattle.levels.specs.Cells.{far_cell}
use Rattle.quick_folding.specs.Parts.{label_at, value_at, list_at}
use Rattle.quick_folding.specs.State.{Apart, Swept}

-- From cell `from` on stand the leads of the rows of M; two regions further, where a region has a cell for each row, how far the reached ones are from the rows before them.
pub record Aparts (E : Events) (M : Machine) (from : ℕ) (s : List ℕ) : Type 0 where
  pub leads : (q : ℕ) → q < M.rows → get_or s (from + q) 0 ≡ len_cell (lead E M q)
  pub aparts : (q : ℕ) → q < M.rows → reached E M q ≡ true → get_or s (from + 2 * M.rows + q) 0 ≡ len_cell (apart E M q)

-- ---- in scratch

abbrev pub noted_at : ℕ → List ℕ → ℕ → ℕ
noted_at n s c = get_or s (8 * n + c) 0

-- What is noted of place c at a level, once that has been made.
unfoldable pub loss_at : ℕ → ℕ → List ℕ → ℕ → ℕ
loss_at n level s c = cond (eqb (noted_at n s c) 0) (cond (eqb (value_at n s (list_at n s c)) c) 0 level) (noted_at n s c)

-- The least distance of row q: 0 where it has folded. 0 where it has no lead.
unfoldable pub apart_at : ℕ → List ℕ → ℕ → ℕ
apart_at n s q = cond (eqb (lead_in s q) 0) 0 (cond (eqb (list_at n s (label_at n s q)) q) (far_cell (noted_at n s (label_at n s q))) 0)

-- ---- what it means

-- A length of no more than L; 0 for a longer one.
abbrev pub up_to : ℕ → Len → ℕ
up_to L (len a) = cond (leb a L) a 0
up_to L endless = 0

-- Room for the notes of u places, at each of which is a row.
pub record Noting (n u level : ℕ) (s : List ℕ) : Type 0 where
  pub few : n ≤ 1024
  pub room : 12 * n ≤ length s
  pub low : level ≤ n
  pub places : u ≤ n
  pub rows : (c : ℕ) → c < u → list_at n s c < n

module _ (E : Events) (M : Machine) where
  -- All rows have been taken, u of them are kept, level L has been made of them, and for each place the loss up to there is noted.
  pub record Parted (L u : ℕ) (s : List ℕ) : Type 0 where
    pub swept : Swept E M 0 L (length (order E M)) u s
    pub noted : (c : ℕ) → c < u → noted_at M.rows s c ≡ up_to L (apart E M (list_at M.rows s c))

  -- All losses are noted.
  pub record Measured (s t : List ℕ) : Type 0 where
    pub beside : Apart M.rows s t
    pub inside : (q : ℕ) → q < M.rows → reached E M q ≡ true → label_at M.rows t q < M.rows
    pub cells : (q : ℕ) → q < M.rows → reached E M q ≡ true → apart_at M.rows t q ≡ len_cell (apart E M q)
