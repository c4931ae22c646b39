-- What is known of the rows at hand when the classes of a level are sought, and by which splits they come about.
use Rattle.std.specs.Prelude.{◌≡◌, Bool, true, false, cond, List, ℕ, ◌+◌, ◌*◌, ◌≤◌, ◌<◌, eqb, length, get_or}
use Rattle.tables.specs.Table.{mark_of}
use Rattle.tables.specs.Table.{weight_by}
use Rattle.splitting.specs.Places.{front}

-- The rows at hand stand at the places below `count`. At the top level marks count, and every event is an inner one;
-- at others a counted event is outer: the place to which it leads is of a class that is known.
pub record Values : Type 0 where
  pub count : ℕ
  pub events : ℕ
  pub top : Bool
  pub outer : ℕ → Bool
  pub row : ℕ → ℕ
  -- Of a row: its mark, its target at an event, and the place that stands for that target.
  pub mark : ℕ → ℕ
  pub target : ℕ → ℕ → ℕ
  pub to : ℕ → ℕ → ℕ

-- In a stored table, and in the cells b in front: the row at a place; of a row, its target at an event, and the place that stands for that target.
abbrev pub row_in : ℕ → List ℕ → ℕ → ℕ
row_in n b i = get_or b (3 * n + i) 0

abbrev pub target_in : ℕ → List ℕ → ℕ → ℕ → ℕ
target_in m cells q a = get_or cells (q * m + a) 0

abbrev pub place_in : ℕ → ℕ → List ℕ → List ℕ → ℕ → ℕ → ℕ
place_in n m cells b q a = get_or b (2 * n + target_in m cells q a) 0

-- The place to which an event leads from a place.
abbrev pub lead_to : ℕ → ℕ → List ℕ → List ℕ → ℕ → ℕ → ℕ
lead_to n m cells b a i = place_in n m cells b (row_in n b i) a

abbrev pub outer_by : Bool → ℕ → ℕ → Bool
outer_by top mask a = cond top false (eqb (weight_by mask a) 1)

-- What those cells say.
abbrev pub values_on : Bool → ℕ → ℕ → ℕ → ℕ → List ℕ → List ℕ → List ℕ → Values
values_on top mask n m count cells marks b =
    record {
      count = count;
      events = m;
      top = top;
      outer = outer_by top mask;
      row = row_in n b;
      mark = mark_of marks;
      target = target_in m cells;
      to = place_in n m cells b;
    }

abbrev pub values_by : Bool → ℕ → ℕ → ℕ → ℕ → List ℕ → List ℕ → List ℕ → Values
values_by top mask n m count cells marks s = values_on top mask n m count cells marks (front n s)

-- What an event says of a row, where f is the leader of each place.
abbrev pub value : Values → (ℕ → ℕ) → ℕ → ℕ → ℕ
value W f q a = cond (W.outer a) (W.to q a) (f (W.to q a))

-- No event, and at the top level no mark, tells two rows apart.
pub record Alike (W : Values) (f : ℕ → ℕ) (q p : ℕ) : Type 0 where
  pub marks : W.top ≡ true → W.mark q ≡ W.mark p
  pub values : (a : ℕ) → a < W.events → value W f q a ≡ value W f p a

-- Every place is like its leader.
abbrev pub Stable : Values → (ℕ → ℕ) → Type 0
Stable W f = (i : ℕ) → i < W.count → Alike W f (W.row i) (W.row (f i))

-- Jumps from place to place: by an inner event, and by one jump after another.
pub data Jump (W : Values) : (ℕ → ℕ) → Type 0 where
  event : (g : ℕ → ℕ) (a : ℕ) → a < W.events → W.outer a ≡ false → ((i : ℕ) → i < W.count → g i ≡ W.to (W.row i) a) → Jump W g
  twice : (g h : ℕ → ℕ) → Jump W h → ((i : ℕ) → i < W.count → h i < W.count) → ((i : ℕ) → i < W.count → g i ≡ h (h i)) → Jump W g

-- g keeps together what f has together and the keys do not tell apart.
abbrev pub SplitBy : Values → (ℕ → ℕ) → (ℕ → ℕ) → (ℕ → ℕ) → Type 0
SplitBy W key f g = (i j : ℕ) → i < W.count → j < W.count → f i ≡ f j → key i ≡ key j → g i ≡ g j

-- Leaders that came about from one class by splits: by marks, by outer events, by jumps.
pub data Made (W : Values) : (ℕ → ℕ) → Type 0 where
  one : (g : ℕ → ℕ) → ((i j : ℕ) → i < W.count → j < W.count → g i ≡ g j) → Made W g
  by_mark : (f g : ℕ → ℕ) → Made W f → W.top ≡ true → SplitBy W (λ i. W.mark (W.row i)) f g → Made W g
  by_outer : (f g : ℕ → ℕ) (a : ℕ) → Made W f → a < W.events → W.outer a ≡ true → SplitBy W (λ i. W.to (W.row i) a) f g → Made W g
  by_jump : (f g h : ℕ → ℕ) → Made W f → Jump W h → ((i : ℕ) → i < W.count → h i < W.count) → SplitBy W (λ i. f (h i)) f g → Made W g

-- The numbers of rows, events and places, and the lent cells, fit together.
pub record Sizes (n m count : ℕ) (cells s : List ℕ) : Type 0 where
  pub few : n ≤ 1024
  pub room : 12 * n ≤ length s
  pub inside : count ≤ n
  pub events : m ≤ 32
  pub all_cells : n * m ≤ length cells

-- Row q and its targets are rows, and what stands for the targets are places at hand.
pub record Within (n m count : ℕ) (target to : ℕ → ℕ → ℕ) (q : ℕ) : Type 0 where
  pub row : q < n
  pub targets : (a : ℕ) → a < m → target q a < n
  pub places : (a : ℕ) → a < m → to q a < count

-- The same in a stored table and the cells in front.
abbrev pub Reads : ℕ → ℕ → ℕ → List ℕ → List ℕ → ℕ → Type 0
Reads n m count cells s = Within n m count (target_in m cells) (place_in n m cells (front n s))

-- What the search for the classes of a level needs.
pub record Given (n : ℕ) (W : Values) (cells s : List ℕ) : Type 0 where
  pub sizes : Sizes n W.events W.count cells s
  pub within : (i : ℕ) → i < W.count → Within n W.events W.count W.target W.to (W.row i)
