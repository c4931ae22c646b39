-- What the parts of a level leave in the first four regions of the lent scratch, n cells each: by row its lead, its label (the place of the row into which
-- it folds) and its value (the place of its leader), then by place the listed rows.
use Rattle.std.specs.Prelude.{◌≡◌, Bool, true, false, cond, List, ◌⊎◌, ℕ, zero, suc, ◌+◌, ◌-◌, ◌*◌, ◌≤◌, ◌<◌, eqb, ltb, length, get_or, set}
use Rattle.tables.specs.Table.{weight_by}
use Rattle.levels.specs.Cells.{need_cell}
use Rattle.scratch.specs.Scratch.{lead_in}
use Rattle.splitting.specs.Places.{nxt_at, jump_at}

abbrev pub label_at : ℕ → List ℕ → ℕ → ℕ
label_at n s q = get_or s (n + q) 0

abbrev pub value_at : ℕ → List ℕ → ℕ → ℕ
value_at n s q = get_or s (2 * n + q) 0

abbrev pub list_at : ℕ → List ℕ → ℕ → ℕ
list_at n s i = get_or s (3 * n + i) 0

-- The level at which a row's value changed last.
abbrev pub stamp_at : ℕ → List ℕ → ℕ → ℕ
stamp_at n s q = get_or s (5 * n + q) 0

-- The row at the label of row q; 0 where it has no lead.
unfoldable pub fold_at : ℕ → List ℕ → ℕ → ℕ
fold_at n s q = cond (eqb (lead_in s q) 0) 0 (list_at n s (label_at n s q))

-- ---- rows that come in

-- Of the rows listed from place `from` on, `count` in number: each is a row, and none stands there twice.
pub record Rows (n from count : ℕ) (s : List ℕ) : Type 0 where
  pub inside : (x : ℕ) → x < count → list_at n s (from + x) < n
  pub once : (x y : ℕ) → x < count → y < count → list_at n s (from + x) ≡ list_at n s (from + y) → x ≡ y

-- Room to move `count` rows down from place i to place u.
pub record Appendable (n u i count : ℕ) (s : List ℕ) : Type 0 where
  pub few : n ≤ 1024
  pub room : 4 * n ≤ length s
  pub down : u ≤ i
  pub fits : i + count ≤ n
  pub rows : Rows n i count s

-- They have been moved, and each has its own place for its value.
pub record Appended (n u i count : ℕ) (s t : List ℕ) : Type 0 where
  pub size : length t ≡ length s
  pub listed : (x : ℕ) → x < count → list_at n t (u + x) ≡ list_at n s (i + x)
  pub valued : (x : ℕ) → x < count → value_at n t (list_at n s (i + x)) ≡ u + x
  pub others : (q : ℕ) → q < n → ((x : ℕ) → x < count → list_at n s (i + x) ≡ q → ⊥) → value_at n t q ≡ value_at n s q
  pub front : (k : ℕ) → k < 2 * n → get_or t k 0 ≡ get_or s k 0
  pub olds : (c : ℕ) → c < u → list_at n t c ≡ list_at n s c
  pub behind : (k : ℕ) → 3 * n + (u + count) ≤ k → get_or t k 0 ≡ get_or s k 0

-- ---- values

-- From cell `at` on stand `count` values of f, and nothing else has changed.
pub record Wrote (at count : ℕ) (f : ℕ → ℕ) (s t : List ℕ) : Type 0 where
  pub size : length t ≡ length s
  pub here : (q : ℕ) → q < count → get_or t (at + q) 0 ≡ f q
  pub below : (k : ℕ) → k < at → get_or t k 0 ≡ get_or s k 0
  pub above : (k : ℕ) → at + count ≤ k → get_or t k 0 ≡ get_or s k 0

-- The values of the rows below `count` are those of f.
abbrev pub Valued : ℕ → ℕ → (ℕ → ℕ) → List ℕ → List ℕ → Type 0
Valued n = Wrote (2 * n)

-- The leader of every place below u is the value of its row.
abbrev pub Still : ℕ → ℕ → List ℕ → Type 0
Still n u s = (c : ℕ) → c < u → nxt_at n s c ≡ value_at n s (list_at n s c)

-- Place c led at the level before: it is one of the first u, and the value of its own row.
pub record Leading (n u : ℕ) (s : List ℕ) (c : ℕ) : Type 0 where
  pub place : c < u
  pub own : value_at n s (list_at n s c) ≡ c

-- Room for the leaders of places, and values that are places. `lost` places below u have lost their lead, if that is known: if the number is at most 1,024; then they are listed in region 7.
pub record Renewable (n u level lost : ℕ) (s : List ℕ) : Type 0 where
  pub few : n ≤ 1024
  pub room : 12 * n ≤ length s
  pub values : (q : ℕ) → q < n → value_at n s q < n
  pub fits : u ≤ n
  pub rows : (c : ℕ) → c < u → list_at n s c < n
  pub low : level ≤ 65535
  pub many : lost ≤ 1024 → lost ≤ n
  pub losers : lost ≤ 1024 → (x : ℕ) → x < lost → Leading n u s (jump_at n s x)
  pub lower : lost ≤ 1024 → (x : ℕ) → x < lost → nxt_at n s (jump_at n s x) < n
  pub leads : lost ≤ 1024 → (x : ℕ) → x < lost → nxt_at n s (nxt_at n s (jump_at n s x)) ≡ nxt_at n s (jump_at n s x)
  pub listed : lost ≤ 1024 → (c : ℕ) → Leading n u s c → (nxt_at n s c ≡ c → ⊥) → (x : ℕ) × (x < lost) × (jump_at n s x ≡ c)

-- The value of row q has become its leader, and the level is noted where that is another.
pub data Relabelled (n level q : ℕ) (s t : List ℕ) : Type 0 where
  stayed : nxt_at n s (value_at n s q) ≡ value_at n s q → t ≡ s → Relabelled n level q s t
  changed : t ≡ set (set s (2 * n + q) (nxt_at n s (value_at n s q))) (5 * n + q) level → Relabelled n level q s t

-- The same of all rows below `count`.
pub record Relabelling (n level count : ℕ) (s t : List ℕ) : Type 0 where
  pub size : length t ≡ length s
  pub below : (k : ℕ) → k < 2 * n → get_or t k 0 ≡ get_or s k 0
  pub between : (k : ℕ) → 2 * n + count ≤ k → k < 5 * n → get_or t k 0 ≡ get_or s k 0
  pub above : (k : ℕ) → 6 * n ≤ k → get_or t k 0 ≡ get_or s k 0
  pub here : (q : ℕ) → q < count → value_at n t q ≡ nxt_at n s (value_at n s q)
  pub noted : (q : ℕ) → q < count → (value_at n t q ≡ value_at n s q) ⊎ (stamp_at n t q ≡ level)

-- The same of the rows that the first x places on the list led: no other row had such a value.
pub record Losing (n level x : ℕ) (s t : List ℕ) : Type 0 where
  pub size : length t ≡ length s
  pub below : (k : ℕ) → k < 2 * n → get_or t k 0 ≡ get_or s k 0
  pub between : (k : ℕ) → 3 * n ≤ k → k < 5 * n → get_or t k 0 ≡ get_or s k 0
  pub above : (k : ℕ) → 6 * n ≤ k → get_or t k 0 ≡ get_or s k 0
  pub gone : (q y : ℕ) → q < n → y < x → value_at n s q ≡ jump_at n s y → value_at n t q ≡ nxt_at n s (value_at n s q)
  pub any : (q : ℕ) → q < n → (value_at n t q ≡ value_at n s q) ⊎ ((value_at n t q ≡ nxt_at n s (value_at n s q)) × (stamp_at n t q ≡ level))

-- No two rows have the value of one of the `lost` places on the list.
abbrev pub Alone : ℕ → ℕ → List ℕ → Type 0
Alone n lost s = (x q p : ℕ) → x < lost → q < n → p < n → value_at n s q ≡ jump_at n s x → value_at n s p ≡ jump_at n s x → q ≡ p

-- Each value that is a place that led has become its leader, and the level is noted where that is another.
pub record Passed (n u level : ℕ) (s t : List ℕ) : Type 0 where
  pub size : length t ≡ length s
  pub below : (k : ℕ) → k < 2 * n → get_or t k 0 ≡ get_or s k 0
  pub between : (k : ℕ) → 3 * n ≤ k → k < 5 * n → get_or t k 0 ≡ get_or s k 0
  pub above : (k : ℕ) → 6 * n ≤ k → get_or t k 0 ≡ get_or s k 0
  pub here : (q : ℕ) → q < n → Leading n u s (value_at n s q) → value_at n t q ≡ nxt_at n s (value_at n s q)
  pub any : (q : ℕ) → q < n → (value_at n t q ≡ value_at n s q) ⊎ (value_at n t q ≡ nxt_at n s (value_at n s q))
  pub noted : (q : ℕ) → q < n → (value_at n t q ≡ value_at n s q) ⊎ (stamp_at n t q ≡ level)

-- Unless all is still, each value has become its leader.
pub data Renewed (n u level lost : ℕ) (s t : List ℕ) (r : Bool) : Type 0 where
  still : (lost ≡ 0) ⊎ Still n u s → t ≡ s → r ≡ true → Renewed n u level lost s t r
  passed : 0 < u → Passed n u level s t → r ≡ false → Renewed n u level lost s t r

-- The label of each row that has a lead is a place.
pub record Labels (n : ℕ) (s : List ℕ) : Type 0 where
  pub few : n ≤ 1024
  pub room : 12 * n ≤ length s
  pub inside : (q : ℕ) → q < n → (lead_in s q ≡ 0 → ⊥) → label_at n s q < n

-- ---- new rows that are kept or fold

-- The place behind the rows that are kept among the old ones and the first d new ones, where f gives the leader of each place.
unfoldable pub seats : (ℕ → ℕ) → ℕ → ℕ → ℕ
seats f u zero = u
seats f u (suc d) = seats f u d + cond (eqb (f (u + d)) (u + d)) 1 0

-- The place, among the kept ones, of the leader of place c.
abbrev pub seat_of : (ℕ → ℕ) → ℕ → ℕ → ℕ
seat_of f u c = cond (ltb (f c) u) (f c) (seats f u (f c - u))

-- A place, no earlier than the `count` that are kept, and its leader.
pub record Seating (n u i count : ℕ) (s : List ℕ) : Type 0 where
  pub few : n ≤ 1024
  pub room : 8 * n ≤ length s
  pub place : i < n
  pub down : count ≤ i
  pub leader : nxt_at n s i ≤ i

-- What becomes of the row at place i.
pub data Seated (n u i count : ℕ) (s t : List ℕ) (r : ℕ) : Type 0 where
  -- It leads, so it moves down behind the kept ones.
  leading : nxt_at n s i ≡ i → t ≡ set (set s (7 * n + i) count) (3 * n + count) (list_at n s i) → r ≡ count → Seated n u i count s t r
  -- It follows an old place,
  following : (nxt_at n s i ≡ i → ⊥) → nxt_at n s i < u → t ≡ s → r ≡ nxt_at n s i → Seated n u i count s t r
  -- or a new one, whose row has moved down.
  joining : (nxt_at n s i ≡ i → ⊥) → u ≤ nxt_at n s i → t ≡ s → r ≡ jump_at n s (nxt_at n s i) → Seated n u i count s t r

-- No place below `to` has a later leader, and the leaders of those from u on lead.
pub record Follows (u to : ℕ) (f : ℕ → ℕ) : Type 0 where
  pub down : (c : ℕ) → c < to → f c ≤ c
  pub leads : (c : ℕ) → u ≤ c → c < to → f (f c) ≡ f c

-- New rows at the places from u on, and the leader of each place.
pub record Takable (n u more : ℕ) (s : List ℕ) : Type 0 where
  pub few : n ≤ 1024
  pub room : 8 * n ≤ length s
  pub fits : u + more ≤ n
  pub follows : Follows u (u + more) (nxt_at n s)
  pub rows : Rows n u more s

-- The first d of them have been taken: those that lead are kept and moved down, and each has the place of its leader for label and value.
pub record Taken (n u d count : ℕ) (s t : List ℕ) : Type 0 where
  pub size : length t ≡ length s
  pub many : count ≡ seats (nxt_at n s) u d
  pub seated : (x : ℕ) → x < d → nxt_at n s (u + x) ≡ u + x → jump_at n t (u + x) ≡ seats (nxt_at n s) u x
  pub listed : (x : ℕ) → x < d → nxt_at n s (u + x) ≡ u + x → list_at n t (seats (nxt_at n s) u x) ≡ list_at n s (u + x)
  pub olds : (c : ℕ) → c < u → list_at n t c ≡ list_at n s c
  pub later : (k : ℕ) → 3 * n + (u + d) ≤ k → k < 7 * n → get_or t k 0 ≡ get_or s k 0
  pub leads : (k : ℕ) → k < n → get_or t k 0 ≡ get_or s k 0
  pub behind : (k : ℕ) → 8 * n ≤ k → get_or t k 0 ≡ get_or s k 0
  pub labels : (x : ℕ) → x < d → label_at n t (list_at n s (u + x)) ≡ seat_of (nxt_at n s) u (u + x)
  pub values : (x : ℕ) → x < d → value_at n t (list_at n s (u + x)) ≡ seat_of (nxt_at n s) u (u + x)
  pub other_labels : (q : ℕ) → q < n → ((x : ℕ) → x < d → list_at n s (u + x) ≡ q → ⊥) → label_at n t q ≡ label_at n s q
  pub other_values : (q : ℕ) → q < n → ((x : ℕ) → x < d → list_at n s (u + x) ≡ q → ⊥) → value_at n t q ≡ value_at n s q

-- ---- the rows of a level

-- The rows listed from place i up to `count` are rows.
pub record Searching (n k i count : ℕ) (s : List ℕ) : Type 0 where
  pub room : 4 * n ≤ length s
  pub offset : k ≤ 65535
  pub from : i ≤ count
  pub until : count ≤ n
  pub rows : (x : ℕ) → i ≤ x → x < count → list_at n s x < n

-- r is the first place from i on whose row needs more than the level; `count` if there is none.
pub record Until (n k i count level : ℕ) (s : List ℕ) (r : ℕ) : Type 0 where
  pub from : i ≤ r
  pub within : r ≤ count
  pub low : (x : ℕ) → i ≤ x → x < r → need_cell k (lead_in s (list_at n s x)) ≤ level
  pub high : r < count → level < need_cell k (lead_in s (list_at n s r))

-- There is a row at place i, and a level above this one.
pub record Onward (n k i level : ℕ) (s : List ℕ) : Type 0 where
  pub room : 4 * n ≤ length s
  pub offset : k ≤ 65535
  pub place : i < n
  pub row : list_at n s i < n
  pub level_fits : level < 65535

-- ---- idle events

-- Room for the leads of n rows, and for m targets of each.
pub record Staying (n m : ℕ) (cells s : List ℕ) : Type 0 where
  pub few : n ≤ 1024
  pub events : m ≤ 32
  pub leads : n ≤ length s
  pub all_cells : n * m ≤ length cells

-- Event a counts, or stays on every row that has a lead.
abbrev pub StaysAt : ℕ → ℕ → ℕ → List ℕ → List ℕ → ℕ → Type 0
StaysAt mask n m cells s a = (weight_by mask a ≡ 1 → ⊥) → (q : ℕ) → q < n → (lead_in s q ≡ 0 → ⊥) → get_or cells (q * m + a) 0 ≡ q
