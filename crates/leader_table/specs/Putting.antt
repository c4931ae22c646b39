-- The table of leaders in the lent scratch: which places are settled in it, at which cell a place is found, and what becomes of a place that is put. A stored table has m events
-- a row; the scratch has regions of n cells, by place the rows at hand, their leaders and keys, and the table.
use Rattle.std.specs.Prelude.{◌≡◌, List, ◌⊎◌, ℕ, suc, ◌+◌, ◌*◌, ◌/◌, ◌≤◌, ◌<◌, length, get_or, set}
use Rattle.splitting.specs.Places.{nxt_at, key_at, tab_at}
use Rattle.signatures.specs.Signatures.{Signed, key_of, Changed}

-- The row at a place.
abbrev pub row_at : ℕ → List ℕ → ℕ → ℕ
row_at n s c = get_or s (3 * n + c) 0

-- The numbers of rows, events and places, and the lent cells, fit together.
pub record Sizes (n m to known : ℕ) (s : List ℕ) : Type 0 where
  pub few : n ≤ 1024
  pub room : 12 * n ≤ length s
  pub events : m ≤ 32
  pub inside : to ≤ n
  pub past : known ≤ to

-- Place c is one of the `known` ones, and no change concerns it.
abbrev pub Old : ℕ → ℕ → ℕ → ℕ → List ℕ → List ℕ → ℕ → Type 0
Old n m known last cells s c = (c < known) × (Changed n m cells s last (row_at n s c) → ⊥)

-- Place c is settled when the places below i have been put: it is one of them, or was in the table before.
abbrev pub Settled : (ℕ → Type 0) → ℕ → ℕ → Type 0
Settled old i c = (c < i) ⊎ old c

-- The slot of a key: below 2 * n, so that a third of the table is left behind the slots.
abbrev pub slot_of : ℕ → ℕ → ℕ
slot_of n h = h * (2 * n) / 65536

-- The key that a place should have, and places of one signature, in s.
abbrev pub hash_in : ℕ → ℕ → ℕ → List ℕ → List ℕ → ℕ → ℕ
hash_in mask n m cells s c = key_of mask n m cells s (row_at n s c)

abbrev pub Same : ℕ → ℕ → ℕ → List ℕ → List ℕ → ℕ → ℕ → Type 0
Same mask n m cells s c d = Signed mask n m cells s (row_at n s c) (row_at n s d)

-- Place i may join place y: that one leads, is settled, and has the key and the signature of i.
pub record Alike (mask n m to known last : ℕ) (cells s : List ℕ) (i y : ℕ) : Type 0 where
  pub inside : y < to
  pub other : y ≡ i → ⊥
  pub leads : nxt_at n s y ≡ y
  pub key : key_at n s y ≡ key_at n s i
  pub settled : Settled (Old n m known last cells s) i y
  pub signed : Same mask n m cells s y i

-- Cell r of the table is the first from the slot of place i on that is empty or has a place like i.
pub record Found (mask n m to known last : ℕ) (cells : List ℕ) (i : ℕ) (s : List ℕ) (r : ℕ) : Type 0 where
  pub from : slot_of n (key_at n s i) ≤ r
  pub filled : (x : ℕ) → slot_of n (key_at n s i) ≤ x → x < r → tab_at n s x ≡ 0 → ⊥
  pub unlike : (x y : ℕ) → slot_of n (key_at n s i) ≤ x → x < r → tab_at n s x ≡ suc y → Alike mask n m to known last cells s i y → ⊥
  pub like : (y : ℕ) → tab_at n s r ≡ suc y → Alike mask n m to known last cells s i y

-- What becomes of place i; k is what stands after its key has been noted.
pub data Put (mask n m to known last : ℕ) (cells : List ℕ) (i : ℕ) (s t : List ℕ) (r : ℕ) : Type 0 where
  -- There is no room in the table.
  full : t ≡ set s (6 * n + i) (hash_in mask n m cells s i) → to < r → Put mask n m to known last cells i s t r
  -- It is entered.
  entered : (k : List ℕ) (at : ℕ) → k ≡ set s (6 * n + i) (hash_in mask n m cells s i) → at < 3 * n → Found mask n m to known last cells i k at
      → tab_at n k at ≡ 0 → t ≡ set k (9 * n + at) (i + 1) → r ≡ to → Put mask n m to known last cells i s t r
  -- It follows a lower place,
  follows : (k : List ℕ) (y : ℕ) → k ≡ set s (6 * n + i) (hash_in mask n m cells s i) → Alike mask n m to known last cells k i y
      → y < i → t ≡ set k (4 * n + i) y → r ≡ i → Put mask n m to known last cells i s t r
  -- or leads a higher one, and takes its cell.
  leads : (k : List ℕ) (at y : ℕ) → k ≡ set s (6 * n + i) (hash_in mask n m cells s i) → at < 3 * n → Found mask n m to known last cells i k at
      → tab_at n k at ≡ suc y → Alike mask n m to known last cells k i y → i < y → t ≡ set (set k (4 * n + y) i) (9 * n + at) (i + 1) → r ≡ y → Put mask n m to known last cells i s t r
