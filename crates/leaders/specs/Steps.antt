-- What the steps by which leaders are joined ensure.
use Rattle.std.specs.Prelude.{◌≡◌, List, ◌⊎◌, ℕ, ◌+◌, ◌*◌, ◌≤◌, ◌<◌, get_or, set}
use Rattle.splitting.specs.Places.{nxt_at, key_at, jump_at, tab_at}
use Rattle.signatures.specs.Signatures.{value_at}
use Rattle.leader_table.specs.Putting.{row_at, Old, Settled, slot_of, hash_in, Same, Put}
use Rattle.leaders.specs.Leaders.{Table, Kept}

-- The turn of place i, where `lost` places below u lead no more.
pub data Stepped (mask n m u to known last : ℕ) (cells : List ℕ) (i lost : ℕ) (s t : List ℕ) (r : ℕ) : Type 0 where
  -- It does not lead, or is settled;
  rests : ((nxt_at n s i ≡ i → ⊥) ⊎ Settled (Old n m known last cells s) i i) → t ≡ s → r ≡ lost → Stepped mask n m u to known last cells i lost s t r
  -- it is put, and no place below u leads no more for that,
  passed : (z : ℕ) → nxt_at n s i ≡ i → Put mask n m to known last cells i s t z → u ≤ z → z ≤ to → r ≡ lost → Stepped mask n m u to known last cells i lost s t r
  -- or one does, and is noted,
  noted : (z : ℕ) (k : List ℕ) → nxt_at n s i ≡ i → Put mask n m to known last cells i s k z → z < u → t ≡ set k (7 * n + lost) z → r ≡ lost + 1
      → Stepped mask n m u to known last cells i lost s t r
  -- or there is no room.
  full : (z : ℕ) → Put mask n m to known last cells i s t z → 1024 < r → Stepped mask n m u to known last cells i lost s t r

-- Leaders are joined. nxt₀ are the leaders before the first was put, and the places below i have been put; `list` has the `lost` places below u that lead no more.
pub record Joining (u to end : ℕ) (slot hash : ℕ → ℕ) (old : ℕ → Type 0) (same : ℕ → ℕ → Type 0) (nxt₀ : ℕ → ℕ) (i : ℕ) (nxt key tab list : ℕ → ℕ) (lost : ℕ) : Type 0 where
  pub table : Table to end slot hash (Settled old i) same nxt key tab
  pub down : (c : ℕ) → c < to → nxt c ≤ c
  pub others : (c : ℕ) → c < to → (nxt₀ c ≡ c → ⊥) → nxt c ≡ nxt₀ c
  pub leads : (c : ℕ) → c < to → nxt₀ c ≡ c → nxt (nxt c) ≡ nxt c
  pub signed : (c : ℕ) → c < to → nxt₀ c ≡ c → same c (nxt c)
  -- Who leads another since then is one of those that have been put.
  pub put : (c : ℕ) → c < to → nxt₀ c ≡ c → (nxt c ≡ c → ⊥) → nxt c < i
  pub listed : (c : ℕ) → c < u → nxt₀ c ≡ c → (nxt c ≡ c → ⊥) → (x : ℕ) × (x < lost) × (list x ≡ c)
  pub losers : (x : ℕ) → x < lost → (list x < u) × (nxt₀ (list x) ≡ list x) × (nxt (list x) ≡ list x → ⊥)

-- The same in the lent scratch: s is what stood before the first was put, t what stands now.
abbrev pub JoiningIn : ℕ → ℕ → ℕ → ℕ → ℕ → ℕ → ℕ → List ℕ → ℕ → List ℕ → List ℕ → ℕ → Type 0
JoiningIn mask n m u to known last cells i s t lost =
    Joining u to (3 * n) (slot_of n) (hash_in mask n m cells s) (Old n m known last cells s) (Same mask n m cells s) (nxt_at n s) i (nxt_at n t) (key_at n t) (tab_at n t) (jump_at n t) lost

-- The places from `known` up to `to`, of which the rows are rows, have the values of these for their leaders.
pub record Seeded (n known to : ℕ) (s t : List ℕ) : Type 0 where
  pub kept : Kept n s t
  pub here : (c : ℕ) → known ≤ c → c < to → row_at n s c < n → nxt_at n t c ≡ value_at n s (row_at n s c)
  pub others : (x : ℕ) → ((x < 4 * n + known) ⊎ (4 * n + to ≤ x)) → get_or t x 0 ≡ get_or s x 0
