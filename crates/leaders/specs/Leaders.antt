-- The table of leaders: which places are in the table, and what is left when leaders of one signature have been joined.
-- A stored table has m events a row; the lent scratch has regions of n cells: by row its class of the level before (its value, the place of its leader),
-- by place the rows at hand, their leaders and keys, and by row the level at which its class changed last.
use Rattle.std.specs.Prelude.{◌≡◌, List, ℕ, suc, ◌*◌, ◌≤◌, ◌<◌, get_or}
use Rattle.splitting.specs.Places.{nxt_at, key_at, jump_at, tab_at, Frame}
use Rattle.signatures.specs.Signatures.{value_at, target_at}
use Rattle.leader_table.specs.Putting.{row_at, Old, slot_of, hash_in, Same}

-- ---- the table

-- Place c is found from the slot of its key on, with no empty cell before it, where `tab` gives the places + 1 of the table.
pub record Entry (end : ℕ) (slot key tab : ℕ → ℕ) (c : ℕ) : Type 0 where
  pub at : ℕ
  pub from : slot (key c) ≤ at
  pub inside : at < end
  pub here : tab at ≡ suc c
  pub filled : (x : ℕ) → slot (key c) ≤ x → x < at → tab x ≡ 0 → ⊥

-- Of the places below `to` that lead and are settled, each has its key and is in the table, and no two have one signature.
pub record Table (to end : ℕ) (slot hash : ℕ → ℕ) (settled : ℕ → Type 0) (same : ℕ → ℕ → Type 0) (nxt key tab : ℕ → ℕ) : Type 0 where
  pub keys : (c : ℕ) → c < to → nxt c ≡ c → settled c → key c ≡ hash c
  pub entries : (c : ℕ) → c < to → nxt c ≡ c → settled c → Entry end slot key tab c
  pub lone : (c d : ℕ) → c < to → d < to → nxt c ≡ c → nxt d ≡ d → settled c → settled d → same c d → c ≡ d

-- The same of the leaders, keys and table in t, with the signatures in s.
abbrev pub TableIn : ℕ → ℕ → ℕ → ℕ → List ℕ → (ℕ → Type 0) → List ℕ → List ℕ → Type 0
TableIn mask n m to cells settled s t = Table to (3 * n) (slot_of n) (hash_in mask n m cells s) settled (Same mask n m cells s) (nxt_at n t) (key_at n t) (tab_at n t)

-- ---- what is asked, and what is left

-- The rows at hand and their targets are rows.
pub record InHand (n m to : ℕ) (cells s : List ℕ) : Type 0 where
  pub rows : (c : ℕ) → c < to → row_at n s c < n
  pub targets : (c a : ℕ) → c < to → a < m → target_at m cells (row_at n s c) a < n

-- A place led at the level before if it is the value of its own row. The `known` first places say so by their leaders, and are in the table but for those that a change concerns.
pub record Known (mask n m known last : ℕ) (cells s : List ℕ) : Type 0 where
  pub down : (c : ℕ) → c < known → nxt_at n s c ≤ c
  pub leads : (c : ℕ) → c < known → value_at n s (row_at n s c) ≡ c → nxt_at n s c ≡ c
  pub led : (c : ℕ) → c < known → nxt_at n s c ≡ c → value_at n s (row_at n s c) ≡ c
  pub table : TableIn mask n m known cells (Old n m known last cells s) s s

-- Before.
pub record Begun (mask n m to known last : ℕ) (cells s : List ℕ) : Type 0 where
  pub hand : InHand n m to cells s
  pub low : (c : ℕ) → c < to → value_at n s (row_at n s c) ≤ c
  pub past : Known mask n m known last cells s

-- Only the working regions have changed: leaders, keys, jumps and the table.
pub record Kept (n : ℕ) (s t : List ℕ) : Type 0 where
  pub frame : Frame n s t
  pub stamps : (x : ℕ) → 5 * n ≤ x → x < 6 * n → get_or t x 0 ≡ get_or s x 0

-- After: each place that led at the level before has the first place of its signature for its leader; `lost` of those below u lead no more, and are listed.
pub record Joins (mask n m u to : ℕ) (cells s t : List ℕ) (lost : ℕ) : Type 0 where
  pub few : lost ≤ to
  pub down : (c : ℕ) → c < to → nxt_at n t c ≤ c
  pub others : (c : ℕ) → c < to → (value_at n s (row_at n s c) ≡ c → ⊥) → nxt_at n t c ≡ c → ⊥
  pub leads : (c : ℕ) → c < to → value_at n s (row_at n s c) ≡ c → nxt_at n t (nxt_at n t c) ≡ nxt_at n t c
  pub signed : (c : ℕ) → c < to → value_at n s (row_at n s c) ≡ c → Same mask n m cells s c (nxt_at n t c)
  pub table : TableIn mask n m to cells (λ c. c < to) s t
  pub listed : (c : ℕ) → c < u → value_at n s (row_at n s c) ≡ c → (nxt_at n t c ≡ c → ⊥) → (x : ℕ) × (x < lost) × (jump_at n t x ≡ c)
  pub losers : (x : ℕ) → x < lost → (jump_at n t x < u) × (value_at n s (row_at n s (jump_at n t x)) ≡ jump_at n t x) × (nxt_at n t (jump_at n t x) ≡ jump_at n t x → ⊥)
