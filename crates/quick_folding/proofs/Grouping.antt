-- The classes of a level as the sweep goes on with them, whether leaders were joined or classes split.
use mathlib.Core.Path.{◌≡◌, ap, ◌∙◌}
use mathlib.Core.List.{List}
use mathlib.Core.Logic.{inr}
use Prim.Native.Nat.{ℕ, ◌+◌, ◌-◌, ◌*◌, ◌≤◌, ◌<◌}
use native.Mathlib.Omega.{arith}
use native.Mathlib.Decide.{dec_le}
use borrow.Author.Tests.{le-leb, lt-leb}
use lib.Dec.{leb}
use lib.ListN.{length, get_or}
use Rattle.std.specs.Bool.{then_some}
use Rattle.std.specs.Option.{IfSome}
use Rattle.tables.specs.Table.{Table, weight_by, machine, events_of}
use Rattle.levels.specs.Levels.{row_at}
use Rattle.levels.specs.Sweep.{Settled}
use Rattle.scratch.specs.Scratch.{cleared}
use Rattle.splitting.specs.Places.{nxt_at, jump_at, Filled}
use Rattle.splitting.proofs.Frames.{filled_clear}
use Rattle.leaders.specs.Leaders.{Kept}
use Rattle.quick_folding.specs.Parts.{value_at, Leading, Follows}

-- The table is empty.
pub emptied : {n : ℕ} {s t : List ℕ} → n ≤ 1024 → 12 * n ≤ length s → t ≡ cleared s (9 * n) (12 * n) → Filled n (9 * n) (3 * n) (λ i. 0) s t
emptied {n} {s} few room e =
    let z : 12 * n ≡ 9 * n + 3 * n = omega arith in
    filled_clear (record { few = few; room = room; from = omega arith; until = omega arith; aside = inr (omega arith) }) (e ∙ ap (cleared s (9 * n)) z)

pub emptied_kept : {n : ℕ} {s t : List ℕ} → Filled n (9 * n) (3 * n) (λ i. 0) s t → Kept n s t
emptied_kept d = record { frame = d.frame; stamps = λ x h l. d.below x (omega arith) }

-- What is known of a number of lost leads, if that is told.
pub if_known : (P : ℕ → Type 0) (r : ℕ) → (r ≤ 1024 → P r) → IfSome (then_some (leb r 1024) r) (λ x. (x ≤ 1024) × P x)
if_known P r told = elim (dec_le r 1024) [
  | yes h ↦ rw (le-leb r 1024 h) (h, told h)
  | no h ↦ rw (lt-leb r 1024 (omega arith)) tt
]

-- f gives the leader of each place; where it is asked for, at new places and at the values of old rows, it stands in t₂.
pub record Grouping (mask : ℕ) (T : Table) (k L i j u : ℕ) (s t₁ t₂ : List ℕ) (lost : ℕ) (f : ℕ → ℕ) : Type 0 where
  pub size : length t₂ ≡ length t₁
  pub front : (x : ℕ) → x < 4 * T.rows → get_or t₂ x 0 ≡ get_or t₁ x 0
  pub spare : 0 < L → (x : ℕ) → 8 * T.rows ≤ x → x < 9 * T.rows → get_or t₂ x 0 ≡ get_or t₁ x 0
  pub behind : (x : ℕ) → 12 * T.rows ≤ x → get_or t₂ x 0 ≡ get_or t₁ x 0
  pub settled : Settled (events_of (weight_by mask) T) (machine T) k L i j f
  pub new_led : (x : ℕ) → x < j - i → f (u + x) ≡ nxt_at T.rows t₂ (u + x)
  pub old_led : (y : ℕ) → y < i → f (value_at T.rows s (row_at (events_of (weight_by mask) T) (machine T) y)) ≡ nxt_at T.rows t₂ (value_at T.rows s (row_at (events_of (weight_by mask) T) (machine T) y))
  pub follows : Follows u (u + (j - i)) (nxt_at T.rows t₂)
  pub calm : lost ≡ 0 → (y : ℕ) → y < i → nxt_at T.rows t₂ (value_at T.rows s (row_at (events_of (weight_by mask) T) (machine T) y)) ≡ value_at T.rows s (row_at (events_of (weight_by mask) T) (machine T) y)
  -- The places below u that lead no more, if it is known how many they are.
  pub many : lost ≤ 1024 → lost ≤ T.rows
  pub losers : lost ≤ 1024 → (x : ℕ) → x < lost → Leading T.rows u t₂ (jump_at T.rows t₂ x)
  pub leads : lost ≤ 1024 → (x : ℕ) → x < lost → nxt_at T.rows t₂ (nxt_at T.rows t₂ (jump_at T.rows t₂ x)) ≡ nxt_at T.rows t₂ (jump_at T.rows t₂ x)
  pub listed : lost ≤ 1024 → (c : ℕ) → Leading T.rows u t₂ c → (nxt_at T.rows t₂ c ≡ c → ⊥) → (x : ℕ) × (x < lost) × (jump_at T.rows t₂ x ≡ c)
