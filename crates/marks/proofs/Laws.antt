-- The laws of packed marks: what replacing one does to every mark, and when the spare bits are clear.
use mathlib.Core.Path.{◌≡◌, refl}
use mathlib.Core.Bool.{false, and-false}
use mathlib.Core.List.{List}
use mathlib.Core.Logic.{◌≢◌, ◌↔◌, ⊎_elim}
use Prim.Native.Nat.{ℕ, ◌+◌, ◌-◌, ◌/◌, ◌%◌, ◌^◌, ◌≤◌, ◌<◌}
use native.Mathlib.Nat.{zero-div, zero-mod}
use native.Mathlib.Decide.{ℕ_discrete, dec_lt}
use native.Mathlib.Omega.{arith}
use lib.ListN.{length, get_or, length-set, get_or-eq_default}
use lib.Pow.{shr_lt, shr-shr}
use lib.Seq.{set_out, get_or-set_same, get_or-set_other}
use borrow.Author.Tests.{eqb-true, eq-eqb, not-false}
use Rattle.automata.proofs.Tests.{and_cases}
use Rattle.tables.specs.Table.{mark_byte_count, mark_of}
use Rattle.marks.specs.Marks.{with_bit, marked, spare_bits_set}
use Rattle.marks.proofs.Bits.{bits_above, bit_here, bit_else, no_bits, beyond}

-- ---- one mark replaced

pub marked-length : (marks : List ℕ) (r m : ℕ) → length (marked marks r m) ≡ length marks
unfolding marked
marked-length marks r m = simp length-set

pub marked_here : (marks : List ℕ) (r m : ℕ) → r / 8 < length marks → m ≤ 1 → mark_of (marked marks r m) r ≡ m
unfolding marked
marked_here marks r m h bit = rw (get_or-set_same marks (r / 8) _ 0 h) (bit_here _ (r % 8) m bit)

-- Byte i is as it was, or has row r's bit replaced: what holds of both holds of it.
byte : (P : ℕ → Type 0) (marks : List ℕ) (r m i : ℕ) → P (get_or marks i 0)
    → (i ≡ r / 8 → P (with_bit (get_or marks i 0) (r % 8) m)) → P (get_or (marked marks r m) i 0)
unfolding marked
byte P marks r m i old new = pick (ℕ_discrete i (r / 8)) (dec_lt i (length marks))
  where
    pick : Dec (i ≡ r / 8) → Dec (i < length marks) → P (get_or (marked marks r m) i 0)
    pick (no other) d = rw (get_or-set_other marks (r / 8) i _ 0 other) old
    pick (yes e) (yes h) = rw (← e, get_or-set_same marks i _ 0 h) (new e)
    pick (yes e) (no out) = rw (set_out marks (r / 8) _ (omega arith)) old

pub marked_else : (marks : List ℕ) (r p m : ℕ) → m ≤ 1 → p ≢ r → mark_of (marked marks r m) p ≡ mark_of marks p
marked_else marks r p m bit other =
    byte (λ b. b / 2 ^ (p % 8) % 2 ≡ mark_of marks p) marks r m (p / 8) refl (λ e. bit_else _ (r % 8) m bit (p % 8) (omega arith))

pub marked_bytes : (marks : List ℕ) (r m : ℕ) → m ≤ 1 → ((i : ℕ) → get_or marks i 0 < 256) → (i : ℕ) → get_or (marked marks r m) i 0 < 256
marked_bytes marks r m bit bytes i =
    byte (λ b. b < 256) marks r m i (bytes i) (λ e. omega (arith, bytes i, bits_above (get_or marks i 0) (r % 8) m bit 8 (omega arith)))

-- ---- the spare bits

-- The bits of the last byte that belong to no row, as a number.
abbrev spare : List ℕ → ℕ → ℕ
spare marks rows = get_or marks (rows / 8) 0 / 2 ^ (rows % 8)

module _ (marks : List ℕ) (rows : ℕ) (whole : length marks ≡ mark_byte_count rows) where
  -- Where the last byte is full, byte rows / 8 lies beyond the bytes and counts as 0.
  none-set : spare_bits_set rows (get_or marks (rows / 8) 0) ≡ false → spare marks rows ≡ 0
  unfolding spare_bits_set
  none-set e = ⊎_elim (λ f. full (eqb-true _ 0 (not-false _ f))) (λ f. eqb-true _ 0 (not-false _ f)) (and_cases _ _ e)
    where
      full : rows % 8 ≡ 0 → spare marks rows ≡ 0
      full h = rw (get_or-eq_default marks 0 {n = rows / 8} (omega arith), zero-div)

  none-marked : spare marks rows ≡ 0 → (r : ℕ) → rows ≤ r → mark_of marks r ≡ 0
  none-marked clear r h = pick (ℕ_discrete (r / 8) (rows / 8))
    where
      pick : Dec (r / 8 ≡ rows / 8) → mark_of marks r ≡ 0
      pick (yes e) =
          let place : rows % 8 + (r - rows) ≡ r % 8 = omega arith in
          rw (e, ← place, ← shr-shr _ (rows % 8) (r - rows), clear, zero-div, zero-mod)
      pick (no ne) = beyond marks r (omega arith)

-- The mark of row rows + k is bit k of them.
all_clear : (marks : List ℕ) (rows : ℕ) → ((i : ℕ) → get_or marks i 0 < 256)
    → ((r : ℕ) → rows ≤ r → mark_of marks r ≡ 0) → spare marks rows ≡ 0
all_clear marks rows bytes clear =
    let eight : 8 - rows % 8 + rows % 8 ≡ 8 = omega arith in
    no_bits (8 - rows % 8) _ (shr_lt _ (rows % 8) (rw eight (bytes (rows / 8)))) at
  where
    at : (k : ℕ) → k < 8 - rows % 8 → spare marks rows / 2 ^ k % 2 ≡ 0
    at k h =
        let same : (rows + k) / 8 ≡ rows / 8 = omega arith in
        let place : (rows + k) % 8 ≡ rows % 8 + k = omega arith in
        rw (shr-shr, ← same, ← place) (clear (rows + k) (omega arith))

pub spare_clear : (marks : List ℕ) (rows : ℕ) → length marks ≡ mark_byte_count rows → ((i : ℕ) → get_or marks i 0 < 256)
    → (spare_bits_set rows (get_or marks (rows / 8) 0) ≡ false) ↔ ((r : ℕ) → rows ≤ r → mark_of marks r ≡ 0)
unfolding spare_bits_set
spare_clear marks rows whole bytes = (
  λ e. none-marked marks rows whole (none-set marks rows whole e),
  λ clear. rw (eq-eqb _ 0 (all_clear marks rows bytes clear), and-false),
)
