-- "These fakes have to break it": reducers that return the table untouched, make up a row count, or return one waiting row always.
use mathlib.Core.Path.{◌≡◌, refl, sym, subst, ◌∙◌}
use mathlib.Core.List.{List, [], ◌∷◌}
use mathlib.Core.Logic.{◌↔◌, ◌≢◌, inl, inr}
use Prim.Native.Nat.{ℕ, zero, suc, ◌/◌, ◌≤◌, ◌<◌}
use native.Mathlib.Nat.{zero-div, zero-mod}
use native.Mathlib.Omega.{arith}
use borrow.Author.Tests.{leb-false}
use lib.Dec.{leb}
use lib.ListN.{get_or, replicate, length-replicate, get_or-eq_default}
use Rattle.automata.specs.Runs.{Run, size, after, shows, AgreeFrom}
use Rattle.tables.specs.Table.{Table, Offset, offset, none, Valid, Agrees, Fewest, mark_of, machine, events_of, pack, digits}
use Rattle.tables.specs.Lists.{tabulate, some}
use Rattle.tables.specs.Reduction.{reduced}
use Rattle.tables.proofs.Lists.{at_mem, read_mem, none_has}
use Rattle.tables.proofs.Marks.{pack_mark, pack_bytes}
use Rattle.tables.proofs.Theorems.{valid, same_events, agrees, fewest}
use Rattle.tables.proofs.Cases.{A}

-- ---- a table untouched, and a made_up row count
module _ (weight : ℕ → ℕ) (light : (a : ℕ) → weight a ≤ 1) (T : Table) (v : Valid T) (k : Offset) where
  -- "A made_up row count" that is too low breaks demand 2: no table of fewer rows than the reduced one agrees.
  pub too_few : (N : Table) → Valid N → N.events ≡ T.events → N.rows < (reduced weight k T).rows → ¬ Agrees weight k T N
  too_few N n e h a = omega (arith, fewest weight light T v k N n e a)

  -- One that is too high breaks demand 3: the reduced table agrees and has fewer rows.
  pub too_many : (U : Table) → (reduced weight k T).rows < U.rows → ¬ Fewest weight k T U
  too_many U h f = omega (arith, f (reduced weight k T) (valid weight light T v k) (same_events weight light T v k) (agrees weight light T v k))

  -- So any other row count breaks one of the two.
  pub made_up : (N : Table) → Valid N → N.events ≡ T.events → N.rows ≢ (reduced weight k T).rows → ¬ (Agrees weight k T N × Fewest weight k T N)
  made_up N n e other d =
      let few : ¬ (N.rows < (reduced weight k T).rows) = λ h. too_few N n e h d.0 in
      let many : ¬ ((reduced weight k T).rows < N.rows) = λ h. too_many N h d.1 in
      omega arith

  -- "Returning the table untouched" breaks demand 3 wherever the reduction is shorter.
  pub untouched : (reduced weight k T).rows < T.rows → ¬ Fewest weight k T T
  untouched = too_many T

-- ---- "a single waiting row always"

-- One waiting row, over so many events.
abbrev pub one_waiting : ℕ → Table
one_waiting events = record { rows = 1; events = events; start = 0; cells = replicate events 0; marks = 0 ∷ [] }

zeros : (n i : ℕ) → ◌≡◌ {A = ℕ} (get_or (replicate n 0) i 0) 0
zeros zero i = refl
zeros (suc n) zero = refl
zeros (suc n) (suc i) = zeros n i

waits : (r : ℕ) → mark_of (0 ∷ []) r ≡ 0
waits r = rw (zeros 1 (r / 8), zero-div, zero-mod)

shows_wait : (events : ℕ) (w : List ℕ) → shows (machine (one_waiting events)) w ≡ 0
shows_wait events w = waits (after (machine (one_waiting events)) 0 w)

-- Nothing else is wrong with it: it is a valid table.
pub one-waiting_valid : (events : ℕ) → 1 ≤ events → events ≤ 32 → Valid (one_waiting events)
one-waiting_valid events low high = record {
  some_row = omega arith;
  rows_fit = omega arith;
  some_event = low;
  events_fit = high;
  all_cells = omega (arith, length-replicate {A = ℕ} events 0);
  all_marks = refl;
  start_inside = omega arith;
  cells_in = λ i h. omega (arith, zeros events i);
  spare_clear = λ r h. waits r;
  bytes = λ i. omega (arith, zeros 1 i);
}

-- T shows wait after every run of size L or more.
abbrev pub WaitsFrom : (ℕ → ℕ) → ℕ → Table → Type 0
WaitsFrom weight L T = (w : List ℕ) → Run (events_of weight T) w → L ≤ size (events_of weight T) w → shows (machine T) w ≡ 0

-- T shows wait after every run of the offset's length or more; with no offset, from some length on.
abbrev pub Waits : (ℕ → ℕ) → Offset → Table → Type 0
Waits weight (offset k) T = WaitsFrom weight k T
Waits weight none T = (L : ℕ) × WaitsFrom weight L T

module _ (weight : ℕ → ℕ) (T : Table) where
  agree_wait : (L : ℕ) → AgreeFrom (events_of weight T) L (machine T) (machine (one_waiting T.events)) ↔ WaitsFrom weight L T
  agree_wait L = (λ n w hw hl. n.same w hw hl ∙ shows_wait T.events w, λ h. record { same = λ w hw hl. h w hw hl ∙ sym (shows_wait T.events w) })

  -- One waiting row keeps demand 2 exactly where the table itself only waits.
  pub one-waiting_agrees : (k : Offset) → Agrees weight k T (one_waiting T.events) ↔ Waits weight k T
  one-waiting_agrees (offset k) = agree_wait k
  one-waiting_agrees none = (λ a. (a.0, (agree_wait a.0).0 a.1), λ h. (h.0, (agree_wait h.0).1 h.1))

-- Document 01's A is a valid table.
A_marks : List ℕ
A_marks = 1 ∷ 0 ∷ 0 ∷ []

A_marks-small : (i : ℕ) → get_or A_marks i 0 < 2
unfolding A_marks some
A_marks-small i = leb-false 2 _ (none_has (leb 2) A_marks refl _ (read_mem A_marks i 0 (inr (inl refl))))

pub A_valid : Valid A
unfolding A_marks some pack digits tabulate
A_valid = record {
  some_row = omega arith;
  rows_fit = omega arith;
  some_event = omega arith;
  events_fit = omega arith;
  all_cells = refl;
  all_marks = refl;
  start_inside = omega arith;
  cells_in = λ i h. leb-false 3 _ (none_has (leb 3) A.cells refl _ (at_mem A.cells i 0 h));
  spare_clear = λ r h. pack_mark A_marks A_marks-small r ∙ get_or-eq_default A_marks 0 h;
  bytes = pack_bytes A_marks A_marks-small;
}

module _ (weight : ℕ → ℕ) where
  -- After the run of no event A shows ready, so at offset 0 one waiting row does not agree with it:
  pub A-not-waiting : ¬ Agrees weight (offset 0) A (one_waiting 1)
  A-not-waiting a = omega (arith, (one-waiting_agrees weight A (offset 0)).0 a [] tt (omega arith))

  -- its reduction there is another table,
  pub A-reduced : ((a : ℕ) → weight a ≤ 1) → ¬ (reduced weight (offset 0) A ≡ one_waiting 1)
  A-reduced light e = A-not-waiting (subst (Agrees weight (offset 0) A) e (agrees weight light A A_valid (offset 0)))

  -- and "a single waiting row always" breaks demand 2.
  pub always-waiting : ¬ ((T : Table) → Valid T → (k : Offset) → Agrees weight k T (one_waiting T.events))
  always-waiting keeps = A-not-waiting (keeps A A_valid (offset 0))
