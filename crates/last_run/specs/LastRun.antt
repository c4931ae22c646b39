-- What the call that tells a row's last run promises.
use Rattle.std.specs.Prelude.{◌≡◌, List, ℕ, length, take, replicate, Result, Ok}
use Rattle.tables.specs.Table.{Table, Offset, machine, events_of, weight_by}
use Rattle.tables.specs.Reduction.{folded_into, fate_of}
use Rattle.rules.specs.Rules.{Verdict, and_then, left_by}
use Rattle.rules.specs.declared.Refusal.{Refusal}
use Rattle.scratch.specs.Scratch.{scratch_cells}
use Rattle.chosen.specs.GivenUp.{Loss, GivesUp}
use Rattle.last_run_rules.specs.Checks.{run_rule, answer_by}
use Rattle.last_run_rules.specs.declared.Told.{Told}

-- The verdict of all rules: v of those that are judged before the search, and then 18, where the run buffer has so many bytes.
abbrev pub last_of_all : Verdict → Loss → ℕ → Verdict
last_of_all v g bytes = and_then v (run_rule (length g.run) bytes)

-- What a call promises, where v is the verdict of rules 1 to 7 and g what the row gives up; run and scratch are what the buffers hold before, run' and scratch' after.
pub record Promise (v : Verdict) (g : Loss) (k : Offset) (mask : ℕ) (T : Table) (row : ℕ) (run scratch : List ℕ) (r : Result Told Refusal) (run' scratch' : List ℕ) : Type 0 where
  -- The first rule broken gives the answer, 18 last of all; the run is written only if none is.
  pub answers : r ≡ answer_by (last_of_all v g (length run)) g
  pub run_after : run' ≡ left_by (last_of_all v g (length run)) run g.run
  -- "Only the scratch is then changed, to 0, in spite of demand 1": 18 leaves the scratch as success does; every other refusal leaves it as it was.
  pub scratch_after : scratch' ≡ left_by v scratch (replicate (scratch_cells T.rows) 0)
  -- What is given up, by the run that is written.
  pub gives_up : (far n p : ℕ) → r ≡ Ok (record { distance = far; length = n }) → fate_of (events_of (weight_by mask) T) (machine T) k row ≡ folded_into p
      → GivesUp (events_of (weight_by mask) T) (machine T) row p far (take n run')
