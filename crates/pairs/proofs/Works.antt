-- What it means that pairs of a table's rows can be worked on.
use mathlib.Core.Path.{◌≡◌}
use mathlib.Core.Bool.{true}
use Prim.Native.Nat.{ℕ, ◌≤◌, ◌<◌}
use lib.ListN.{get_or}
use Rattle.automata.specs.Runs.{Sound}
use Rattle.tables.specs.Table.{Table, Valid, machine, events_of}
use Rattle.rules.specs.Rules.{sound, judged, winch, table_checks}
use Rattle.rules.proofs.Shape.{Shape}
use Rattle.scratch.proofs.Works.{within_fine, within_valid, valid_within}
use Rattle.scratch.proofs.Soundness.{within_shape, within_sound}
use Rattle.pairs.specs.Pairs.{needed, workable}

pub workable-fine : (T : Table) (room : ℕ) → workable T room ≡ true → (judged (table_checks winch T) ≡ sound) × (needed T.rows ≤ room)
workable-fine = within_fine needed

pub workable_valid : (T : Table) (room : ℕ) → workable T room ≡ true → ((i : ℕ) → get_or T.marks i 0 < 256) → Valid T × (needed T.rows ≤ room)
workable_valid = within_valid needed

pub valid_workable : (T : Table) (room : ℕ) → Valid T → needed T.rows ≤ room → workable T room ≡ true
valid_workable = valid_within needed

pub workable_shape : (T : Table) (room : ℕ) → workable T room ≡ true → Shape winch T
workable_shape = within_shape needed

pub workable_sound : (T : Table) (room : ℕ) → workable T room ≡ true → (weight : ℕ → ℕ) → Sound (events_of weight T) (machine T)
workable_sound = within_sound needed
