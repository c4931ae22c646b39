-- "A stated load for the bench": the table that is drawn from a seed, and what the generator promises.
use Rattle.std.specs.Prelude.{◌≡◌, cond, List, [], ◌∷◌, ℕ, ◌+◌, ◌-◌, ◌*◌, ◌/◌, ◌%◌, eqb, ltb}
use Rattle.xorshift.specs.Xorshift.{draw}
use Rattle.tables.specs.Lists.{tabulate}
use Rattle.tables.specs.Table.{Table, Valid, mark_byte_count, pack}
use Rattle.rules.specs.Rules.{Verdict, sound, rule, judged, left_by, winch, rows_rule, events_rule, room_rule}
use Rattle.rules.specs.declared.Rule.TheVariants.{Seed}

-- "In row r below rows / 4 (rounded down) the target is r + 1 plus the draw modulo rows − r − 1, elsewhere the draw modulo rows".
abbrev pub target_by : ℕ → ℕ → ℕ → ℕ
target_by rows r d = cond (ltb r (rows / 4)) (r + 1 + d % (rows - r - 1)) (d % rows)

-- "Targets are drawn row by row": target c stands in row c / events, and takes draw c.
abbrev pub load_cell : ℕ → ℕ → ℕ → ℕ → ℕ
load_cell seed rows events c = target_by rows (c / events) (draw seed c)

-- "Then one draw modulo 2 gives each mark, 1 for ready".
abbrev pub load_mark : ℕ → ℕ → ℕ → ℕ → ℕ
load_mark seed rows events r = draw seed (rows * events + r) % 2

abbrev pub load_cells : ℕ → ℕ → ℕ → List ℕ
load_cells seed rows events = tabulate (rows * events) (load_cell seed rows events)

abbrev pub load_marks : ℕ → ℕ → ℕ → List ℕ
load_marks seed rows events = tabulate rows (load_mark seed rows events)

-- The table of a seed. "The start is 0".
unfoldable pub load : ℕ → ℕ → ℕ → Table
load seed rows events = record {
  rows = rows;
  events = events;
  start = 0;
  cells = load_cells seed rows events;
  marks = pack (load_marks seed rows events);
}

-- 17: the seed is 0.
abbrev pub seed_rule : ℕ → Verdict
seed_rule seed = rule Seed (eqb seed 0) 0

-- Rules 1, 2 and 17, and last 7 for so many lent cells and mark bytes.
abbrev pub load_checks : ℕ → ℕ → ℕ → ℕ → ℕ → List Verdict
load_checks seed rows events cells marks =
    rows_rule winch rows ∷ events_rule winch events ∷ seed_rule seed ∷ room_rule (rows * events) cells ∷ room_rule (mark_byte_count rows) marks ∷ []

-- The first rule broken, if one is.
unfoldable pub verdict : ℕ → ℕ → ℕ → ℕ → ℕ → Verdict
verdict seed rows events cells marks = judged (load_checks seed rows events cells marks)

-- What a call promises, given what the buffers hold before and after, and its answer.
pub record Promise (v : Verdict) (T : Table) (cells marks : List ℕ) (r : Verdict) (cells' marks' : List ℕ) : Type 0 where
  -- The first rule broken gives the answer, and then every buffer is unchanged.
  pub answers : r ≡ v
  pub cells_after : cells' ≡ left_by v cells T.cells
  pub marks_after : marks' ≡ left_by v marks T.marks
  -- The table that was written breaks no rule.
  pub valid : r ≡ sound → Valid T
