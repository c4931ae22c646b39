-- Every table that is drawn is valid.
use mathlib.Core.Path.{ap, ◌∙◌}
use Prim.Native.Nat.{ℕ, ◌*◌, ◌/◌, ◌≤◌, ◌<◌}
use native.Mathlib.Omega.{arith}
use native.Mathlib.Decide.{dec_lt}
use lib.ListN.{get_or, get_or-eq_default}
use Rattle.xorshift.specs.Xorshift.{draw}
use Rattle.tables.specs.Table.{Valid, mark_byte_count}
use Rattle.tables.proofs.Lists.{tabulate-length, tabulate-at}
use Rattle.tables.proofs.Marks.{pack-length, pack_mark, pack_bytes}
use Rattle.load.specs.Load.{load_cell, load_mark, load_marks, load}
use Rattle.load.proofs.Drawing.{row_in, target_inside}

module _ (seed rows events : ℕ) where
  mark_below : (i : ℕ) → get_or (load_marks seed rows events) i 0 < 2
  mark_below i = elim (dec_lt i rows) [
    | yes h ↦ rw (tabulate-at rows (load_mark seed rows events) i 0 h) (omega arith)
    | no h ↦ rw (get_or-eq_default (load_marks seed rows events) 0 {n = i} (omega (arith, tabulate-length rows (load_mark seed rows events)))) (omega arith)
  ]

  pub load_valid : 1 ≤ rows → rows ≤ 1024 → 1 ≤ events → events ≤ 32 → Valid (load seed rows events)
  unfolding load
  load_valid some_row rows_fit some_event events_fit =
      let cells = tabulate-length (rows * events) (load_cell seed rows events) in
      let marks = tabulate-length rows (load_mark seed rows events) in
      record {
        some_row = some_row;
        rows_fit = rows_fit;
        some_event = some_event;
        events_fit = events_fit;
        all_cells = cells;
        all_marks = pack-length (load_marks seed rows events) ∙ ap mark_byte_count marks;
        start_inside = omega arith;
        cells_in = λ i h.
            let g : i < rows * events = omega arith in
            rw (tabulate-at (rows * events) (load_cell seed rows events) i 0 g) (target_inside rows (i / events) (draw seed i) (row_in rows events i some_event g));
        spare_clear = λ r h. pack_mark (load_marks seed rows events) mark_below r ∙ get_or-eq_default (load_marks seed rows events) 0 (omega arith);
        bytes = pack_bytes (load_marks seed rows events) mark_below;
      }
