use mathlib.Core.Path.{sym}
use native.Mathlib.Omega.{arith}
use Rattle.rules.specs.Rules.{table_of, offset_of}
use Rattle.folding.proofs.FoldedIn.{small, refuses, works, room_after, folds-after}
use mathlib.Core.Bool.{not}
use mathlib.Core.Path.{ap}
use Rattle.folding.proofs.fold_rows.Goals as goal

pub returns-then-not-find_lengths : goal.returns-then-not-find_lengths
returns-then-not-find_lengths c = let a = c.args in
    let f = c.find_lengths in
    refuses a.mask (offset_of a.offset) (table_of a.rows a.events a.start a.cells.now a.marks.now) a.scratch.now f.new.scratch f.result f.ensures.0 f.ensures.1 (ap not c.if-not-find_lengths.true)

pub overflow_cast-n : goal.overflow_cast-n
overflow_cast-n c = let a = c.args in
    let f = c.find_lengths in
    record { fits = omega (arith, small a.mask (offset_of a.offset) (table_of a.rows a.events a.start a.cells.now a.marks.now) a.scratch.now (works a.mask (offset_of a.offset) (table_of a.rows a.events a.start a.cells.now a.marks.now) a.scratch.now f.new.scratch f.result f.ensures.0 f.ensures.1 (ap not c.if-not-find_lengths.false))) }

pub fold_all-requires : goal.fold_all-requires
fold_all-requires c = let a = c.args in
    let f = c.find_lengths in
    room_after a.mask (offset_of a.offset) (table_of a.rows a.events a.start a.cells.now a.marks.now) a.scratch.now f.new.scratch f.result f.ensures.0 f.ensures.1 (ap not c.if-not-find_lengths.false)

pub returns : goal.returns
returns c = let a = c.args in
    let f = c.find_lengths in
    let left = (ap not c.if-not-find_lengths.false) in
    let all = c.fold_all in
    (sym (works a.mask (offset_of a.offset) (table_of a.rows a.events a.start a.cells.now a.marks.now) a.scratch.now f.new.scratch f.result f.ensures.0 f.ensures.1 left), folds-after a.mask (offset_of a.offset) (table_of a.rows a.events a.start a.cells.now a.marks.now) a.scratch.now f.new.scratch f.result f.ensures.0 f.ensures.1 left all.new.scratch c.clear.new.cells all.result all.ensures c.queue_at.ensures c.folds_at.ensures c.clear.ensures)
