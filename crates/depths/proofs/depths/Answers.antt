use native.Mathlib.Omega.{arith}
use mathlib.Core.Path.{refl}
use mir.Syntax.{w8}
use mir.Val.{Fits}
use Prim.Native.Nat.{ℕ}
use lib.ListN.{get_or}
use Rattle.rules.specs.Rules.{table_of}
use Rattle.depths.proofs.Found.{Ready, ready}
use Rattle.depths.proofs.Plumbed.{plumbed-refused, plumbed_done, plumbed_lent}
use Rattle.depths.proofs.depths.Goals as goal
use Rattle.depths.proofs.depths.Goals.{After-pair_cells-at}

-- What is known of a table that can be worked on.
known : (c : After-pair_cells-at) → let a = c.args in ((i : ℕ) → Fits w8 (get_or a.marks.now i 0)) →
    Ready (table_of a.rows a.events a.start a.cells.now a.marks.now) a.scratch.now c.pair_cells-at.result
known c bytes = let a = c.args in
    ready (table_of a.rows a.events a.start a.cells.now a.marks.now) a.scratch.now bytes c.workable.ensures c.if-not-workable.false c.pair_cells-at.ensures

pub returns-then-not-workable : goal.returns-then-not-workable
returns-then-not-workable c = let a = c.args in
    plumbed-refused a.mask (table_of a.rows a.events a.start a.cells.now a.marks.now) a.scratch.now c.workable.ensures c.if-not-workable.true

pub overflow_cast-rows : goal.overflow_cast-rows
overflow_cast-rows c = let a = c.args in
    let r = ready (table_of a.rows a.events a.start a.cells.now a.marks.now) a.scratch.now c.type_inv.marks c.workable.ensures c.if-not-workable.false refl in
    omega (arith, r.space.rows_fit)

pub overflow_cast-rows-2 : goal.overflow_cast-rows-2
overflow_cast-rows-2 c = omega (arith, (known (goal.at.overflow_cast-rows-2 c).After-pair_cells-at c.type_inv.marks).space.rows_fit)

pub overflow_cast-events : goal.overflow_cast-events
overflow_cast-events c = omega (arith, (known (goal.at.overflow_cast-events c).After-pair_cells-at c.type_inv.marks).events_fit)

pub overflow_cast-start : goal.overflow_cast-start
overflow_cast-start c = let r = known (goal.at.overflow_cast-start c).After-pair_cells-at c.type_inv.marks in
    omega (arith, r.start_inside, r.space.rows_fit)

pub offset_bounds-scratch-at : goal.offset_bounds-scratch-at
offset_bounds-scratch-at c = omega (arith, (known (goal.at.offset_bounds-scratch-at c).After-pair_cells-at c.type_inv.marks).from)

pub slice_bounds-search-count : goal.slice_bounds-search-count
slice_bounds-search-count c = (known (goal.at.slice_bounds-search-count c).After-pair_cells-at c.type_inv.marks).from

pub slice_bounds-search-start : goal.slice_bounds-search-start
slice_bounds-search-start c = omega (arith, (known (goal.at.slice_bounds-search-start c).After-pair_cells-at c.type_inv.marks).from)

pub search-requires : goal.search-requires
search-requires c = let r = known (goal.at.search-requires c).After-pair_cells-at c.type_inv.marks in
    (r.space, r.start_inside)

pub returns : goal.returns
returns c = let a = c.args in
    plumbed_done a.mask (table_of a.rows a.events a.start a.cells.now a.marks.now) a.scratch.now c.workable.ensures c.if-not-workable.false
    (plumbed_lent a.mask (table_of a.rows a.events a.start a.cells.now a.marks.now) a.scratch.now c.pair_cells-at.ensures (c.search.ensures a.marks.now))
