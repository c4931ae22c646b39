-- The reduced table: it is valid, has as many rows as are kept, agrees with the given one, and none that agrees has fewer.
use mathlib.Core.Path.{◌≡◌, refl, sym, ap, subst, ◌∙◌}
use mathlib.Core.List.{List, [], ◌∷◌, map}
use Prim.Native.Nat.{ℕ, zero, suc, ◌+◌, ◌*◌, ◌/◌, ◌%◌, ◌≤◌, ◌<◌}
use native.Mathlib.Nat.{div-lt_iff_lt-mul, mod-lt}
use native.Mathlib.Omega.{arith}
use lib.Arith.{digits_lt, digits_div, digits_mod}
use lib.ListN.{length, get_or, length-map, get_or-eq_default}
use Rattle.automata.specs.Runs.{Events, Machine, Sound, Light, Run, after, shows, AgreeFrom}
use Rattle.tables.specs.Lengths.{depth}
use Rattle.automata.proofs.Lists.{Mem, few}
use Rattle.automata.proofs.Runs.{stay, event, ◌then◌, less, near_sym}
use Rattle.automata.proofs.Folding.{Folding, folded, fold_agrees, kept_met, fewest}
use Rattle.tables.specs.Table.{Table, Valid, mark_byte_count, mark_of, target_of, machine, events_of, offset}
use Rattle.tables.specs.Reduction.{kept, fold, numbering, number, renumbered, reduced}
use Rattle.tables.proofs.Lists.{tabulate-length, tabulate-at, at_mem, place_in, place_at}
use Rattle.tables.proofs.Marks.{mark_small, pack-length, pack_mark, pack_bytes}
use Rattle.tables.proofs.Folds.{kept_order, folding}
use Rattle.tables.proofs.Numbering.{Closed, numbering_starts, numbering-closed, kept-numbered, numbering-length}

-- A valid table over as many events is a sound machine.
pub sound_of : (weight : ℕ → ℕ) (T N : Table) → N.events ≡ T.events → Valid N → Sound (events_of weight T) (machine N)
sound_of weight T N e v = record {
  start_inside = v.start_inside;
  target_inside = λ q a hq ha. v.cells_in (q * N.events + a) (subst (λ (n : ℕ). q * N.events + a < n) (sym v.all_cells) (digits_lt hq (omega arith)));
}

-- A list of marks read anywhere, also beyond its end.
marks_small : (T : Table) (l : List ℕ) (i : ℕ) → get_or (map (machine T).mark l) i 0 < 2
marks_small T [] i = omega arith
marks_small T (x ∷ l) zero = omega (arith, mark_small T.marks x)
marks_small T (x ∷ l) (suc i) = marks_small T l i

mark_at_lem : (T : Table) (l : List ℕ) (i : ℕ) → i < length l → get_or (map (machine T).mark l) i 0 ≡ (machine T).mark (get_or l i 0)
mark_at_lem T [] i h = absurd (omega arith)
mark_at_lem T (x ∷ l) zero h = refl
mark_at_lem T (x ∷ l) (suc i) h = mark_at_lem T l i (omega arith)

module _ (weight : ℕ → ℕ) (light : (a : ℕ) → weight a ≤ 1) (T : Table) (v : Valid T) (k : ℕ) where
  abbrev E : Events
  E = events_of weight T

  abbrev M : Machine
  M = machine T

  abbrev f : ℕ → ℕ
  f = fold E M (offset k)

  abbrev rows : List ℕ
  rows = numbering E.count M f

  abbrev T' : Table
  T' = reduced weight (offset k) T

  s : Sound E M
  s = sound_of weight T T refl v

  z : Light E
  z = record { at_most = light }

  F : Folding E M (depth E M) k (kept E M (offset k)) f
  F = folding s z k

  -- ---- what is kept

  start_kept : Mem (f M.start) (kept E M (offset k))
  start_kept = F.fold_kept M.start (stay M.start)

  next_kept : Closed E.count M f (kept E M (offset k))
  next_kept x a h ha = F.fold_kept (M.target x a) (less (omega arith) (F.kept_reach x h then event x a ha))

  kept_fits : length (kept E M (offset k)) ≤ M.rows
  kept_fits = few (kept E M (offset k)) M.rows F.distinct (λ q h. (kept_order s z k q h).0)

  -- Every kept row is met, so the new row count is the number of kept rows.
  pub kept_in : (q : ℕ) → Mem q (kept E M (offset k)) → Mem q rows
  kept_in = kept-numbered E.count M f (kept E M (offset k)) start_kept next_kept kept_fits weight (kept_met F)

  pub count_kept : T'.rows ≡ length (kept E M (offset k))
  unfolding reduced renumbered
  count_kept = numbering-length E.count M f (kept E M (offset k)) start_kept next_kept kept_fits weight (kept_met F) F.distinct

  closed : Closed E.count M f rows
  closed = numbering-closed E.count M f (kept E M (offset k)) start_kept next_kept kept_fits

  -- ---- the new cells and marks

  some_row : 0 < length rows
  some_row = omega (arith, ap length (numbering_starts E.count M f).1)

  cell_at : (c : ℕ) → c < length rows * T.events → get_or T'.cells c 0 ≡ number E.count M f (M.target (get_or rows (c / T.events) 0) (c % T.events))
  unfolding reduced renumbered
  cell_at c h = tabulate-at (length rows * T.events) _ c 0 h

  target_mem : (i a : ℕ) → i < length rows → a < T.events → Mem (f (M.target (get_or rows i 0) a)) rows
  target_mem i a hi ha = closed (get_or rows i 0) a (at_mem rows i 0 hi) ha

  target_at_lem : (i a : ℕ) → i < length rows → a < T.events → target_of T' i a ≡ number E.count M f (M.target (get_or rows i 0) a)
  unfolding reduced renumbered
  target_at_lem i a hi ha = cell_at (i * T.events + a) (digits_lt hi ha) ∙ rw (digits_div i ha, digits_mod i ha)

  target_row : (i a : ℕ) → i < length rows → a < T.events → get_or rows (target_of T' i a) 0 ≡ f (M.target (get_or rows i 0) a)
  unfolding number
  target_row i a hi ha = ap (λ (x : ℕ). get_or rows x 0) (target_at_lem i a hi ha) ∙ place_at (f (M.target (get_or rows i 0) a)) rows (target_mem i a hi ha)

  cell_in : (c : ℕ) → c < length rows * T.events → get_or T'.cells c 0 < length rows
  unfolding number
  cell_in c h =
      let m : 0 < T.events = v.some_event in
      let hi : c / T.events < length rows = (div-lt_iff_lt-mul m).1 h in
      subst (λ (x : ℕ). x < length rows) (sym (cell_at c h))
      (place_in (f (M.target (get_or rows (c / T.events) 0) (c % T.events))) rows (target_mem (c / T.events) (c % T.events) hi (mod-lt c m)))

  marks_at : (r : ℕ) → mark_of T'.marks r ≡ get_or (map M.mark rows) r 0
  unfolding reduced renumbered
  marks_at r = pack_mark (map M.mark rows) (marks_small T rows) r

  -- ---- theorem a, first part
  pub reduced_valid : Valid T'
  unfolding reduced renumbered
  reduced_valid = record {
    some_row = some_row;
    rows_fit = omega (arith, count_kept, kept_fits, v.rows_fit);
    some_event = v.some_event;
    events_fit = v.events_fit;
    all_cells = tabulate-length (length rows * T.events) _;
    all_marks = pack-length (map M.mark rows) ∙ ap mark_byte_count (length-map rows M.mark);
    start_inside = some_row;
    cells_in = λ i h. cell_in i (subst (λ (n : ℕ). i < n) (tabulate-length (length rows * T.events) _) h);
    spare_clear = λ r h. marks_at r ∙ get_or-eq_default (map M.mark rows) 0 (subst (λ (n : ℕ). n ≤ r) (sym (length-map rows M.mark)) h);
    bytes = pack_bytes (map M.mark rows) (marks_small T rows);
  }

  -- ---- the new table follows the folded machine
  record At (i x : ℕ) : Type 0 where
    inside : i < length rows
    row : get_or rows i 0 ≡ x

  at_next : (i x a : ℕ) → a < T.events → At i x → At (target_of T' i a) (f (M.target x a))
  unfolding reduced renumbered
  at_next i x a ha p = record {
    inside = cell_in (i * T.events + a) (digits_lt p.inside ha);
    row = target_row i a p.inside ha ∙ ap (λ (y : ℕ). f (M.target y a)) p.row;
  }

  at_after : (w : List ℕ) (i x : ℕ) → Run E w → At i x → At (after (machine T') i w) (after (folded M f) x w)
  at_after [] i x hw p = p
  at_after (a ∷ w) i x hw p = at_after w (target_of T' i a) (f (M.target x a)) hw.1 (at_next i x a hw.0 p)

  at_start : At T'.start (f M.start)
  unfolding reduced renumbered
  at_start = record { inside = some_row; row = ap (λ (l : List ℕ). get_or l 0 0) (numbering_starts E.count M f).1 }

  shows-folded : (w : List ℕ) → Run E w → shows (machine T') w ≡ shows (folded M f) w
  shows-folded w hw =
      let p = at_after w T'.start (f M.start) hw at_start in
      marks_at (after (machine T') T'.start w) ∙ mark_at_lem T rows (after (machine T') T'.start w) p.inside ∙ ap M.mark p.row

  -- theorem a, second part
  pub reduced_agrees : AgreeFrom E k M (machine T')
  reduced_agrees = record { same = λ w hw hl. (fold_agrees F).same w hw hl ∙ sym (shows-folded w hw) }

  -- theorem b
  pub reduced_fewest : (N : Table) → Valid N → N.events ≡ T.events → AgreeFrom E k M (machine N) → T'.rows ≤ N.rows
  reduced_fewest N n e agree = omega (arith, count_kept, fewest F (machine N) (sound_of weight T N e n) (near_sym agree))
