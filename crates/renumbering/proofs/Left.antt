-- The table that is left, as it stands in scratch and is read off it.
use mathlib.Core.Path.{◌≡◌, refl, sym, ap, ◌∙◌}
use mathlib.Core.Bool.{Bool, true, false, ◌&&◌}
use mathlib.Core.List.{List, [], ◌∷◌, map}
use Prim.Native.Nat.{ℕ, ◌+◌, ◌-◌, ◌*◌, ◌/◌, ◌%◌, ◌≤◌, ◌<◌}
use native.Mathlib.Nat.{mod-lt, mul-le-mul, mul-le-mul_right, div-lt_iff_lt-mul}
use native.Mathlib.Omega.{arith}
use borrow.Author.Tests.{lt-ltb, le-leb, lt-leb}
use lib.Dec.{leb}
use lib.ListN.{length, get_or}
use Rattle.automata.proofs.Lists.{Mem}
use Rattle.automata.proofs.Tests.{clash}
use Rattle.tables.specs.Lists.{tabulate, place, over}
use Rattle.tables.specs.Table.{Table, Valid, mark_of, mark_byte_count, machine, target_of, pack}
use Rattle.tables.specs.Reduction.{number, renumbered}
use Rattle.tables.proofs.Lists.{at_mem, mem_some, mem_tabulate, tabulate-length, tabulate-same}
use Rattle.tables.proofs.Numbering.{numbering-closed}
use Rattle.scratch.specs.Scratch.{workable_in}
use Rattle.renumbering.specs.Renumber.{line, left, Numbered, roomy, new_rows, new_cells, new_marks, NewScratch}
use Rattle.renumbering.specs.Line.{fold_row, line_in, Lined, target_of_new, mark_of_new}
use Rattle.renumbering.proofs.Lines.{folds_stay, line_fits, line_again}
use Rattle.renumbering.proofs.Lining.{targets}

map-tabulate : (g : ℕ → ℕ) (l : List ℕ) → map g l ≡ tabulate (length l) (λ i. g (get_or l i 0))
unfolding tabulate
map-tabulate g [] = refl
map-tabulate g (x ∷ l) = ap (λ (m : List ℕ). g x ∷ m) (map-tabulate g l)

pub left-rows : (T : Table) (s : List ℕ) → (left T s).rows ≡ length (line T s)
unfolding left renumbered line
left-rows T s = refl

-- The line and the numbers stand in scratch.
module _ (T : Table) (v : Valid T) (s t : List ℕ) (g : Numbered T s t) (count : ℕ) (hc : count ≡ length (line T s)) where
  abbrev n : ℕ
  n = T.rows

  abbrev l : List ℕ
  l = line T s

  short : length l ≤ n
  short = line_fits n l t g.0

  pub lined_count : count ≤ n
  lined_count = omega (arith, short)

  pub lined_again : Lined n (line_in n t count) t
  lined_again = line_again n l t g.0 count hc

  folds_same : (q : ℕ) → q < n → fold_row n t q ≡ fold_row n s q
  folds_same = folds_stay g.1 short

  -- The rows into which targets fold are in line.
  closed : (x a : ℕ) → Mem x l → a < T.events → Mem (fold_row n s (target_of T x a)) l
  unfolding line
  closed = numbering-closed T.events (machine T) (fold_row n s) (tabulate n (fold_row n s)) (mem_tabulate n (fold_row n s) T.start v.start_inside)
      (λ x a hx ha. mem_tabulate n (fold_row n s) (target_of T x a) ((targets T v).inside _)) (omega (arith, tabulate-length n (fold_row n s)))

  -- The number of a row in line.
  pub line-number : (x : ℕ) → Mem x l → get_or t (3 * n + x) 0 - 1 ≡ place x l
  line-number x h = ap (λ (k : ℕ). k - 1) (g.0.numbers x (g.0.rows x h)) ∙ rw (mem_some x l h) (omega arith)

  -- The targets and marks that are read off.
  pub left_cells : tabulate (count * T.events) (target_of_new T.cells n T.events t) ≡ (left T s).cells
  unfolding left renumbered number line
  left_cells =
      ap (λ (k : ℕ). tabulate (k * T.events) (target_of_new T.cells n T.events t)) hc ∙ tabulate-same (length l * T.events) _ _ (λ c h.
      let i : c / T.events < length l = (div-lt_iff_lt-mul {k = T.events} v.some_event).1 h in
      let a : c % T.events < T.events = mod-lt c v.some_event in
      let to : ℕ = target_of T (get_or l (c / T.events) 0) (c % T.events) in
      ap (λ (x : ℕ). get_or t (3 * n + fold_row n t (get_or T.cells (x * T.events + c % T.events) 0)) 0 - 1) (g.0.line (c / T.events) i)
      ∙ ap (λ (x : ℕ). get_or t (3 * n + x) 0 - 1) (folds_same to ((targets T v).inside _))
      ∙ line-number (fold_row n s to) (closed (get_or l (c / T.events) 0) (c % T.events) (at_mem l (c / T.events) 0 i) a))

  pub left_marks : pack (tabulate count (mark_of_new T.marks n t count)) ≡ (left T s).marks
  unfolding left renumbered line
  left_marks =
      ap pack (tabulate-same count (mark_of_new T.marks n t count) (λ i. mark_of T.marks (get_or l i 0)) (λ i h.
      rw (lt-ltb i count h) (ap (mark_of T.marks) (g.0.line i (omega arith))))
      ∙ ap (λ (k : ℕ). tabulate k (λ i. mark_of T.marks (get_or l i 0))) hc ∙ sym (map-tabulate (mark_of T.marks) l))

  -- The new cells are no more than the given ones.
  pub total_fits : (count * T.events ≤ n * T.events) × (count * T.events ≤ 32768)
  total_fits =
      let rows : count ≤ 1024 = omega (arith, lined_count, v.rows_fit) in
      (mul-le-mul_right T.events lined_count, mul-le-mul rows v.events_fit)

-- ---- with room or without

and_no : (b : Bool) → (b && false) ≡ false
and_no true = refl
and_no false = refl

module _ (T : Table) (s cells marks : List ℕ) where
  abbrev works : Bool
  works = workable_in (λ n. 4 * n) T (length s)

  abbrev Left : ℕ → List ℕ → List ℕ → List ℕ → Type 0
  Left r t c m = (r ≡ new_rows T s cells marks) × NewScratch T s cells marks t × (c ≡ new_cells T s cells marks) × (m ≡ new_marks T s cells marks)

  -- No room: the answer is 0, and all is as it was.
  pub no_room : roomy T s cells marks ≡ false → Left 0 s cells marks
  unfolding new_rows new_cells new_marks
  no_room e = rw e (refl, record { numbered = λ h. clash h e; unchanged = λ h. refl }, refl, refl)

  pub has_room : roomy T s cells marks ≡ true → {r : ℕ} {t c m : List ℕ} → r ≡ (left T s).rows → Numbered T s t → c ≡ over cells 0 (left T s).cells
      → m ≡ over marks 0 (left T s).marks → Left r t c m
  unfolding new_rows new_cells new_marks
  has_room e hr ht hc hm = rw e (hr, record { numbered = λ h. ht; unchanged = λ h. clash e h }, hc, hm)

  pub not-workable : works ≡ false → roomy T s cells marks ≡ false
  unfolding roomy
  not-workable e = rw e

  pub scratch_short : works ≡ leb (4 * T.rows) (length s) → length s < 4 * T.rows → roomy T s cells marks ≡ false
  scratch_short e h = not-workable (e ∙ lt-leb (4 * T.rows) (length s) h)

  pub cells_short : length cells < T.rows * T.events → roomy T s cells marks ≡ false
  unfolding roomy
  cells_short h = rw (lt-leb (T.rows * T.events) (length cells) h) (and_no works)

  pub marks_short : length marks < mark_byte_count T.rows → roomy T s cells marks ≡ false
  unfolding roomy
  marks_short h = rw (lt-leb (mark_byte_count T.rows) (length marks) h, and_no (leb (T.rows * T.events) (length cells))) (and_no works)

  pub all_room : works ≡ true → T.rows * T.events ≤ length cells → mark_byte_count T.rows ≤ length marks → roomy T s cells marks ≡ true
  unfolding roomy
  all_room e f g = rw (e, le-leb (T.rows * T.events) (length cells) f, le-leb (mark_byte_count T.rows) (length marks) g)

  -- So the call tells the table that is left.
  pub room-told : roomy T s cells marks ≡ true → {r : ℕ} {t c m : List ℕ} → r ≡ new_rows T s cells marks → NewScratch T s cells marks t → c ≡ new_cells T s cells marks
      → m ≡ new_marks T s cells marks → (r ≡ (left T s).rows) × Numbered T s t × (c ≡ over cells 0 (left T s).cells) × (m ≡ over marks 0 (left T s).marks)
  unfolding new_rows new_cells new_marks
  room-told e hr ht hc hm = (hr ∙ rw e, ht.numbered e, hc ∙ rw e, hm ∙ rw e)
