-- Going through the rows in line: the line is `met`, turn by turn, and in the end the numbering.
use mathlib.Core.Path.{◌≡◌, refl, sym, ap, subst, ◌∙◌}
use mathlib.Core.List.{List, [], ◌∷◌}
use Prim.Native.Nat.{ℕ, ◌+◌, ◌*◌, ◌≤◌, ◌<◌}
use native.Mathlib.Omega.{arith}
use native.Mathlib.Numerals.{add-one}
use lib.Dec.{eqb}
use lib.ListN.{length, get_or}
use Rattle.tables.specs.Lists.{tabulate, some, sift}
use Rattle.tables.specs.Table.{Table, Valid, machine, target_of}
use Rattle.tables.specs.Reduction.{met, numbering}
use Rattle.tables.proofs.Lists.{read_same, read_below, at_mem, mem_tabulate, tabulate-length, tabulate-same}
use Rattle.tables.proofs.Numbering.{met-stops, numbering_starts, numbering_same}
use Rattle.scratch.specs.Scratch.{cleared}
use Rattle.scratch.proofs.Cells.{cleared-length, cleared-before, cleared-behind, cleared_inside}
use Rattle.renumbering.specs.Renumber.{line, Numbered}
use Rattle.renumbering.specs.Line.{fold_row, line_in, next, Lined, Frame, Targets}
use Rattle.renumbering.proofs.Lines.{sift-length, frame_none, frame_then, folds_stay, line_fits, line_list}

-- A valid table's cells.
pub targets : (T : Table) → Valid T → Targets T.rows T.events T.cells
targets T v = record {
  some_row = v.some_row;
  rows_fit = v.rows_fit;
  some_event = v.some_event;
  events_fit = v.events_fit;
  all_cells = omega (arith, v.all_cells);
  inside = read_below T.cells T.rows v.some_row v.cells_in;
}

module _ (T : Table) (s : List ℕ) where
  -- the line after i rows of it have been gone through
  abbrev pub in_line : ℕ → List ℕ
  in_line i = met T.events (machine T) (fold_row T.rows s) i

  -- What has come of the scratch by then.
  pub record Gone (i c : ℕ) (t : List ℕ) : Type 0 where
    pub many : c ≡ length (in_line i)
    pub lined : Lined T.rows (in_line i) t
    pub frame : Frame T.rows c s t
    pub turns : i ≤ c
    pub few : c ≤ T.rows

module _ {T : Table} (v : Valid T) (s : List ℕ) where
  abbrev n : ℕ
  n = T.rows

  abbrev f : ℕ → ℕ
  f = fold_row n s

  -- The first row in line.
  pub gone-first : Lined n (f T.start ∷ []) s → Gone T s 0 1 s
  unfolding met
  gone-first g = record { many = refl; lined = g; frame = frame_none n 1 s; turns = omega arith; few = v.some_row }

  -- The row whose turn it is.
  row_there : {i c : ℕ} {t : List ℕ} → Gone T s i c t → i < c → {row : ℕ} → row ≡ get_or t (n + i) 0 → row ≡ get_or (in_line T s i) i (f T.start)
  row_there {i} {c} {t} h hi e = e ∙ h.lined.line i (omega (arith, h.many)) ∙ read_same (in_line T s i) i 0 (f T.start) (omega (arith, h.many))

  pub row_below : {i c : ℕ} {t : List ℕ} → Gone T s i c t → i < c → {row : ℕ} → row ≡ get_or t (n + i) 0 → row < n
  row_below {i} {c} {t} h hi e =
      subst (λ (x : ℕ). x < n) (sym (row_there h hi e)) (h.lined.rows _ (at_mem (in_line T s i) i (f T.start) (omega (arith, h.many))))

  -- One row more has been gone through.
  pub gone-next : {i c : ℕ} {t : List ℕ} → Gone T s i c t → i < c → {row r : ℕ} {u : List ℕ} → row ≡ get_or t (n + i) 0
      → r ≡ length (sift eqb (line_in n t c) (next T.cells t n T.events row)) → Lined n (sift eqb (line_in n t c) (next T.cells t n T.events row)) u
      → Frame n (length (sift eqb (line_in n t c) (next T.cells t n T.events row))) t u → Gone T s (i + 1) r u
  unfolding met
  gone-next {i} {c} {t} h hi {row} {r} {u} hrow hr hl hf =
      let list : line_in n t c ≡ in_line T s i = line_list n (in_line T s i) t h.lined c h.many in
      let ahead : next T.cells t n T.events row ≡ tabulate T.events (λ a. f (target_of T (get_or (in_line T s i) i (f T.start)) a))
      = tabulate-same T.events _ _ (λ a l. folds_stay h.frame h.few _ ((targets T v).inside _)
      ∙ ap (λ (x : ℕ). f (get_or T.cells (x * T.events + a) 0)) (row_there h hi hrow)) in
      let more : sift eqb (line_in n t c) (next T.cells t n T.events row) ≡ in_line T s (i + 1)
      = ap (λ (l : List ℕ). sift eqb l (next T.cells t n T.events row)) list ∙ ap (sift eqb (in_line T s i)) ahead ∙ ap (in_line T s) (sym (add-one i)) in
      let longer : c ≤ r = omega (arith, h.many, ap length list, sift-length eqb (next T.cells t n T.events row) (line_in n t c)) in
      let lined : Lined n (in_line T s (i + 1)) u = subst (λ (l : List ℕ). Lined n l u) more hl in
      record {
        many = hr ∙ ap length more;
        lined = lined;
        frame = frame_then h.frame (subst (λ (k : ℕ). Frame n k t u) (sym hr) hf) longer;
        turns = omega arith;
        few = omega (arith, hr, ap length more, line_fits n (in_line T s (i + 1)) u lined);
      }

  -- All that are met have been gone through.
  pub gone-all : {i c : ℕ} {t : List ℕ} → Gone T s i c t → c ≤ i → (c ≡ length (line T s)) × Numbered T s t
  unfolding line
  gone-all {i} {c} {t} h g =
      let all : in_line T s i ≡ numbering T.events (machine T) f
      = sym (met-stops T.events (machine T) f (tabulate n f) (mem_tabulate n f T.start v.start_inside)
      (λ x a hx ha. mem_tabulate n f (target_of T x a) ((targets T v).inside _)) (omega (arith, tabulate-length n f)) i (omega (arith, h.turns, h.few)) (omega (arith, h.many))) in
      let many = h.many ∙ ap length all in
      (many, (subst (λ (l : List ℕ). Lined n l t) all h.lined, subst (λ (k : ℕ). Frame n k s t) many h.frame))

  -- ---- before the first row

  -- With the numbers cleared, no row is in line, and rows fold as before.
  module _ (room : 4 * n ≤ length s) (t : List ℕ) (e : t ≡ cleared s (3 * n) (4 * n)) where
    size : length t ≡ length s
    size = ap length e ∙ cleared-length s (3 * n) (4 * n) (omega arith) room

    before : (k : ℕ) → k < 3 * n → get_or t k 0 ≡ get_or s k 0
    before k h = ap (λ (u : List ℕ). get_or u k 0) e ∙ cleared-before s (3 * n) (4 * n) (omega arith) room k h

    pub line-empty : Lined n (line_in n t 0) t
    unfolding some
    line-empty = record {
      room = omega (arith, size);
      apart = tt;
      rows = λ x h. absurd h;
      line = λ i h. absurd (omega arith);
      numbers = λ x h. ap (λ (u : List ℕ). get_or u (3 * n + x) 0) e ∙ cleared_inside s (3 * n) (4 * n) (omega arith) room (3 * n + x) (omega arith) (omega arith);
    }

    pub empty-frame : Frame n 0 s t
    empty-frame = record {
      size = size;
      leads = λ k h. before k (omega arith);
      rest = λ k h g. before k g;
      behind = λ k h. ap (λ (u : List ℕ). get_or u k 0) e ∙ cleared-behind s (3 * n) (4 * n) (omega arith) room k h;
    }

  -- The first row put in line, and behind it all that are met: rows fold as they did at first.
  module _ (t : List ℕ) (h : Frame n 0 s t) (x r : ℕ) (u w : List ℕ) (hx : x ≡ fold_row n t T.start)
      (lined : Lined n (sift eqb (line_in n t 0) (x ∷ [])) u) (frame : Frame n (length (sift eqb (line_in n t 0) (x ∷ []))) t u) where
    one : sift eqb (line_in n t 0) (x ∷ []) ≡ x ∷ []
    unfolding sift some
    one = refl

    frame-one : Frame n 1 t u
    frame-one = subst (λ (l : List ℕ). Frame n (length l) t u) one frame

    whole : Frame n 1 s u
    whole = frame_then h frame-one (omega arith)

    folds-first : (q : ℕ) → q < n → fold_row n u q ≡ f q
    folds-first q l = folds_stay whole (omega (arith, v.some_row)) q l

    pub first-there : Lined n (fold_row n u T.start ∷ []) u
    first-there =
        subst (λ (y : ℕ). Lined n (y ∷ []) u) (hx ∙ sym (folds_stay frame-one (omega (arith, v.some_row)) T.start v.start_inside)) (subst (λ (l : List ℕ). Lined n l u) one lined)

    same : line T u ≡ line T s
    unfolding line
    same = numbering_same T.events (machine T) (fold_row n u) f (λ q. Unit {0}) (folds-first T.start v.start_inside) tt
        (λ q a p b. folds-first (target_of T q a) ((targets T v).inside _)) (λ q a p b. tt)

    not-empty : 1 ≤ length (line T s)
    unfolding line
    not-empty = let m = numbering_starts T.events (machine T) f in omega (arith, ap length m.1)

    pub lines-all : r ≡ length (line T u) → Numbered T u w → (r ≡ length (line T s)) × Numbered T s w
    lines-all e p = (
      e ∙ ap length same,
      (subst (λ (l : List ℕ). Lined n l w) same p.0, frame_then whole (subst (λ (l : List ℕ). Frame n (length l) u w) same p.1) not-empty),
    )
