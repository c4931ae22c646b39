-- What is left of tables that lie one after another, from a place of the list, a cell and a mark byte on.
use mathlib.Core.Path.{◌≡◌, sym, ap, ◌∙◌}
use mathlib.Core.List.{List, [], ◌∷◌}
use Prim.Native.Nat.{ℕ, ◌+◌, ◌*◌, ◌-◌, ◌≤◌, ◌<◌}
use native.Mathlib.Omega.{arith}
use lib.ListN.{length, get_or, take, drop}
use lib.Seq.{drop-drop}
use Rattle.tables.specs.Table.{Table, mark_byte_count}
use Rattle.tables.specs.Lists.{over}
use Rattle.tables.proofs.Over.{part_length, over_none}
use Rattle.rules.specs.Rules.{Verdict, sound, and_then, judged, table_of}
use Rattle.std.specs.Prelude.{Err}
use Rattle.rules.specs.declared.Refusal.{Refusal}
use Rattle.images.specs.declared.Form.TheVariants.{Radio}
use Rattle.image_rules.specs.Checks.{image_checks}
use Rattle.packs.specs.Pack.{tables_in, cells_needed, marks_needed, radio_images}
use Rattle.packs.proofs.Tables.{Laid}
use Rattle.packs.proofs.Threes.{table_at, total-next, tables-next, tables-none}
use Rattle.pack_rules.specs.Checks.{size_checks, tables_checks}
use Rattle.pack_rules.specs.Steps.{entry_at}
use Rattle.pack_rules.specs.declared.Entry.{Entry}
use Rattle.pack_rules.proofs.Sizes.{Sized, sizes_next, fine_sized}
use Rattle.pack_rules.proofs.Judged.{tables-judged}

-- The cells and mark bytes from here on are just those of the tables from here on.
pub record Left (list cells marks : List ℕ) (at cell mark : ℕ) : Type 0 where
  pub begun : at ≤ length list
  pub all_cells : cell + cells_needed (drop at list) ≡ length cells
  pub all_marks : mark + marks_needed (drop at list) ≡ length marks

-- At first all are left.
pub left-all : (list cells marks : List ℕ) → length cells ≡ cells_needed list → length marks ≡ marks_needed list → Left list cells marks 0 0 0
left-all list cells marks hc hm = record { begun = omega arith; all_cells = omega arith; all_marks = omega arith }

-- The tables that are left.
abbrev pub tables_left : List ℕ → List ℕ → List ℕ → ℕ → ℕ → ℕ → List Table
tables_left list cells marks at cell mark = tables_in (drop at list) (drop cell cells) (drop mark marks)

-- The first of them, in the parts of the cells and mark bytes that are lent.
abbrev pub table_here : List ℕ → List ℕ → ℕ → ℕ → Entry → Table
table_here cells marks cell mark t = table_of t.rows t.events t.start (take (cell + t.cells - cell) (drop cell cells)) (take (mark + t.marks - mark) (drop mark marks))

-- None is left: fewer than three entries are.
module _ {list cells marks : List ℕ} {at cell mark : ℕ} (l : Left list cells marks at cell mark) (h : length list < at + 3) where
  none_left : tables_left list cells marks at cell mark ≡ []
  none_left = tables-none list at h l.begun (drop cell cells) (drop mark marks)

  pub none-judged : judged (tables_checks (tables_left list cells marks at cell mark)) ≡ sound
  unfolding tables_checks
  none-judged = ap (λ (m : List Table). judged (tables_checks m)) none_left

  pub none_over : (d : List ℕ) (to : ℕ) → over d to (radio_images (tables_left list cells marks at cell mark)) ≡ d
  unfolding radio_images
  none_over d to = ap (λ (m : List Table). over d to (radio_images m)) none_left ∙ over_none d to

-- One table more, which is read at the place.
module _ {list cells marks : List ℕ} {at cell mark : ℕ} (l : Left list cells marks at cell mark) (h : at + 3 ≤ length list) (t : Entry) (read : t ≡ entry_at list at) where
  pub cells_fit : cell + t.cells ≤ length cells
  cells_fit = rw read (omega (arith, l.all_cells, total-next list at (λ r e. r * e) h))

  pub marks_fit : mark + t.marks ≤ length marks
  marks_fit = rw read (omega (arith, l.all_marks, total-next list at (λ r e. mark_byte_count r) h))

  pub left-next : Left list cells marks (at + 3) (cell + t.cells) (mark + t.marks)
  left-next = rw read record {
    begun = h;
    all_cells = omega (arith, l.all_cells, total-next list at (λ r e. r * e) h);
    all_marks = omega (arith, l.all_marks, total-next list at (λ r e. mark_byte_count r) h);
  }

  here : table_here cells marks cell mark t ≡ table_at list at (drop cell cells) (drop mark marks)
  here =
      let n : cell + t.cells - cell ≡ t.cells = omega arith in
      let k : mark + t.marks - mark ≡ t.marks = omega arith in
      rw (n, k, read)

  pub here_first : tables_left list cells marks at cell mark ≡ table_here cells marks cell mark t ∷ tables_left list cells marks (at + 3) (cell + t.cells) (mark + t.marks)
  here_first = rw (here, read) (simp drop-drop at (tables-next list at (drop cell cells) (drop mark marks) h))

  here_laid : Laid (table_here cells marks cell mark t)
  here_laid = rw here record { all_cells = part_length cells cell _ (rw read at cells_fit); all_marks = part_length marks mark _ (rw read at marks_fit) }

  -- With 1 and 2 kept, the image writer's checks of the first table are the next to judge.
  module _ (s : judged (size_checks (drop at list)) ≡ sound) where
    sizes : Sized t.rows t.events × (judged (size_checks (drop (at + 3) list)) ≡ sound)
    sizes = rw read (fine_sized (get_or list at 0) (get_or list (at + 1) 0) (size_checks (drop (at + 3) list)) (sym (ap judged (sizes_next list at h)) ∙ s))

    pub sizes-behind : judged (size_checks (drop (at + 3) list)) ≡ sound
    sizes-behind = sizes.1

    first-judged : judged (tables_checks (tables_left list cells marks at cell mark))
        ≡ and_then (judged (image_checks Radio (table_here cells marks cell mark t))) (judged (tables_checks (tables_left list cells marks (at + 3) (cell + t.cells) (mark + t.marks))))
    first-judged = ap (λ (m : List Table). judged (tables_checks m)) here_first ∙ tables-judged _ sizes.0 here_laid _

    module _ (v : Verdict) (e : v ≡ judged (image_checks Radio (table_here cells marks cell mark t))) where
      pub here-refused : (r : Refusal) → v ≡ Err r → Err r ≡ judged (tables_checks (tables_left list cells marks at cell mark))
      here-refused r g = sym (first-judged ∙ rw (sym e ∙ g))

      pub here-fine : v ≡ sound → judged (tables_checks (tables_left list cells marks (at + 3) (cell + t.cells) (mark + t.marks))) ≡ judged (tables_checks (tables_left list cells marks at cell mark))
      here-fine r = sym (first-judged ∙ rw (sym e ∙ r))
