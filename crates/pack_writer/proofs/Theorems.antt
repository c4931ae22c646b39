-- What an accepted call of the pack writer leaves, and which calls it accepts.
use mathlib.Core.Path.{◌≡◌, refl, ap, ◌∙◌}
use mathlib.Core.List.{List}
use Prim.Native.Nat.{ℕ, ◌+◌, ◌≤◌, ◌<◌}
use native.Mathlib.Omega.{arith}
use lib.ListN.{length, get_or, take}
use Rattle.tables.specs.Table.{Table}
use Rattle.tables.specs.Lists.{over}
use Rattle.tables.proofs.Over.{take-over}
use Rattle.rules.specs.Rules.{Verdict, sound, judged, left_by}
use Rattle.std.specs.Prelude.{Ok, Err}
use Rattle.images.specs.Image.{length_of_image}
use Rattle.images.specs.declared.Form.TheVariants.{Radio}
use Rattle.packs.specs.Pack.{tables_in, list_of, cells_of, marks_of, total, pack, pack_length, Every, Sendable}
use Rattle.packs.proofs.Tables.{list_length, cells_length, marks_length, tables_back, list_back, cells_back, marks_back, tables-count}
use Rattle.packs.proofs.Images.{sendable_laid, images_length}
use Rattle.pack_rules.specs.Checks.{pack_checks}
use Rattle.pack_rules.proofs.Judged.{fine_sendable, sendable_sizes, sendable_tables}
use Rattle.pack_rules.proofs.Accepted.{fine_accepted, accepted_fine}
use Rattle.pack_writer.specs.Write.{packed_by, packed, pack_in}

-- Bytes that are the pack of 1 to 16 tables which can be sent, and the list, the cells and the mark bytes in which those lie one after another.
pub record Packs (Ts : List Table) (bytes list cells marks : List ℕ) : Type 0 where
  pub sendable : Every Sendable Ts
  pub some : 1 ≤ length Ts
  pub few : length Ts ≤ 16
  pub all_bytes : bytes ≡ pack Ts
  pub all_list : list_of Ts ≡ list
  pub all_cells : cells_of Ts ≡ cells
  pub all_marks : marks_of Ts ≡ marks

module _ (list cells marks : List ℕ) (bytes : (i : ℕ) → get_or marks i 0 < 256) (out : List ℕ) (n : ℕ) where
  fine : (v : Verdict) → packed_by v list ≡ Ok n → (v ≡ sound) × (n ≡ pack_length list)
  fine (Ok u) e = (refl, cc)
  fine (Err r) e = let z : ◌≡◌ {A = ℕ} 0 1 = cc in absurd (omega arith)

  -- A written pack, as many bytes as the writer answers, is that of the tables which were passed to it, and they can be sent.
  pub written-pack : packed list cells marks (length out) ≡ Ok n → Packs (tables_in list cells marks) (take n (pack_in list cells marks out)) list cells marks
  unfolding packed pack_in
  written-pack e =
      let Ts = tables_in list cells marks in
      let f = fine (judged (pack_checks list cells marks (length out))) e in
      let a = fine_accepted list cells marks (length out) f.0 in
      let s = fine_sendable list cells marks a.sizes a.all_cells a.all_marks a.tables bytes in
      let same = list_back list cells marks a.threes in
      let count = tables-count list cells marks a.threes in
      let long : length (pack Ts) ≡ pack_length list = omega (arith, images_length Ts s, ap (total (length_of_image Radio)) same) in
      let all : n ≡ 0 + length (pack Ts) = omega (arith, f.1, long) in
      record {
        sendable = s;
        some = omega (arith, count, a.some);
        few = omega (arith, count, a.few);
        all_bytes = ap (λ (v : Verdict). take n (left_by v out (pack Ts))) f.0 ∙ ap (λ (k : ℕ). take k (over out 0 (pack Ts))) all
            ∙ take-over out 0 (pack Ts) (omega (arith, long, a.ample));
        all_list = same;
        all_cells = cells_back list cells marks a.all_cells;
        all_marks = marks_back list cells marks a.all_marks;
      }

module _ (Ts : List Table) (sendable : Every Sendable Ts) (some : 1 ≤ length Ts) (few : length Ts ≤ 16) (room : ℕ) (ample : pack_length (list_of Ts) ≤ room) where
  back : tables_in (list_of Ts) (cells_of Ts) (marks_of Ts) ≡ Ts
  back = tables_back Ts (sendable_laid Ts sendable)

  accepted : judged (pack_checks (list_of Ts) (cells_of Ts) (marks_of Ts) room) ≡ sound
  accepted =
      let laid = sendable_laid Ts sendable in
      let size = list_length Ts in
      accepted_fine (list_of Ts) (cells_of Ts) (marks_of Ts) room record {
        some = omega arith;
        few = omega arith;
        sizes = sendable_sizes Ts sendable;
        threes = omega arith;
        all_cells = cells_length Ts laid;
        all_marks = marks_length Ts laid;
        tables = rw back (sendable_tables Ts sendable);
        ample = ample;
      }

  -- Any 1 to 16 tables that can be sent are taken where there is room, and their pack is written from the front.
  pub accepts_pack : (packed (list_of Ts) (cells_of Ts) (marks_of Ts) room ≡ Ok (pack_length (list_of Ts)))
      × ((out : List ℕ) → length out ≡ room → pack_in (list_of Ts) (cells_of Ts) (marks_of Ts) out ≡ over out 0 (pack Ts))
  unfolding packed pack_in
  accepts_pack = (
    ap (λ (v : Verdict). packed_by v (list_of Ts)) accepted,
    λ out long. rw (long, accepted, back),
  )
