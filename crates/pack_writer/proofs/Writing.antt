-- Images written one after another, each into the rest of the bytes; with the count before them they are the pack.
use mathlib.Core.Path.{◌≡◌, refl, sym, ap, ◌∙◌}
use mathlib.Core.List.{List, ◌++◌}
use Prim.Native.Nat.{ℕ, ◌+◌, ◌/◌, ◌≤◌, ◌<◌}
use native.Mathlib.Omega.{arith}
use lib.ListN.{length}
use Rattle.tables.specs.Table.{Table}
use Rattle.tables.specs.Lists.{over}
use Rattle.tables.proofs.Over.{over-over, over_then, over-length, rest, with_rest, rest-length, rest_over}
use Rattle.rules.specs.Rules.{Verdict, sound, judged, left_by}
use Rattle.std.specs.Prelude.{Ok, Err}
use Rattle.rules.specs.declared.Refusal.{Refusal}
use Rattle.images.specs.Image.{number, radio_image, length_of_image}
use Rattle.images.specs.declared.Form.TheVariants.{Radio}
use Rattle.images.proofs.Image.{image-length}
use Rattle.image_rules.specs.Checks.{Written, written_by}
use Rattle.image_writer.specs.Write.{write_checks, written_as, image_by, image_in_as}
use Rattle.image_writer.proofs.Writing.{write-fine}
use Rattle.packs.specs.Pack.{tables_in, cells_needed, marks_needed, pack, pack_length, radio_images, Every, Sendable}
use Rattle.packs.proofs.Threes.{total-next}
use Rattle.packs.proofs.Tables.{tables-count}
use Rattle.pack_rules.specs.Checks.{pack_checks}
use Rattle.pack_rules.specs.Steps.{entry_at}
use Rattle.pack_rules.specs.declared.Entry.{Entry}
use Rattle.pack_rules.proofs.Sums.{Summed, sum-next, sum_none}
use Rattle.pack_rules.proofs.Judged.{sendable_image}
use Rattle.pack_rules.proofs.Left.{Left, left-all, tables_left, table_here, none_over, left-next, here_first}
use Rattle.pack_rules.proofs.Accepted.{Accepted}
use Rattle.pack_writer.specs.Write.{packed_by, packed, pack_in}

-- The image of a table that can be sent, where there is room for it.
module _ (T : Table) (t : Sendable T) (b : List ℕ) (room : length_of_image Radio T.rows T.events ≤ length b) where
  fine : judged (write_checks Radio T (length b)) ≡ sound
  fine = write-fine Radio T (length b) (sendable_image T t) room

  pub sent_length : written_as Radio T (length b) ≡ Ok (length_of_image Radio T.rows T.events)
  unfolding written_as
  sent_length = ap (λ (v : Verdict). written_by Radio v T) fine

  pub sent_image : image_in_as Radio T b ≡ over b 0 (radio_image T)
  unfolding image_in_as
  sent_image = ap (λ (v : Verdict). image_by Radio v T b) fine

-- Where the writing stands: start were the bytes, out are they now, and the next image goes to a place of them.
pub record Going (list cells marks start out : List ℕ) (at cell mark to : ℕ) : Type 0 where
  -- The tables that are left can be sent.
  pub left : Left list cells marks at cell mark
  pub sendable : Every Sendable (tables_left list cells marks at cell mark)
  -- The place is behind the images so far, and there is room for all.
  pub bytes : Summed (length_of_image Radio) 2 list at to
  pub ample : pack_length list ≤ length start
  pub same : length out ≡ length start
  -- The images that are left bring the bytes to what all of them are to bring.
  pub brings : over out to (radio_images (tables_left list cells marks at cell mark)) ≡ over start 2 (radio_images (tables_in list cells marks))

-- At first all are left.
pub going_all : (list cells marks start : List ℕ) → length cells ≡ cells_needed list → length marks ≡ marks_needed list → Every Sendable (tables_in list cells marks) → pack_length list ≤ length start
    → Going list cells marks start start 0 0 0 2
going_all list cells marks start hc hm s room =
    record { left = left-all list cells marks hc hm; sendable = s; bytes = record { sum = refl }; ample = room; same = refl; brings = refl }

module _ {list cells marks start out : List ℕ} {at cell mark to : ℕ} (g : Going list cells marks start out at cell mark to) where
  -- No image more.
  pub going_none : length list < at + 3 → (to ≡ pack_length list) × (out ≡ over start 2 (radio_images (tables_in list cells marks)))
  going_none h = (sum_none g.bytes h g.left.begun, sym (none_over g.left h out to) ∙ g.brings)

  -- One image more: the table that is read at the place is written into the rest of the bytes.
  module _ (h : at + 3 ≤ length list) (t : Entry) (read : t ≡ entry_at list at) where
    all-sendable : Sendable (table_here cells marks cell mark t) × Every Sendable (tables_left list cells marks (at + 3) (cell + t.cells) (mark + t.marks))
    all-sendable = rw (here_first g.left h t read) at g.sendable

    within : to + length_of_image Radio t.rows t.events ≤ length out
    within = rw read (omega (arith, g.bytes.sum, total-next list at (length_of_image Radio) h, g.ample, g.same))

    roomy : length_of_image Radio t.rows t.events ≤ length (rest out to)
    roomy = omega (arith, within, rest-length out to)

    module _ (r : Written) (e : r ≡ written_as Radio (table_here cells marks cell mark t) (length (rest out to))) where
      answer : r ≡ Ok (length_of_image Radio t.rows t.events)
      answer = e ∙ sent_length (table_here cells marks cell mark t) all-sendable.0 (rest out to) roomy

      pub never-refused : {A : Type 0} (refusal : Refusal) → r ≡ Err refusal → A
      never-refused refusal f = let z : ◌≡◌ {A = ℕ} 0 1 = cc answer in absurd (omega arith)

      module _ (n : ℕ) (f : r ≡ Ok n) where
        as_long : n ≡ length_of_image Radio t.rows t.events
        as_long = cc answer

        pub ends-within : to + n ≤ length out
        ends-within = omega (arith, as_long, within)

        pub going_next : (b : List ℕ) → b ≡ image_in_as Radio (table_here cells marks cell mark t) (rest out to)
            → Going list cells marks start (with_rest out to b) (at + 3) (cell + t.cells) (mark + t.marks) (to + n)
        unfolding radio_images
        going_next b i =
            let T = table_here cells marks cell mark t in
            let more = radio_images (tables_left list cells marks (at + 3) (cell + t.cells) (mark + t.marks)) in
            let put : with_rest out to b ≡ over out to (radio_image T) = ap (with_rest out to) (i ∙ sent_image T all-sendable.0 (rest out to) roomy) ∙ rest_over out to (radio_image T) in
            let long : length (radio_image T) ≡ length_of_image Radio t.rows t.events = image-length Radio T all-sendable.0.0 all-sendable.0.1 in
            let fits : to + length (radio_image T) ≤ length out = omega (arith, within, long) in
            record {
              left = left-next g.left h t read;
              sendable = all-sendable.1;
              bytes = sum-next g.bytes h n (as_long ∙ ap (λ (u : Entry). length_of_image Radio u.rows u.events) read);
              ample = g.ample;
              same = ap length put ∙ over-length out to (radio_image T) fits ∙ g.same;
              brings = ap (λ (d : List ℕ). over d (to + n) more) put ∙ ap (λ (k : ℕ). over (over out to (radio_image T)) (to + k) more) (as_long ∙ sym long)
                  ∙ over-over out to (radio_image T) fits more ∙ ap (λ (m : List Table). over out to (radio_images m)) (sym (here_first g.left h t read)) ∙ g.brings;
            }

-- The count, and then the images, are the pack.
module _ {list cells marks : List ℕ} {room : ℕ} (a : Accepted list cells marks room) where
  pub count_then : (out counted exit : List ℕ) → 2 ≤ length out → counted ≡ over out 0 (number (length list / 3)) → exit ≡ over counted 2 (radio_images (tables_in list cells marks))
      → exit ≡ over out 0 (pack (tables_in list cells marks))
  count_then out counted exit h hc hx =
      let n : length list / 3 ≡ length (tables_in list cells marks) = omega (arith, tables-count list cells marks a.threes) in
      over_then out counted exit (number (length list / 3)) (radio_images (tables_in list cells marks)) 2 hc refl h hx
      ∙ ap (λ (k : ℕ). over out 0 (number k ++ radio_images (tables_in list cells marks))) n

-- The writer's two promises, from what its checks come to.
pub writes : (list cells marks out exit : List ℕ) (r : Written) (v : Verdict) → judged (pack_checks list cells marks (length out)) ≡ v → r ≡ packed_by v list
    → exit ≡ left_by v out (pack (tables_in list cells marks)) → (r ≡ packed list cells marks (length out)) × (exit ≡ pack_in list cells marks out)
unfolding packed pack_in
writes list cells marks out exit r v e hr hx =
    (hr ∙ ap (λ (u : Verdict). packed_by u list) (sym e), hx ∙ ap (λ (u : Verdict). left_by u out (pack (tables_in list cells marks))) (sym e))
