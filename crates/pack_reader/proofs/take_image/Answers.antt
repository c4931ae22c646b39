use mathlib.Core.Path.{ap, ap₂, ◌∙◌}
use mathlib.Core.Bool.{false}
use mathlib.Core.List.{List}
use Prim.Native.Nat.{ℕ}
use lib.ListN.{length, drop}
use Rattle.rules.specs.Rules.{winch}
use Rattle.tables.proofs.Over.{rest, rest_is, rest-length}
use Rattle.images.specs.Image.{cells_of, marks_of}
use Rattle.images.specs.declared.Form.TheVariants.{Radio}
use Rattle.image_sections.specs.Read.{any_rows}
use Rattle.image_reader.specs.Read.{read_in_form}
use Rattle.pack_reader.specs.Walk.{part_from}
use Rattle.pack_reader.proofs.Reading.{rest_from, cells_part, marks_part}
use Rattle.pack_reader.proofs.take_image.Goals as goal

pub returns : goal.returns
returns c = let a = c.args in
    let image = a.pack.now in
    let given = a.cells.now in
    let bytes = a.marks.now in
    let b = drop a.at image in
    let f = c.read_form in
    let w = f.ensures in
    let same = rest_is image a.at in (
      w.0 ∙ ap (λ (l : List ℕ). read_in_form false Radio winch any_rows l (length (rest given a.c)) (length (rest bytes a.m))) same
          ∙ ap₂ (read_in_form false Radio winch any_rows b) (rest-length given a.c) (rest-length bytes a.m),
      rest_from given a.c f.result (λ rows events. cells_of Radio b rows events) _
          (w.1 ∙ cells_part f.result (rest image a.at) (rest given a.c) ∙ ap (λ (l : List ℕ). part_from f.result (λ rows events. cells_of Radio l rows events) (rest given a.c) 0) same),
      rest_from bytes a.m f.result (λ rows events. marks_of b rows) _
          (w.2 ∙ marks_part f.result (rest image a.at) (rest bytes a.m) ∙ ap (λ (l : List ℕ). part_from f.result (λ rows events. marks_of l rows) (rest bytes a.m) 0) same),
    )
