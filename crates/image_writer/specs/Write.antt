-- What the image writer checks, answers and leaves in the lent bytes.
use Rattle.std.specs.Prelude.{List, [], ◌∷◌, ◌++◌, ℕ, length, Ok, Err}
use Rattle.tables.specs.Table.{Table}
use Rattle.tables.specs.Lists.{over}
use Rattle.rules.specs.Rules.{Verdict, judged, room_rule}
use Rattle.images.specs.Image.{image_of, length_of_image}
use Rattle.images.specs.declared.Form.{Form}
use Rattle.images.specs.declared.Form.TheVariants.{Plain}
use Rattle.image_rules.specs.Checks.{Written, image_checks, written_by}

-- What is judged of the table, and then 7.
abbrev pub write_checks : Form → Table → ℕ → List Verdict
write_checks F T room = image_checks F T ++ (room_rule (length_of_image F T.rows T.events) room ∷ [])

-- What the writer answers, with room for so many bytes.
unfoldable pub written_as : Form → Table → ℕ → Written
written_as F T room = written_by F (judged (write_checks F T room)) T

abbrev pub image_by : Form → Verdict → Table → List ℕ → List ℕ
image_by F (Ok u) T out = over out 0 (image_of F T)
image_by F (Err r) T out = out

-- What it leaves in the lent bytes.
unfoldable pub image_in_as : Form → Table → List ℕ → List ℕ
image_in_as F T out = image_by F (judged (write_checks F T (length out))) T out

-- Document 01's image writer: rules 1 to 7, in number order.
abbrev pub written : Table → ℕ → Written
written T room = written_as Plain T room

abbrev pub image_in : Table → List ℕ → List ℕ
image_in T out = image_in_as Plain T out
