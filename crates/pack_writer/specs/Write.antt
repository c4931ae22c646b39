-- What the pack writer answers and leaves in the lent bytes.
use Rattle.std.specs.Prelude.{List, ℕ, length, Ok, Err}
use Rattle.rules.specs.Rules.{Verdict, judged, left_by}
use Rattle.image_rules.specs.Checks.{Written}
use Rattle.packs.specs.Pack.{tables_in, pack, pack_length}
use Rattle.pack_rules.specs.Checks.{pack_checks}

-- The answer: the pack's length, or the refusal.
abbrev pub packed_by : Verdict → List ℕ → Written
packed_by (Ok u) list = Ok (pack_length list)
packed_by (Err r) list = Err r

-- What the writer answers, with room for so many bytes.
unfoldable pub packed : List ℕ → List ℕ → List ℕ → ℕ → Written
packed list cells marks room = packed_by (judged (pack_checks list cells marks room)) list

-- What it leaves in the lent bytes.
unfoldable pub pack_in : List ℕ → List ℕ → List ℕ → List ℕ → List ℕ
pack_in list cells marks out = left_by (judged (pack_checks list cells marks (length out))) out (pack (tables_in list cells marks))
