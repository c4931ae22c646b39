-- What a program that filters its input has done when it has not failed.
use Rattle.std.specs.Prelude.{List, ℕ, ◌<◌, length, take, Option}
use Rattle.std.specs.Io.KnownBytes.{Consumes, IsAtEnd, Appends}

-- It took bytes from the front of the input, to its end or just 65,536 of them, and appended the text for these, or its first 65,536 bytes.
abbrev pub Filters : (List ℕ → List ℕ) → Option (List ℕ) → Option (List ℕ) → Option (List ℕ) → Type 0
Filters text given before after =
    (bytes : List ℕ) × (left : Option (List ℕ)) × Consumes given left bytes × (length bytes < 65536 → IsAtEnd left) × Appends before after (take 65536 (text bytes))
