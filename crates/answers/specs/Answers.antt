-- Answers as four numbers, for C: 0 and the values of success, or the number of the rule broken and the place; the others are 0.
use Rattle.std.specs.Prelude.{cond, List, [], ◌∷◌, ℕ, ltb, Result, Ok, Err}
use Rattle.tables.specs.Table.{Offset, offset, none}
use Rattle.rules.specs.Rules.{Verdict, number_of}
use Rattle.rules.specs.declared.Refusal.{Refusal}
use Rattle.last_run_rules.specs.declared.Told.{Told}
use Rattle.ordering.specs.declared.Order.{Order}
use Rattle.ordering.specs.declared.Order.TheVariants as order
use Rattle.image_sections.specs.declared.Shape.{Shape}

abbrev pub four : ℕ → ℕ → ℕ → ℕ → List ℕ
four a b c d = a ∷ b ∷ c ∷ d ∷ []

abbrev pub of_refusal : Refusal → List ℕ
of_refusal r = four (number_of r.rule) r.place 0 0

-- A length or a number of tables or of rows, a table's rows, events and start, a distance and a run's length, which of two tables comes first (0 the first, 1 neither, 2 the second), or nothing but that all is fine.
abbrev pub of_count : Result ℕ Refusal → List ℕ
of_count (Ok n) = four 0 n 0 0
of_count (Err r) = of_refusal r

abbrev pub of_read : Result Shape Refusal → List ℕ
of_read (Ok s) = four 0 s.rows s.events s.start
of_read (Err r) = of_refusal r

abbrev pub of_told : Result Told Refusal → List ℕ
of_told (Ok t) = four 0 t.distance t.length 0
of_told (Err r) = of_refusal r

abbrev pub of_ordered : Result Order Refusal → List ℕ
of_ordered (Ok order.First) = four 0 0 0 0
of_ordered (Ok order.Equal) = four 0 1 0 0
of_ordered (Ok order.Second) = four 0 2 0 0
of_ordered (Err r) = of_refusal r

abbrev pub of_verdict : Verdict → List ℕ
of_verdict (Ok u) = four 0 0 0 0
of_verdict (Err r) = of_refusal r

-- An offset as a number of 32 bits: those above 65,535 are none.
abbrev pub offset_in : ℕ → Offset
offset_in k = cond (ltb k 65536) (offset k) none
