-- Some chosen runs, and what the rows of document 01's tables to try give up, computed.
use mathlib.Core.Path.{◌≡◌, refl}
use mathlib.Core.List.{List, [], ◌∷◌}
use mathlib.Core.Option.{Option, some as given, none as absent}
use Prim.Native.Nat.{ℕ}
use Rattle.automata.specs.Nearness.{every, rounds, near}
use Rattle.tables.specs.Lengths.{least, distance, lead, reached, depth}
use Rattle.tables.specs.Table.{Table, Offset, none, machine, events_of, weight_by}
use Rattle.tables.specs.Lists.{tabulate, filter, some, first, position, sift}
use Rattle.tables.specs.Reduction.{similar_by, level, levels, order, similar, kept, fold, met, numbering, number, fate_of}
use Rattle.tables.proofs.Cases.{When, at, always, Case, C, cases}
use Rattle.chosen.specs.Choice.{first_some, look_at, chosen_at, chosen}
use Rattle.chosen.specs.GivenUp.{Loss, nothing, given_up}

-- ---- chosen runs

abbrev of : ℕ → Table → ℕ → ℕ → Option (List ℕ)
of mask T q p = chosen (events_of (weight_by mask) T) (machine T) q p

-- Two events; row 1 is ready.
abbrev G : Table
G = record { rows = 4; events = 2; start = 0; cells = 1 ∷ 0 ∷ 1 ∷ 3 ∷ 1 ∷ 3 ∷ 2 ∷ 0 ∷ []; marks = 2 ∷ [] }

-- C: rows 0 and 1 differ last after one event, though their marks differ at once; with no event counted, at once.
pub case_C : (of 1 C 0 1 ≡ given (0 ∷ [])) × (of 1 C 0 2 ≡ given (0 ∷ [])) × (of 1 C 0 3 ≡ given (0 ∷ [])) × (of 1 C 1 2 ≡ given [])
    × (of 1 C 1 3 ≡ given []) × (of 1 C 2 3 ≡ absent) × (of 0 C 0 1 ≡ given []) × (of 0 C 0 2 ≡ given (0 ∷ []))
unfolding every least rounds near distance first_some look_at chosen_at chosen
case_C = (refl, refl, refl, refl, refl, refl, refl, refl)

-- G, with event 0 counted: the chosen run has an idle event.
pub case_G : (of 1 G 1 0 ≡ given (1 ∷ 0 ∷ [])) × (of 1 G 2 0 ≡ given (1 ∷ 0 ∷ []))
unfolding every least rounds near distance first_some look_at chosen_at chosen
case_G = (refl, refl)

-- ---- a column of the table of bold cases: what each row of the given table gives up

abbrev loss : ℕ → List ℕ → Loss
loss far run = record { far = far; run = run }

-- A case at an offset has the losses of its rows at it; one that speaks of all has those with none.
abbrev pub offset_of : When → Offset
offset_of (at k) = k
offset_of always = none

abbrev pub Lost : Case → List Loss → Type 0
Lost c l = tabulate c.given_table.rows (given_up (weight_by c.mask) (offset_of c.when) c.given_table) ≡ l

abbrev pub AllLost : List Case → List (List Loss) → Type 0
AllLost [] [] = Unit {0}
AllLost [] (x ∷ l) = ⊥
AllLost (c ∷ m) [] = ⊥
AllLost (c ∷ m) (x ∷ l) = Lost c x × AllLost m l

abbrev pub losses : List (List Loss)
losses =
    -- A0, A1, An: with an offset of 1 and with none, row 0 was ready and folds into a waiting row
    (nothing ∷ nothing ∷ nothing ∷ [])
    ∷ (loss 1 [] ∷ nothing ∷ nothing ∷ [])
    ∷ (loss 1 [] ∷ nothing ∷ nothing ∷ [])
    -- B
    ∷ (nothing ∷ nothing ∷ nothing ∷ [])
    -- C1: rows 0 and 1 are kept. C2: they are given up, row 0 until after one event
    ∷ (nothing ∷ nothing ∷ nothing ∷ nothing ∷ [])
    ∷ (loss 2 (0 ∷ []) ∷ loss 1 [] ∷ nothing ∷ nothing ∷ [])
    -- D0: row 3 folds into row 2, which is as it. D1: into row 1, which differs at once
    ∷ (nothing ∷ nothing ∷ nothing ∷ nothing ∷ [])
    ∷ (nothing ∷ nothing ∷ nothing ∷ loss 1 [] ∷ [])
    -- E, F
    ∷ (nothing ∷ [])
    ∷ (nothing ∷ nothing ∷ [])
    -- A with none counted: every run has length 0, so rows 1 and 2 fold into row 0
    ∷ (nothing ∷ loss 1 [] ∷ loss 1 [] ∷ [])
    ∷ []

infixr 20 ◌and◌
◌and◌ : {A B : Type 0} → A → B → A × B
a and b = (a, b)

pub bold_losses : AllLost cases losses
unfolding every least rounds near distance lead reached depth tabulate filter some first position sift similar_by level levels order similar kept fold met numbering number fate_of first_some look_at chosen_at chosen given_up
bold_losses = refl and refl and refl and refl and refl and refl and refl and refl and refl and refl and refl and tt
