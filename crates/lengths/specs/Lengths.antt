-- What is known of each pair of a table's rows, and the depths of its rows, as the lent scratch holds them.
use Rattle.std.specs.Prelude.{◌≡◌, cond, List, ℕ, ◌+◌, ◌≤◌, ◌<◌, eqb, length, get_or}
use Rattle.automata.specs.Runs.{Events, Machine, Len, len, endless}
use Rattle.tables.specs.Lengths.{lead, one_less}
use Rattle.tables.specs.Table.{Table}
use Rattle.pairs.specs.Pairs.{pair_at, leads_at, lead_at, needed}
use Rattle.scratch.specs.Scratch.{len_cell}
use Rattle.measures.specs.Measures.{measure_in, measure_of}
use Rattle.first_events.specs.FirstEvents.{told}
use Rattle.depths.specs.Depths.{plumbed}

-- What both searches leave in scratch.
abbrev pub lengths_in : ℕ → Table → List ℕ → List ℕ
lengths_in mask T s = plumbed mask T (told mask T s)

-- Scratch s holds, of the rows of M, what is to be said of each pair and each row's lead.
pub record Holds (E : Events) (M : Machine) (s : List ℕ) : Type 0 where
  pub room : needed M.rows ≤ length s
  pub pairs_hold : (q p : ℕ) → q < M.rows → p < M.rows → measure_in (pair_at s q p) ≡ measure_of E M q p
  pub leads_hold : (q : ℕ) → q < M.rows → get_or s (leads_at M.rows + q) 0 ≡ len_cell (lead E M q)

-- A cell as a length.
abbrev pub len_of : ℕ → Len
len_of c = cond (eqb c 65535) endless (len c)

-- The depth of row q, in a scratch of n rows.
abbrev pub depth_at : ℕ → List ℕ → ℕ → Len
depth_at n s q = one_less (len_of (lead_at s n q))
