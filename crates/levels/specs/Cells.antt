-- Levels by the cells in which lengths stand; 65,535 is endless.
use Rattle.std.specs.Prelude.{cond, ℕ, suc, ◌-◌, eqb}

-- The level that a row needs at offset k, by the cell of its lead.
abbrev pub need_cell : ℕ → ℕ → ℕ
need_cell k c = cond (eqb c 65535) 0 (suc k - c)

-- How far a row is from the rows before it, as the cell of a length, by the level at which it lost its lead: one that never did, which 0 says, is endlessly far.
abbrev pub far_cell : ℕ → ℕ
far_cell x = cond (eqb x 0) 65535 x
