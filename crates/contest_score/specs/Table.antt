-- Cells in plain lists, one for each team: what they have at a team and a problem, and no attempts where
-- they have nothing.
use Rattle.std.specs.Prelude.{ℕ, List, Option, Some, None, slice_get}
use Rattle.contest_score.specs.declared.cell.Cell.{Cell}

-- a cell of a problem with no attempt
abbrev pub no_attempts : Cell
no_attempts = record { judged = 0; pending = 0; solved = None; penalties = 0 }

abbrev pub cell_or_none : Option Cell → Cell
cell_or_none None = no_attempts
cell_or_none (Some c) = c

abbrev pub cell_of_row : ℕ → Option (List Cell) → Cell
cell_of_row problem None = no_attempts
cell_of_row problem (Some row) = cell_or_none (slice_get row problem)

-- what the lists have at a team and a problem
abbrev pub cell_in : List (List Cell) → ℕ → ℕ → Cell
cell_in rows team problem = cell_of_row problem (slice_get rows team)
