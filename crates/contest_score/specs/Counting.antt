-- How a cell grows, attempt by attempt, and a list of cells with it.
-- Words of private functions: nothing public is said with them.
use Rattle.std.specs.Prelude.{ℕ, ◌+◌, ◌<◌, ◌^◌, not, ◌&&◌, if◌then◌else◌, List, [], map, Option, Some, None, slice_get, slice_set}
use Rattle.std.specs.List.{range_with_len}
use Rattle.contest_types.specs.declared.minute.Minute.{Minute}
use Rattle.contest_score.specs.declared.attempt.Verdict.{Verdict}
use Rattle.contest_score.specs.declared.attempt.Attempt.{Attempt}
use Rattle.contest_score.specs.declared.cell.Cell.{Cell}
use Rattle.contest_score.specs.Scoring.{minute_of, is_solved}

-- a cell that isn't solved, with one more judged attempt
abbrev pub judged_with : Minute → Cell → Verdict → Cell
judged_with minute c v = record c {
  judged = c.judged + 1;
  solved = if v.solving then Some minute else c.solved;
  penalties = if v.penalised && not v.solving then c.penalties + 1 else c.penalties;
}

-- and with one more attempt, judged or pending
abbrev pub attempted_with : ℕ → Cell → ℕ → Option Verdict → Cell
attempted_with start c time None = record c { pending = c.pending + 1 }
attempted_with start c time (Some v) = judged_with (minute_of start time) c v

-- one more attempt counts where none before it solved
abbrev pub cell_with : ℕ → Cell → Attempt → Cell
cell_with start c a = if is_solved c then c else attempted_with start c a.time a.verdict

-- each count can grow by one
pub record HasRoom (c : Cell) : Type 0 where
  pub judged : c.judged + 1 < 2 ^ 32
  pub pending : c.pending + 1 < 2 ^ 32
  pub penalties : c.penalties + 1 < 2 ^ 32

-- the lists of the cells of these many teams and problems
abbrev pub cells_table : (ℕ → ℕ → Cell) → ℕ → ℕ → List (List Cell)
cells_table cells teams problems = map (λ team. map (cells team) (range_with_len 0 problems)) (range_with_len 0 teams)

abbrev pub row_or_none : Option (List Cell) → List Cell
row_or_none None = []
row_or_none (Some row) = row

-- the row of a team
abbrev pub row_at : List (List Cell) → ℕ → List Cell
row_at rows team = row_or_none (slice_get rows team)

-- the lists with this cell at a team and a problem
abbrev pub with_cell : List (List Cell) → ℕ → ℕ → Cell → List (List Cell)
with_cell rows team problem c = slice_set rows team (slice_set (row_at rows team) problem c)
