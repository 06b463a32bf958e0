-- The cells that are kept of a contest: one under either mask for each team and problem that it has a submission at
-- (own; DOMjudge keeps the same as its score cache).
use Rattle.std.specs.Prelude.{◌≡◌, ◌<◌, ◌^◌, ℕ, Bool, ◌&&◌, ◌==◌, List, length, Option, Some, None, if◌then◌else◌, get_or, slice_get}
use Rattle.std.specs.Global.{Vec}
use Rattle.std.specs.Option.{option_map_or}
use Rattle.std.specs.List.{list_any}
use Rattle.contest_types.specs.Masks.{mask_for}
use Rattle.contest_types.specs.State.{ContestState, submissions_of}
use Rattle.contest_types.specs.declared.sight.Mask.{Mask}
use Rattle.contest_types.specs.declared.sight.Mask.TheVariants.{Full, Held}
use Rattle.contest_types.specs.declared.submission.Submission.{Submission}
use Rattle.contest_score.specs.declared.cached_cells.CachedCells.{CachedCells}
use Rattle.contest_score.specs.declared.cached_cells.MaskedCell.{MaskedCell}
use Rattle.contest_score.specs.declared.cached_cells.SeenCells.{SeenCells}
use Rattle.contest_score.specs.declared.cell.Cell.{Cell}
use Rattle.contest_score.specs.declared.attempt.Attempt.{Attempt}
use Rattle.contest_score.specs.Contest.{contest_cell, judged_submission}
use Rattle.contest_score.specs.MaskedCells.{attempt_under}
use Rattle.contest_score.specs.ScoringLaws.{is_at}
use Rattle.contest_score.specs.Table.{no_attempts}

-- in rows of cells, one a team, what is kept for a team and a problem, if anything is
abbrev pub cell_in : List (Vec (Option MaskedCell)) → (team problem : ℕ) → Option MaskedCell
cell_in rows team problem = option_map_or (λ row. get_or row.items problem None) (slice_get rows team) None

abbrev pub cached_at : CachedCells → (team problem : ℕ) → Option MaskedCell
cached_at c team problem = cell_in c.rows.items team problem

abbrev pub cell_by : Mask → MaskedCell → Cell
cell_by Held c = c.held
cell_by Full c = c.full

-- the cell under a mask, that of no attempts where none is kept
abbrev pub cell_or_none : Mask → Option MaskedCell → Cell
cell_or_none mask None = no_attempts
cell_or_none mask (Some c) = cell_by mask c

abbrev pub cell_cached : CachedCells → Mask → (team problem : ℕ) → Cell
cell_cached c mask team problem = cell_or_none mask (cached_at c team problem)

-- the cells as an audience sees them
abbrev pub cells_seen : SeenCells → (team problem : ℕ) → Cell
cells_seen c team problem = cell_cached c.cells.now (mask_for c.audience c.marks.now c.now team) team problem

-- a submission as an attempt that is seen under a mask
abbrev pub attempt_at : Mask → ContestState → Submission → Attempt
attempt_at mask x s = attempt_under mask x.fixed.settings x.fixed.marks (judged_submission x s)

-- a contest's cell of a team at a problem, under either mask
abbrev pub masked_cell : ContestState → (team problem : ℕ) → MaskedCell
masked_cell x team problem = record { held = contest_cell Held x team problem; full = contest_cell Full x team problem }

-- it is kept where the team has a submission at the problem
abbrev pub cell_to_keep : ContestState → (team problem : ℕ) → Option MaskedCell
cell_to_keep x team problem = if list_any (is_at team problem) x.submissions then Some (masked_cell x team problem) else None

-- these are the cells of a contest; of more submissions than a cell can count nothing is said
abbrev pub AreCellsOf : ContestState → CachedCells → Type 0
AreCellsOf x c = length x.submissions < 2 ^ 32 → (team problem : ℕ) → cached_at c team problem ≡ cell_to_keep x team problem

-- some submission of a team with a number is at a cell
abbrev pub has_number : ContestState → (team number : ℕ) → (t p : ℕ) → Bool
has_number x team number t p = list_any (λ (s : Submission). (s.number == number) && is_at t p s) (submissions_of team x.submissions)
