-- The scoring of a whole contest: cells and boards as a caller sees them (Contest API 2023-06,
-- scoreboard; Contest Control System Requirements, "Scoring").
use Rattle.std.specs.Prelude.{ℕ, List, map, Option, find}
use Rattle.std.specs.List.{flat_map, filter_map}
use Rattle.std.specs.Option.{option_map}
use Rattle.contest_types.specs.State.{ContestState}
use Rattle.contest_types.specs.Sight.{full_verdict}
use Rattle.contest_types.specs.declared.audience.Audience.{Audience}
use Rattle.contest_types.specs.declared.sight.Mask.{Mask}
use Rattle.contest_types.specs.declared.sight.Mask.TheVariants.{Full}
use Rattle.contest_types.specs.declared.submission.Submission.{Submission}
use Rattle.contest_score.specs.declared.attempt.Attempt.{Attempt}
use Rattle.contest_score.specs.declared.cell.Cell.{Cell}
use Rattle.contest_score.specs.declared.row.Row.{Row}
use Rattle.contest_score.specs.declared.solve.Solve.{Solve}
use Rattle.contest_score.specs.declared.submission.JudgedSubmission.{JudgedSubmission}
use Rattle.contest_score.specs.Scoring.{is_solving}
use Rattle.contest_score.specs.Ranking.{Scoreboard, board_of, board_rows, is_on_board, is_public, problem_order, shown_teams}
use Rattle.contest_score.specs.MaskedCells.{attempts_under, cell_under, cell_for}

-- a submission as scoring reads it: with the verdict that was released last
abbrev pub judged_submission : ContestState → Submission → JudgedSubmission
judged_submission x s = record { team = s.team; problem = s.problem; time = s.time; verdict = full_verdict x s }

abbrev pub judged_submissions : ContestState → List JudgedSubmission
judged_submissions x = map (judged_submission x) x.submissions

-- the cell of a team at a problem under a mask
abbrev pub contest_cell : Mask → ContestState → ℕ → ℕ → Cell
contest_cell mask x = cell_under mask x.fixed.settings x.fixed.marks (judged_submissions x)

-- the cell of a team at a problem, as the caller sees it now
abbrev pub seen_cell : Audience → ℕ → ContestState → ℕ → ℕ → Cell
seen_cell a now x = cell_for a x.fixed.settings x.fixed.marks now (judged_submissions x)

-- the rows of the board for a caller: the teams that aren't hidden, or those of a group, ranked among each other by the
-- cells that the caller sees
abbrev pub board_for : Audience → (now : ℕ) → (group : Option ℕ) → ContestState → List Row
board_for a now group x = board_rows x.fixed.settings (is_on_board x.fixed.settings group) (seen_cell a now x)

-- the same with its columns
abbrev pub seen_board : Audience → (now : ℕ) → (group : Option ℕ) → ContestState → Scoreboard
seen_board a now group x = board_of x.fixed.settings (is_on_board x.fixed.settings group) (seen_cell a now x)

-- the first submission of a team that solves a problem, by all verdicts
abbrev pub solve_of : ContestState → ℕ → ℕ → Option Solve
solve_of x team problem =
    option_map (λ (t : Attempt). record { team = team; problem = problem; time = t.time })
    (find is_solving (attempts_under Full x.fixed.settings x.fixed.marks (judged_submissions x) team problem))

-- each problem that a shown team solved
abbrev pub solves_of : ContestState → List Solve
solves_of x = flat_map (λ team. filter_map (solve_of x team) (problem_order x.fixed.settings)) (shown_teams x.fixed.settings (is_public x.fixed.settings))
