-- Ranks and the board (Contest Control System Requirements, "Scoring": most solved, least time,
-- earliest last accepted, shared ranks). Teams and problems go by their places in the settings'
-- lists, from 0. The shown teams are any set of them: those that aren't hidden, or some of these.
use Rattle.std.specs.Prelude.{ℕ, ◌+◌, Bool, ◌&&◌, List, [], ◌∷◌, map, filter, count_by, Option, Some, None}
use Rattle.std.specs.Option.{option_map_or}
use Rattle.std.specs.Ordering.{is_lt}
use Rattle.std.specs.declared.cmp.Ordering.{Ordering}
use Rattle.contest_types.specs.Setup.{Setup}
pub use Rattle.contest_types.specs.Order.{by_number, by_most, by_text, by_each, place_in, in_order}
pub use Rattle.contest_types.specs.ProblemPlaces.{ordinal_at, problem_cmp, problem_id_at, problem_order}
pub use Rattle.contest_types.specs.TeamPlaces.{team_places, name_at, team_id_at, is_of_group, is_public}
use Rattle.contest_score.specs.declared.cell.Cell.{Cell}
use Rattle.contest_score.specs.declared.score.Score.{Score}
use Rattle.contest_score.specs.declared.row.Row.{Row}
use Rattle.contest_score.specs.Scoring.{score_of_cells}

-- a team's cells in the order of the problems
abbrev pub cells_of_team : Setup → (ℕ → ℕ → Cell) → ℕ → List Cell
cells_of_team s cells u = map (cells u) (problem_order s)

abbrev pub score_of_team : Setup → (ℕ → ℕ → Cell) → ℕ → Score
score_of_team s cells u = score_of_cells s.head.penalty_time (cells_of_team s cells u)

-- the last solved minute, 0 where nothing is solved
abbrev pub last_minute : Score → ℕ
last_minute a = option_map_or (λ m. m.0) a.last 0

-- by most solved, then least total, then earliest last
abbrev pub score_cmp : Score → Score → Ordering
score_cmp = by_each (by_most (λ a. a.solved) ∷ by_number (λ a. a.total) ∷ by_number last_minute ∷ [])

-- the first is better
abbrev pub beats : Score → Score → Bool
beats a b = is_lt (score_cmp a b)

-- a board shows the teams that aren't hidden, and the board of the group at a place those of them that are in it
abbrev pub is_on_board : Setup → (group : Option ℕ) → ℕ → Bool
is_on_board s None = is_public s
is_on_board s (Some group) = λ u. is_public s u && is_of_group s group u

-- the shown teams, in the settings' order
abbrev pub shown_teams : Setup → (ℕ → Bool) → List ℕ
shown_teams s is_shown = filter is_shown (team_places s)

-- one more than the shown teams that are better
abbrev pub rank_of : Setup → (ℕ → Bool) → (ℕ → ℕ → Cell) → ℕ → ℕ
rank_of s is_shown cells u = 1 + count_by (λ w. beats (score_of_team s cells w) (score_of_team s cells u)) (shown_teams s is_shown)

-- by rank, then name, then id
abbrev pub row_cmp : Setup → (ℕ → Bool) → (ℕ → ℕ → Cell) → ℕ → ℕ → Ordering
row_cmp s is_shown cells = by_each (by_number (rank_of s is_shown cells) ∷ by_text (name_at s) ∷ by_text (team_id_at s) ∷ [])

abbrev pub row_of : Setup → (ℕ → Bool) → (ℕ → ℕ → Cell) → ℕ → Row
row_of s is_shown cells u = record { team = u; rank = rank_of s is_shown cells u; score = score_of_team s cells u; cells = cells_of_team s cells u }

-- the rows of the board of the shown teams over these cells
abbrev pub board_rows : Setup → (ℕ → Bool) → (ℕ → ℕ → Cell) → List Row
board_rows s is_shown cells = map (row_of s is_shown cells) (in_order (row_cmp s is_shown cells) (shown_teams s is_shown))

-- a board: the problems in the order of its columns, by their places, and a row for each shown team
pub record Scoreboard : Type 0 where
  pub columns : List ℕ
  pub rows : List Row

-- the board of the shown teams over these cells
abbrev pub board_of : Setup → (ℕ → Bool) → (ℕ → ℕ → Cell) → Scoreboard
board_of s is_shown cells = record { columns = problem_order s; rows = board_rows s is_shown cells }
