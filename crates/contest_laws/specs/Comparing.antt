-- A board that is held beside another system's is told to be the same exactly where it is (own). The law is the contract of a
-- function of src/laws.rt.
use Rattle.std.specs.Prelude.{◌≡◌, ◌↔◌, ℕ, true, false, List, Some, map, is_some}
use Rattle.std.specs.List.{list_any, zip}
use Rattle.std.specs.Str.{bytes_eq}
use Rattle.contest_types.specs.Order.{Has}
use Rattle.contest_types.specs.Places.{place_of}
use Rattle.contest_types.specs.ProblemPlaces.{problem_id_at}
use Rattle.contest_types.specs.Setup.{Setup}
use Rattle.contest_types.specs.TeamPlaces.{team_id_at}
use Rattle.contest_score.specs.Ranking.{Scoreboard}
use Rattle.contest_score.specs.declared.cell.Cell.{Cell}
use Rattle.contest_score.specs.declared.row.Row.{Row}
use Rattle.contest_comparison.specs.Comparisons.{has_difference}
use Rattle.contest_comparison.specs.Differences.{cell_values, row_there, row_values, values_there}
use Rattle.contest_comparison.specs.declared.other_row.OtherCell.{OtherCell}
use Rattle.contest_comparison.specs.declared.other_row.OtherRow.{OtherRow}

-- a row is there, by its team's id, with the same rank, number of solved problems and total, the same cells, and no cell of
-- another problem. A cell that isn't there counts as one of zeros
pub record IsSameRow (s : Setup) (columns : List ℕ) (there : List OtherRow) (row : Row) : Type 0 where
  pub other : OtherRow
  pub found : row_there (team_id_at s row.team) there ≡ Some other
  pub values : row_values row ≡ other.values
  pub cells : (problem : ℕ) (cell : Cell) → Has (zip columns row.cells) (problem, cell) → cell_values cell ≡ values_there (problem_id_at s.problems problem) other.cells
  pub problems : (cell : OtherCell) → Has other.cells cell → is_some (place_of cell.problem (map (λ p. p.id) s.problems)) ≡ true

-- all rows of the board are there so, and no row of a team that has none on the board
pub record IsSameBoard (s : Setup) (b : Scoreboard) (there : List OtherRow) : Type 0 where
  pub rows : (row : Row) → Has b.rows row → IsSameRow s b.columns there row
  pub teams : (other : OtherRow) → Has there other → list_any (λ (row : Row). bytes_eq (team_id_at s row.team) other.team) b.rows ≡ true

-- no difference is told exactly where there is none
abbrev pub DifferencesAreTold : Type 0
DifferencesAreTold = (s : Setup) (b : Scoreboard) (there : List OtherRow) → (has_difference s b there ≡ false) ↔ IsSameBoard s b there
