-- How the cells of a contest are listed: where its first submissions are, and the cells there.
-- Words of private functions: nothing public is said with them.
use Rattle.std.specs.Prelude.{ℕ, Bool, ◌&&◌, ◌==◌, nat_lt, List, ◌++◌, map, filter}
use Rattle.std.specs.HashSet.{HashSet, contains}
use Rattle.contest_types.specs.declared.sight.Mask.{Mask}
use Rattle.contest_types.specs.declared.sight.Mask.TheVariants.{Full, Held}
use Rattle.contest_types.specs.declared.submission.Submission.{Submission}
use Rattle.contest_score.specs.declared.cell.Cell.{Cell}
use Rattle.contest_store_cells.specs.CellRows.{first_attempts}
use Rattle.contest_store_cells.specs.declared.placed.PlacedCell.{PlacedCell}

-- a submission's team and problem
abbrev pub place_of : Submission → ℕ × ℕ
place_of s = (s.team, s.problem)

-- whether a place was seen
abbrev pub is_seen : {H : Type 0} → HashSet (ℕ × ℕ) H → (team problem : ℕ) → Bool
is_seen seen team problem = contains (λ p q. (p.0 == q.0) && (p.1 == q.1)) seen (team, problem)

-- the submissions of the first teams
abbrev pub of_teams : (teams : ℕ) → List Submission → List Submission
of_teams teams = filter (λ s. nat_lt s.team teams)

-- the places of their first submissions
abbrev pub first_places : (teams : ℕ) → List Submission → List (ℕ × ℕ)
first_places teams ss = map place_of (first_attempts (of_teams teams ss))

-- the cell at a place under a mask
abbrev pub cell_at : (Mask → ℕ → ℕ → Cell) → Mask → ℕ × ℕ → PlacedCell
cell_at cell mask p = record { mask = mask; team = p.0; problem = p.1; cell = cell mask p.0 p.1 }

-- the cells at these places under either mask
abbrev pub cells_at : (Mask → ℕ → ℕ → Cell) → List (ℕ × ℕ) → List PlacedCell
cells_at cell places = map (cell_at cell Held) places ++ map (cell_at cell Full) places
