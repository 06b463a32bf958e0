-- The cells of a contest as rows of a table: one under either mask for each team and problem with a submission (own;
-- DOMjudge keeps the same as its score cache). Teams go by their numbers, which count from 1, and problems by their ids.
use Rattle.std.specs.Prelude.{ℕ, ◌+◌, not, List, [], ◌∷◌, ◌++◌, map, filter}
use Rattle.std.specs.Option.{option_map}
use Rattle.std.specs.declared.cmp.Ordering.{Ordering}
use Rattle.sqlite.specs.Values.{or_null}
use Rattle.sqlite_keyed.specs.Lists.{sort_by}
use Rattle.sqlite_sql.specs.Query.{key_cmp}
use Rattle.sqlite_value.specs.declared.value.Value.TheVariants.{Text}
use Rattle.sqlite_value.specs.Keys.{rising}
use Rattle.sqlite_value.specs.Order.{Row}
use Rattle.contest_types.specs.ProblemPlaces.{problem_id_at}
use Rattle.contest_types.specs.Setup.{Setup}
use Rattle.contest_types.specs.State.{ContestState}
use Rattle.contest_types.specs.declared.minute.Minute.{Minute}
use Rattle.contest_types.specs.declared.sight.Mask.{Mask}
use Rattle.contest_types.specs.declared.sight.Mask.TheVariants.{Full, Held}
use Rattle.contest_types.specs.declared.submission.Submission.{Submission}
use Rattle.contest_score.specs.Contest.{contest_cell}
use Rattle.contest_score.specs.ScoringLaws.{is_at}
use Rattle.contest_score.specs.declared.cell.Cell.{Cell}
use Rattle.contest_store_rows.specs.Cells.{number}

-- 0 for what is seen of it in the freeze, 1 for all of it
abbrev pub mask_number : Mask → ℕ
mask_number Held = 0
mask_number Full = 1

-- the first submission of each team at each problem
abbrev pub first_attempts : List Submission → List Submission
first_attempts [] = []
first_attempts (s ∷ ss) = s ∷ filter (λ u. not (is_at s.team s.problem u)) (first_attempts ss)

-- a team's cell at a problem
abbrev pub cell_row : Setup → Mask → (team problem : ℕ) → Cell → Row
cell_row s mask team problem c =
    number (mask_number mask) ∷ number (team + 1) ∷ Text (problem_id_at s.problems problem)
    ∷ number c.judged ∷ number c.pending ∷ or_null number (option_map (λ (m : Minute). m.0) c.solved) ∷ number c.penalties ∷ []

-- the cells of a contest under a mask, in the order of their first submissions
abbrev pub cells_under : Mask → ContestState → List Row
cells_under mask x = map (λ s. cell_row x.fixed.settings mask s.team s.problem (contest_cell mask x s.team s.problem)) (first_attempts x.submissions)

-- by mask, team and the problem's id
abbrev pub by_place : Row → Row → Ordering
by_place = key_cmp 0 (rising 3 [])

-- all cells of a contest, in the order of that key
abbrev pub cell_rows : ContestState → List Row
cell_rows x = sort_by by_place (cells_under Held x ++ cells_under Full x)
