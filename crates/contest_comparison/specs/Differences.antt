-- How a board differs from a scoreboard of another system, line by line (own).
use Rattle.std.specs.Prelude.{ℕ, ◌==◌, ◌++◌, Bool, true, false, List, [], Option, Some, None, if◌then◌else◌, codes, find, is_some, map}
use Rattle.std.specs.Fmt.{decimal}
use Rattle.std.specs.List.{flat_map, list_any, zip}
use Rattle.std.specs.Option.{option_map_or}
use Rattle.std.specs.Str.{bytes_eq}
use Rattle.std.proofs.Math.Bool.{beq}
use Rattle.contest_types.specs.Places.{place_of}
use Rattle.contest_types.specs.ProblemPlaces.{label_at, problem_id_at}
use Rattle.contest_types.specs.Setup.{Setup}
use Rattle.contest_types.specs.TeamPlaces.{team_id_at}
use Rattle.contest_types.specs.declared.minute.Minute.{Minute}
use Rattle.contest_files.specs.FieldTexts.{Text}
use Rattle.contest_score.specs.Ranking.{Scoreboard}
use Rattle.contest_score.specs.Scoring.{is_solved}
use Rattle.contest_score.specs.declared.cell.Cell.{Cell}
use Rattle.contest_score.specs.declared.row.Row.{Row}
use Rattle.contest_comparison.specs.declared.other_row.OtherCell.{OtherCell}
use Rattle.contest_comparison.specs.declared.other_row.OtherRow.{OtherRow}
use Rattle.contest_comparison.specs.declared.values.CellValues.{CellValues}
use Rattle.contest_comparison.specs.declared.values.RowValues.{RowValues}

-- what a row of a board says beside its cells
abbrev pub row_values : Row → RowValues
row_values r = record { rank = r.rank; solved = r.score.solved; total = r.score.total }

-- what a cell of a board says
abbrev pub cell_values : Cell → CellValues
cell_values c = record { solved = is_solved c; time = c.solved; judged = c.judged; pending = c.pending }

-- what a cell that isn't there counts as
abbrev pub no_values : CellValues
no_values = record { solved = false; time = None; judged = 0; pending = 0 }

-- the line of a value, `<of>: <name> <ours>, there <theirs>`; nothing where it is the same there
abbrev pub value_line : (same : Bool) → (of name ours theirs : Text) → Text
value_line true of name ours theirs = []
value_line false of name ours theirs = of ++ codes ": " ++ name ++ codes " " ++ ours ++ codes ", there " ++ theirs ++ codes "\n"

abbrev pub number_line : (of name : Text) → (ours theirs : ℕ) → Text
number_line of name ours theirs = value_line (ours == theirs) of name (decimal ours) (decimal theirs)

-- a time in minutes, or none
abbrev pub time_text : Option Minute → Text
time_text None = codes "none"
time_text (Some minute) = decimal minute.0

abbrev pub same_time : Option Minute → Option Minute → Bool
same_time None None = true
same_time None (Some theirs) = false
same_time (Some ours) None = false
same_time (Some ours) (Some theirs) = ours.0 == theirs.0

abbrev pub time_line : (of : Text) → (ours theirs : Option Minute) → Text
time_line of ours theirs = value_line (same_time ours theirs) of (codes "time") (time_text ours) (time_text theirs)

abbrev pub truth_text : Bool → Text
truth_text b = if b then codes "true" else codes "false"

abbrev pub solved_line : (of : Text) → (ours theirs : Bool) → Text
solved_line of ours theirs = value_line (beq ours theirs) of (codes "solved") (truth_text ours) (truth_text theirs)

-- how two rows differ beside their cells, and two cells
abbrev pub row_lines : (of : Text) → (ours theirs : RowValues) → Text
row_lines of ours theirs =
    number_line of (codes "rank") ours.rank theirs.rank ++ number_line of (codes "solved") ours.solved theirs.solved
    ++ number_line of (codes "time") ours.total theirs.total

abbrev pub cell_lines : (of : Text) → (ours theirs : CellValues) → Text
cell_lines of ours theirs =
    solved_line of ours.solved theirs.solved ++ time_line of ours.time theirs.time
    ++ number_line of (codes "judged") ours.judged theirs.judged ++ number_line of (codes "pending") ours.pending theirs.pending

-- whose value a line tells: that of a team, and of its cell of a problem
abbrev pub team_text : (id : Text) → Text
team_text id = codes "team " ++ id

abbrev pub problem_text : (of name : Text) → Text
problem_text of name = of ++ codes ": problem " ++ name

-- the cell there of the problem with an id
abbrev pub cell_there : (problem : Text) → List OtherCell → Option OtherCell
cell_there problem cells = find (λ c. bytes_eq c.problem problem) cells

-- what it says; what one of zeros does where there is none
abbrev pub values_there : (problem : Text) → List OtherCell → CellValues
values_there problem cells = option_map_or (λ (c : OtherCell). c.values) (cell_there problem cells) no_values

-- our cell of the problem at a place beside the one there
abbrev pub problem_lines : Setup → (of : Text) → List OtherCell → (problem : ℕ) → Cell → Text
problem_lines s of cells problem cell =
    cell_lines (problem_text of (label_at s problem)) (cell_values cell) (values_there (problem_id_at s.problems problem) cells)

-- a cell there of a problem that the contest hasn't
abbrev pub lone_cell_line : Setup → (of : Text) → OtherCell → Text
lone_cell_line s of cell =
    if is_some (place_of cell.problem (map (λ p. p.id) s.problems)) then [] else problem_text of cell.problem ++ codes ": there alone\n"

-- a row that isn't there
abbrev pub here_alone : (of : Text) → Text
here_alone of = of ++ codes ": here alone\n"

-- our row beside the one there, if there is one
abbrev pub row_beside : Setup → (columns : List ℕ) → (of : Text) → Row → Option OtherRow → Text
row_beside s columns of row None = here_alone of
row_beside s columns of row (Some other) =
    row_lines of (row_values row) other.values
    ++ flat_map (λ (p : ℕ × Cell). problem_lines s of other.cells p.0 p.1) (zip columns row.cells)
    ++ flat_map (lone_cell_line s of) other.cells

-- the row there of the team with an id
abbrev pub row_there : (team : Text) → List OtherRow → Option OtherRow
row_there team there = find (λ other. bytes_eq other.team team) there

abbrev pub row_difference : Setup → (columns : List ℕ) → List OtherRow → Row → Text
row_difference s columns there row =
    row_beside s columns (team_text (team_id_at s row.team)) row (row_there (team_id_at s row.team) there)

-- a row there that the board hasn't
abbrev pub lone_row_line : Setup → List Row → OtherRow → Text
lone_row_line s rows other =
    if list_any (λ (row : Row). bytes_eq (team_id_at s row.team) other.team) rows then [] else team_text other.team ++ codes ": there alone\n"

-- how a board differs from the rows of a scoreboard: our rows in their order, then the rows that are there alone
abbrev pub differences : Setup → Scoreboard → List OtherRow → Text
differences s b there = flat_map (row_difference s b.columns there) b.rows ++ flat_map (lone_row_line s b.rows) there
