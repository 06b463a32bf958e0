-- The text board, line by line.
use Rattle.std.specs.Prelude.{ℕ, pos, ◌-◌, ◌-ℤ◌, ◌==◌, Bool, List, [], ◌++◌, map, fold, max, Option, Some, None, if◌then◌else◌, codes}
use Rattle.std.specs.List.{flat_map}
use Rattle.std.specs.Fmt.{decimal}
use Rattle.contest_types.specs.Setup.{Setup}
use Rattle.contest_types.specs.ProblemPlaces.{label_at}
use Rattle.contest_types.specs.Clock.{phase_at, is_freezing}
use Rattle.contest_types.specs.RelTimeText.{rel_time_text}
use Rattle.contest_types.specs.SettingsNames.{group_name_at}
use Rattle.contest_types.specs.declared.audience.Audience.{Audience}
use Rattle.contest_types.specs.declared.audience.Audience.TheVariants as audience
use Rattle.contest_types.specs.declared.audience.Phase.{Phase}
use Rattle.contest_types.specs.declared.audience.Phase.TheVariants as phase
use Rattle.contest_types.specs.declared.marks.Marks.{Marks}
use Rattle.contest_score.specs.Ranking.{Scoreboard, name_at, team_id_at}
use Rattle.contest_score.specs.Results.{is_final}
use Rattle.contest_score.specs.declared.row.Row.{Row}
use Rattle.contest_text.specs.Padding.{columns_of, left, right}
use Rattle.contest_text.specs.CellText.{cell_text}

-- the id of the team with a number, from 1; nothing where there is none
abbrev pub numbered_id : Setup → ℕ → List ℕ
numbered_id s number = if number == 0 then [] else team_id_at s (number - 1)

-- whose board it is: `Public`, `Jury` or `Team <id>`
abbrev pub who_text : Setup → Audience → List ℕ
who_text s audience.Public = codes "Public"
who_text s (audience.Team number) = codes "Team " ++ numbered_id s number
who_text s audience.Jury = codes "Jury"

-- the contest time as a relative time; a dash where no start is set
abbrev pub contest_time : Option ℕ → ℕ → List ℕ
contest_time None now = codes "-"
contest_time (Some start) now = rel_time_text (pos now -ℤ pos start)

-- the first that holds of `before`, `final`, `frozen`, `ended` and `running`
abbrev pub word_of : Phase → (final freezing : Bool) → List ℕ
word_of phase.Before final freezing = codes "before"
word_of phase.Running final freezing = if final then codes "final" else (if freezing then codes "frozen" else codes "running")
word_of phase.Ended final freezing = if final then codes "final" else (if freezing then codes "frozen" else codes "ended")

abbrev pub word_at : Setup → Marks → ℕ → List ℕ
word_at s marks now = word_of (phase_at s marks now) (is_final s marks now) (is_freezing s marks now)

-- `, <word>` and the line's end
abbrev pub title_end : Setup → Marks → ℕ → List ℕ
title_end s marks now = codes ", " ++ word_at s marks now ++ codes "\n"

-- whose rows a group's board has: ` of <group name>`; nothing on the whole board
abbrev pub of_group_text : Setup → Option ℕ → List ℕ
of_group_text s None = []
of_group_text s (Some group) = codes " of " ++ group_name_at s group

-- `, contest time <time>`
abbrev pub time_text : Option ℕ → ℕ → List ℕ
time_text start now = codes ", contest time " ++ contest_time start now

-- `<Who> board, contest time <time>, <word>`, and `<Who> board of <group name>, ..` for a group
abbrev pub title_line : Setup → Marks → ℕ → Audience → (group : Option ℕ) → List ℕ
title_line s marks now who group = who_text s who ++ codes " board" ++ of_group_text s group ++ time_text marks.start now ++ title_end s marks now

-- the column of names: as wide as the widest, and at least four columns
abbrev pub name_width : Setup → List Row → ℕ
name_width s rows = fold max 4 (map (λ (r : Row). columns_of (name_at s r.team)) rows)

-- a further field of a line, behind two spaces
abbrev pub left_field : ℕ → List ℕ → List ℕ
left_field columns text = codes "  " ++ left columns text

abbrev pub right_field : ℕ → List ℕ → List ℕ
right_field columns text = codes "  " ++ right columns text

-- rank, team, solved and time
abbrev pub front : ℕ → (rank team solved time : List ℕ) → List ℕ
front width rank team solved time = right 4 rank ++ left_field width team ++ right_field 6 solved ++ right_field 6 time

-- the heading: the fields' names, and the labels of the columns' problems
abbrev pub heading_line : Setup → ℕ → List ℕ → List ℕ
heading_line s width columns =
    front width (codes "Rank") (codes "Team") (codes "Solved") (codes "Time") ++ flat_map (λ p. right_field 9 (label_at s p)) columns ++ codes "\n"

-- one line for each row: a team's rank, name, problems solved, total time and cells
abbrev pub row_line : Setup → ℕ → Row → List ℕ
row_line s width r =
    front width (decimal r.rank) (name_at s r.team) (decimal r.score.solved) (decimal r.score.total) ++ flat_map (λ c. right_field 9 (cell_text c)) r.cells ++ codes "\n"

-- the whole text
abbrev pub board_text : Setup → Marks → ℕ → Audience → (group : Option ℕ) → Scoreboard → List ℕ
board_text s marks now who group b =
    s.head.name ++ codes "\n" ++ title_line s marks now who group ++ heading_line s (name_width s b.rows) b.columns ++ flat_map (row_line s (name_width s b.rows)) b.rows
