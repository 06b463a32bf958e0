-- The board as CSV: its records, each as the default writer of the crate csv writes it (RFC 4180, with lines that end in LF).
use Rattle.std.specs.Prelude.{ℕ, List, [], ◌∷◌, ◌++◌, map, Option, codes}
use Rattle.std.specs.Option.{option_map_or}
use Rattle.std.specs.List.{flat_map}
use Rattle.std.specs.Fmt.{decimal}
use Rattle.csv.specs.Writing.{default_writer, row_text}
use Rattle.contest_types.specs.ProblemPlaces.{label_at}
use Rattle.contest_types.specs.Setup.{Setup}
use Rattle.contest_types.specs.declared.minute.Minute.{Minute}
use Rattle.contest_score.specs.Ranking.{Scoreboard, name_at, team_id_at}
use Rattle.contest_score.specs.declared.row.Row.{Row}
use Rattle.contest_text.specs.CellText.{cell_text}

-- the fields' names, and the labels of the columns' problems
abbrev pub header_fields : Setup → (columns : List ℕ) → List (List ℕ)
header_fields s columns = codes "rank" ∷ codes "team_id" ∷ codes "team" ∷ codes "solved" ∷ codes "time" ∷ codes "last" ∷ map (label_at s) columns

-- the last minute at which a problem was solved; nothing where none was
abbrev pub last_text : Option Minute → List ℕ
last_text last = option_map_or (λ (m : Minute). decimal m.0) last []

-- a team's rank, id, name, problems solved, total time, last minute and cells
abbrev pub row_fields : Setup → Row → List (List ℕ)
row_fields s r =
    decimal r.rank ∷ team_id_at s r.team ∷ name_at s r.team ∷ decimal r.score.solved ∷ decimal r.score.total ∷ last_text r.score.last ∷ map cell_text r.cells

-- the record of a row
abbrev pub row_record : Setup → Row → List ℕ
row_record s r = row_text default_writer (row_fields s r)

-- the whole text
abbrev pub board_csv : Setup → Scoreboard → List ℕ
board_csv s b = row_text default_writer (header_fields s b.columns) ++ flat_map (row_record s) b.rows
