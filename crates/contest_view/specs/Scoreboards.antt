-- The scoreboard as it is served (Contest API 2023-06, scoreboard; which members each object has is this desk's
-- choice).
use Rattle.std.specs.Prelude.{ℕ, Bool, true, ◌&&◌, nat_lt, length, List, Option, Some, None, if◌then◌else◌, codes, map}
use Rattle.std.specs.List.{zip}
use Rattle.std.specs.Option.{option_map}
use Rattle.serde_json.specs.Data.{Data, array, boolean, number, unsigned, string, object, member, no_members}
use Rattle.serde_json.specs.View.{items_of}
use Rattle.contest_types.specs.Masks.{is_audience}
use Rattle.contest_types.specs.MomentText.{moment_text}
use Rattle.contest_types.specs.Places.{place_of}
use Rattle.contest_types.specs.ProblemPlaces.{problem_id_at}
use Rattle.contest_types.specs.Setup.{Setup}
use Rattle.contest_types.specs.State.{FixedPart, ContestState}
use Rattle.contest_types.specs.TeamPlaces.{team_id_at}
use Rattle.contest_types.specs.declared.audience.Audience.{Audience}
use Rattle.contest_types.specs.declared.minute.Minute.{Minute}
use Rattle.contest_score.specs.Contest.{seen_board}
use Rattle.contest_score.specs.Ranking.{Scoreboard}
use Rattle.contest_score.specs.Scoring.{is_solved}
use Rattle.contest_score.specs.declared.cell.Cell.{Cell}
use Rattle.contest_score.specs.declared.row.Row.{Row}
use Rattle.contest_score.specs.declared.score.Score.{Score}
use Rattle.contest_objects.specs.ContestObjects.{whole_data}
use Rattle.contest_objects.specs.Members.{number_or_null}
use Rattle.contest_objects.specs.Objects.{member_where}
use Rattle.contest_objects.specs.Times.{contest_time_data}
use Rattle.contest_objects.specs.declared.contest_objects.ContestEndpoint.TheVariants.{State}

abbrev pub minute_number : Option Minute → Option ℕ
minute_number minute = option_map (λ (m : Minute). m.0) minute

abbrev pub minute_data : Option Minute → Option Data
minute_data minute = option_map (λ (m : Minute). number (unsigned m.0)) minute

-- what a team's attempts at the problem at a place come to; the minute is there only where it is solved
abbrev pub cell_data : Setup → (problem : ℕ) → Cell → Data
cell_data s problem c =
    object (member (codes "num_judged") (number (unsigned c.judged))
    (member (codes "num_pending") (number (unsigned c.pending))
    (member (codes "problem_id") (string (problem_id_at s.problems problem))
    (member (codes "solved") (boolean (is_solved c))
    (member_where (minute_data c.solved) (codes "time") no_members)))))

-- how a team stands: problems solved, the last minute at which it solved one, total time
abbrev pub score_data : Score → Data
score_data s =
    object (member (codes "num_solved") (number (unsigned s.solved))
    (member (codes "time") (number_or_null (minute_number s.last))
    (member (codes "total_time") (number (unsigned s.total)) no_members)))

-- the cells of a row, each under the problem of its column
abbrev pub cells_data : Setup → (columns : List ℕ) → List Cell → Data
cells_data s columns cells = array (items_of (map (λ p. cell_data s p.0 p.1) (zip columns cells)))

abbrev pub row_data : Setup → (columns : List ℕ) → Row → Data
row_data s columns r =
    object (member (codes "problems") (cells_data s columns r.cells)
    (member (codes "rank") (number (unsigned r.rank))
    (member (codes "score") (score_data r.score)
    (member (codes "team_id") (string (team_id_at s r.team)) no_members))))

-- the rows, from the top
abbrev pub rows_data : Setup → (columns : List ℕ) → List Row → Data
rows_data s columns rows = array (items_of (map (row_data s columns) rows))

-- a board at a moment, with the state of the contest's clock
abbrev pub board_data : FixedPart → (now : ℕ) → Scoreboard → Data
board_data f now b =
    object (member (codes "contest_time") (contest_time_data f.marks.start now)
    (member (codes "rows") (rows_data f.settings b.columns b.rows)
    (member (codes "state") (whole_data State f now)
    (member (codes "time") (string (moment_text now)) no_members))))

-- the board that an audience sees, of a group where one is given
abbrev pub scoreboard_data : Audience → (now : ℕ) → (group : Option ℕ) → ContestState → Data
scoreboard_data a now group x = board_data x.fixed now (seen_board a now group x)

-- the same of the group with an id, if there is one
abbrev pub group_scoreboard_found : Audience → (now : ℕ) → ContestState → (id : List ℕ) → Option Data
group_scoreboard_found a now x id = option_map (λ group. scoreboard_data a now (Some group) x) (place_of id (map (λ g. g.id) x.fixed.settings.groups))

-- the group is one of the settings, or there is none to be
abbrev pub has_group : Setup → Option ℕ → Bool
has_group s None = true
has_group s (Some group) = nat_lt group (length s.groups)

-- the board that an audience sees, if it is there: a team may not be, nor the group
abbrev pub board_found : Audience → (now : ℕ) → (group : Option ℕ) → ContestState → Option Scoreboard
board_found a now group x = if is_audience x.fixed.settings a && has_group x.fixed.settings group then Some (seen_board a now group x) else None
