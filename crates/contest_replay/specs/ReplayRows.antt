-- What the records of a replay say: a contest, its judgement types, problems and teams.
use Rattle.std.specs.Prelude.{false, [], Option, Some, None, if◌then◌else◌}
use Rattle.std.specs.Option.{option_and_then, option_map}
use Rattle.contest_types.specs.PlainRows.{plain_problem, plain_team, plain_type}
use Rattle.contest_types.specs.IdText.{id_of}
use Rattle.contest_types.specs.NameText.{name_from}
use Rattle.contest_types.specs.declared.contest.ContestHead.{ContestHead}
use Rattle.contest_types.specs.declared.contest.Medals.{Medals}
use Rattle.contest_types.specs.declared.objects.JudgementType.{JudgementType}
use Rattle.contest_types.specs.declared.objects.Problem.{Problem}
use Rattle.contest_types.specs.declared.objects.Team.{Team}
use Rattle.contest_files.specs.FieldTexts.{is_empty, flag_of, flag_or_empty, span_of, span_or_empty, ordinal_of}
use Rattle.contest_replay.specs.ReplayRecord.{FiveFields}

-- four places for each kind of medal
abbrev pub usual_medals : Medals
usual_medals = record { gold = 4; silver = 4; bronze = 4 }

-- `contest`: id, name, duration, and the freeze's duration or nothing
abbrev pub head_row : FiveFields → Option ContestHead
head_row f =
    option_and_then (λ id. option_and_then (λ name. option_and_then (λ duration. option_map
    (λ freeze. record { id = id; name = name; duration = duration; freeze = freeze; penalty_time = 20; verification = false; medals = usual_medals })
    (span_or_empty f.f3)) (span_of f.f2)) (name_from f.f1)) (id_of f.id)

-- `type`: id, name, whether it solves, and whether it costs penalty time
abbrev pub type_row : FiveFields → Option JudgementType
type_row f =
    option_and_then (λ id. option_and_then (λ name. option_and_then (λ solved. option_map
    (λ penalty. plain_type id name solved penalty)
    (flag_of f.f3)) (flag_of f.f2)) (name_from f.f1)) (id_of f.id)

-- `problem`: id, label, name and ordinal
abbrev pub problem_row : FiveFields → Option Problem
problem_row f =
    option_and_then (λ id. option_and_then (λ label. option_and_then (λ name. option_map
    (λ ordinal. plain_problem id label name ordinal)
    (ordinal_of f.f3)) (name_from f.f2)) (name_from f.f1)) (id_of f.id)

-- `team`: id, name, whether it is hidden, and nothing
abbrev pub team_row : FiveFields → Option Team
team_row f =
    option_and_then (λ id. option_and_then (λ name. option_and_then
    (λ hidden. if is_empty f.f3 then Some (record (plain_team id name) { hidden = hidden }) else None)
    (flag_or_empty f.f2)) (name_from f.f1)) (id_of f.id)
