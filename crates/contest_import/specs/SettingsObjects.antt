-- What the objects of settings files say (Contest API 2023-06: judgement types, languages, problems, groups
-- and teams; which members are read is own).
use Rattle.std.specs.Prelude.{[], codes, Option, Some, None, Result, Ok, Err}
use Rattle.std.specs.Option.{option_and_then, option_map}
use Rattle.serde_json.specs.Data.{Data}
use Rattle.contest_files.specs.IdArrays.{ids_in}
use Rattle.contest_types.specs.State.{FixedPart}
use Rattle.contest_types.specs.declared.entry.Entry.{Entry}
use Rattle.contest_types.specs.declared.entry.Entry.TheVariants.{NewType, NewLanguage, NewProblem, NewGroup}
use Rattle.contest_types.specs.declared.refusal.Cause.{Cause}
use Rattle.contest_types.specs.declared.refusal.Cause.TheVariants as cause
use Rattle.contest_files.specs.JsonMembers.{flag_in, flag_or_false, id_in, name_in, number_in, or_usual, present_in}
use Rattle.contest_import.specs.Teams.{team_or_malformed}
use Rattle.contest_types.specs.declared.import_kind.SettingsKind.{SettingsKind}
use Rattle.contest_types.specs.declared.import_kind.SettingsKind.TheVariants as kind
use Rattle.contest_import.specs.declared.team_row.TeamRow.{TeamRow}

-- a row that is read, or off its form
abbrev pub or_malformed : Option Entry → Result Entry Cause
or_malformed None = Err cause.Malformed
or_malformed (Some row) = Ok row

-- id, name, solved, and penalty, which is false where it isn't there
abbrev pub type_in : Data → Option Entry
type_in d =
    option_and_then (λ id. option_and_then (λ name. option_and_then (λ solved. option_map
    (λ penalty. NewType (record { id = id; name = name; solved = solved; penalty = penalty }))
    (flag_or_false (codes "penalty") d)) (flag_in (codes "solved") d)) (name_in (codes "name") d)) (id_in (codes "id") d)

-- id, name, and entry_point_required, which is false where it isn't there
abbrev pub language_in : Data → Option Entry
language_in d =
    option_and_then (λ id. option_and_then (λ name. option_map
    (λ required. NewLanguage (record { id = id; name = name; entry_point_required = required }))
    (flag_or_false (codes "entry_point_required") d)) (name_in (codes "name") d)) (id_in (codes "id") d)

-- id, label, name and ordinal
abbrev pub problem_in : Data → Option Entry
problem_in d =
    option_and_then (λ id. option_and_then (λ label. option_and_then (λ name. option_map
    (λ ordinal. NewProblem (record { id = id; label = label; name = name; ordinal = ordinal }))
    (number_in 65_535 (codes "ordinal") d)) (name_in (codes "name") d)) (name_in (codes "label") d)) (id_in (codes "id") d)

-- id and name
abbrev pub group_in : Data → Option Entry
group_in d = option_and_then (λ id. option_map (λ name. NewGroup (record { id = id; name = name })) (name_in (codes "name") d)) (id_in (codes "id") d)

-- id, name, group_ids, which is empty where it isn't there, and hidden, which is false
abbrev pub team_in : Data → Option TeamRow
team_in d =
    option_and_then (λ id. option_and_then (λ name. option_and_then (λ groups. option_map
    (λ hidden. record { id = id; name = name; groups = groups; hidden = hidden })
    (flag_or_false (codes "hidden") d)) (or_usual [] ids_in (present_in (codes "group_ids") d))) (name_in (codes "name") d)) (id_in (codes "id") d)

-- the row that an object of a settings file says
abbrev pub object_row : SettingsKind → FixedPart → Data → Result Entry Cause
object_row kind.JudgementTypes f d = or_malformed (type_in d)
object_row kind.Languages f d = or_malformed (language_in d)
object_row kind.Problems f d = or_malformed (problem_in d)
object_row kind.Groups f d = or_malformed (group_in d)
object_row kind.Teams f d = team_or_malformed f.settings (team_in d)
