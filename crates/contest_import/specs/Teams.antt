-- A team as a file tells of it: its groups by their ids (Contest API 2023-06, teams).
use Rattle.std.specs.Prelude.{ℕ, List, Option, Some, None, Result, Ok, Err, map, if◌then◌else◌}
use Rattle.std.specs.Option.{option_map}
use Rattle.contest_types.specs.Options.{all_some}
use Rattle.contest_types.specs.Places.{are_different, place_of}
use Rattle.contest_types.specs.Setup.{Setup}
use Rattle.contest_types.specs.declared.entry.Entry.{Entry}
use Rattle.contest_types.specs.declared.entry.Entry.TheVariants.{NewTeam}
use Rattle.contest_types.specs.declared.objects.Group.{Group}
use Rattle.contest_types.specs.declared.objects.Team.{Team}
use Rattle.contest_types.specs.declared.refusal.Cause.{Cause}
use Rattle.contest_types.specs.declared.refusal.Cause.TheVariants as cause
use Rattle.contest_import.specs.declared.team_row.TeamRow.{TeamRow}

-- the places of the groups with these ids, if all are there
abbrev pub group_places : Setup → List (List ℕ) → Option (List ℕ)
group_places s ids = all_some (map (λ id. place_of id (map (λ (g : Group). g.id) s.groups)) ids)

abbrev pub team_by : TeamRow → Option (List ℕ) → Result Entry Cause
team_by t None = Err cause.UnknownReference
team_by t (Some groups) = Ok (NewTeam (record { id = t.id; name = t.name; groups = groups; hidden = t.hidden }))

-- the team that is told of, if its groups are there
abbrev pub named_team : Setup → TeamRow → Option Team
named_team s t = option_map (λ groups. record { id = t.id; name = t.name; groups = groups; hidden = t.hidden }) (group_places s t.groups)

abbrev pub team_of : Setup → TeamRow → Result Entry Cause
team_of s t = team_by t (group_places s t.groups)

-- a team that is read, or off its form; a group that is named twice is off the form
abbrev pub team_or_malformed : Setup → Option TeamRow → Result Entry Cause
team_or_malformed s None = Err cause.Malformed
team_or_malformed s (Some t) = if are_different t.groups then team_of s t else Err cause.Malformed
