-- A clarification as it is served (Contest API 2023-06, clarifications; which members it has is this desk's choice).
use Rattle.std.specs.Prelude.{ℕ, Bool, List, Option, Some, None, codes, if◌then◌else◌}
use Rattle.std.specs.Option.{option_map}
use Rattle.serde_json.specs.Data.{Data, Members, string, object, member, no_members}
use Rattle.contest_types.specs.MomentText.{moment_text}
use Rattle.contest_types.specs.ProblemPlaces.{problem_id_at}
use Rattle.contest_types.specs.Setup.{Setup}
use Rattle.contest_types.specs.Sight.{SeenClarification}
use Rattle.contest_types.specs.State.{FixedPart}
use Rattle.contest_types.specs.SettingsNames.{group_id_at}
use Rattle.contest_types.specs.TeamPlaces.{team_id_at}
use Rattle.contest_types.specs.VisibleIds.{clarification_id}
use Rattle.contest_types.specs.declared.clarification.Addressee.{Addressee}
use Rattle.contest_types.specs.declared.clarification.Addressee.TheVariants.{All as ToAll, Group as ToGroup, Team as ToTeam}
use Rattle.contest_types.specs.declared.clarification.Reference.{Reference}
use Rattle.contest_objects.specs.Items.{Item}
use Rattle.contest_objects.specs.Members.{text_or_null}
use Rattle.contest_objects.specs.Objects.{member_where}
use Rattle.contest_objects.specs.Times.{contest_time_data}

-- the team whose clarification it is, if it is a team's
abbrev pub team_of : Setup → Addressee → Option (List ℕ)
team_of s ToAll = None
team_of s (ToGroup group) = None
team_of s (ToTeam team) = Some (team_id_at s team)

-- the group that it goes to, if it goes to one
abbrev pub group_of : Setup → Addressee → Option (List ℕ)
group_of s ToAll = None
group_of s (ToGroup group) = Some (group_id_at s group)
group_of s (ToTeam team) = None

-- who wrote it, and to whom: a team to the jury, or the jury to a team; of what goes to a group or to all neither says
abbrev pub writer : Setup → Addressee → (from_jury : Bool) → Option (List ℕ)
writer s addressee from_jury = if from_jury then None else team_of s addressee

abbrev pub receiver : Setup → Addressee → (from_jury : Bool) → Option (List ℕ)
receiver s addressee from_jury = if from_jury then team_of s addressee else None

-- a clarification, by the values of its members: that of the group is only there where it goes to one
abbrev pub clarification_members : (start : Option ℕ) → (from : Option (List ℕ)) → (id : List ℕ) → (problem reply : Option (List ℕ)) → (text : List ℕ) → (time : ℕ) → (group to : Option (List ℕ)) → Members
clarification_members start from id problem reply text time group to =
    member (codes "contest_time") (contest_time_data start time)
    (member (codes "from_team_id") (text_or_null from)
    (member (codes "id") (string id)
    (member (codes "problem_id") (text_or_null problem)
    (member (codes "reply_to_id") (text_or_null reply)
    (member (codes "text") (string text)
    (member (codes "time") (string (moment_text time))
    (member_where (option_map string group) (codes "to_group_id")
    (member (codes "to_team_id") (text_or_null to) no_members))))))))

abbrev pub reference_id : Reference → List ℕ
reference_id r = clarification_id r.addressee r.number

abbrev pub clarification_data : FixedPart → SeenClarification → Data
clarification_data f v =
    object (clarification_members f.marks.start (writer f.settings v.addressee v.from_jury) (clarification_id v.addressee v.number) (option_map (problem_id_at f.settings.problems) v.problem)
    (option_map reference_id v.reply) v.text v.time (group_of f.settings v.addressee) (receiver f.settings v.addressee v.from_jury))

abbrev pub clarification_item : FixedPart → SeenClarification → Item
clarification_item f v = record { id = clarification_id v.addressee v.number; object = clarification_data f v }
