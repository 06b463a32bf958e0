-- A judgement as it is served (Contest API 2023-06, judgements; which members it has is this desk's choice).
use Rattle.std.specs.Prelude.{ℕ, List, Option, codes}
use Rattle.serde_json.specs.Data.{Data, Members, string, object, member, no_members}
use Rattle.contest_types.specs.MomentText.{moment_text}
use Rattle.contest_types.specs.SettingsNames.{type_id_at}
use Rattle.contest_types.specs.Sight.{Judgement}
use Rattle.contest_types.specs.State.{FixedPart}
use Rattle.contest_types.specs.VisibleIds.{judgement_id, submission_id}
use Rattle.contest_objects.specs.Items.{Item}
use Rattle.contest_objects.specs.Times.{contest_time_data}

-- a judgement, by the values of its members; it starts and ends when it is released
abbrev pub judgement_members : (id judgement_type : List ℕ) → (start : Option ℕ) → (submission : List ℕ) → (time : ℕ) → Members
judgement_members id judgement_type start submission time =
    member (codes "end_contest_time") (contest_time_data start time)
    (member (codes "end_time") (string (moment_text time))
    (member (codes "id") (string id)
    (member (codes "judgement_type_id") (string judgement_type)
    (member (codes "start_contest_time") (contest_time_data start time)
    (member (codes "start_time") (string (moment_text time))
    (member (codes "submission_id") (string submission) no_members))))))

-- that of a team's submission with this number
abbrev pub judgement_data : FixedPart → (team number : ℕ) → Judgement → Data
judgement_data f team number j =
    object (judgement_members (judgement_id team number j.round) (type_id_at f.settings j.verdict) f.marks.start (submission_id team number) j.time)

abbrev pub judgement_item : FixedPart → (team number : ℕ) → Judgement → Item
judgement_item f team number j = record { id = judgement_id team number j.round; object = judgement_data f team number j }
