-- What the objects of a feed say beside their ids (Contest API 2020-03, 2022-07 and 2023-06: contest,
-- judgement types, problems, groups, teams, submissions and judgements; which members are read is own). A
-- member that is null is as one that isn't there.
use Rattle.std.specs.Prelude.{ℕ, ℤ, ◌&&◌, Bool, true, [], Option, Some, None, if◌then◌else◌, codes, false, nat_le, nat_lt}
use Rattle.std.specs.Option.{option_and_then, option_map}
use Rattle.serde_json.specs.Data.{Data}
use Rattle.serde_json.specs.Find.{as_bool, as_str}
use Rattle.contest_types.specs.NameText.{name_of}
use Rattle.contest_types.specs.RelTimeRead.{reltime_of}
use Rattle.contest_types.specs.Setup.{has_valid_freeze}
use Rattle.contest_types.specs.declared.contest.ContestHead.{ContestHead}
use Rattle.contest_types.specs.declared.limits.TheConstants.{LONGEST_CONTEST, PENALTY_MINUTES}
use Rattle.contest_files.specs.FieldTexts.{Text, span_of}
use Rattle.contest_files.specs.IdArrays.{ids_in}
use Rattle.contest_files.specs.JsonMembers.{flag_or_false, id_in, name_in, number_in, optional, optional_id_in, or_usual, present_in, text_in}
use Rattle.contest_import.specs.ContestFile.{freeze_of, penalty_of, usual_medals}
use Rattle.contest_feed_reader.specs.declared.objects.FeedType.{FeedType}
use Rattle.contest_feed_reader.specs.declared.objects.FeedProblem.{FeedProblem}
use Rattle.contest_feed_reader.specs.declared.objects.FeedGroup.{FeedGroup}
use Rattle.contest_feed_reader.specs.declared.objects.FeedTeam.{FeedTeam}
use Rattle.contest_feed_reader.specs.declared.submissions.FeedSubmission.{FeedSubmission}
use Rattle.contest_feed_reader.specs.declared.submissions.FeedJudgement.{FeedJudgement}

-- what a contest says beside its id
pub record ContestMembers : Type 0 where
  pub name : Text
  pub duration : ℕ
  pub freeze : Option ℕ
  pub penalty_time : ℕ

-- a name, where it is there, else another member
abbrev pub name_or : (other : Text) → Data → Option Data → Option Text
name_or other d None = name_in other d
name_or other d (Some v) = option_and_then name_of (as_str v)

-- the name that a member says; where that isn't there another does
abbrev pub first_name : (first other : Text) → Data → Option Text
first_name first other d = name_or other d (present_in first d)

-- a member that is true or false, and true where it isn't there
abbrev pub flag_or_true : Text → Data → Option Bool
flag_or_true name d = or_usual true as_bool (present_in name d)

-- a member that is a relative time
abbrev pub time_in : Text → Data → Option ℤ
time_in name d = option_and_then reltime_of (text_in name d)

-- one that need not be there
abbrev pub optional_time_in : Text → Data → Option (Option ℤ)
optional_time_in name d = optional (λ v. option_map Some (option_and_then reltime_of (as_str v))) (present_in name d)

-- the head of a contest with this id
abbrev pub head_of : (id : Text) → ContestMembers → ContestHead
head_of id c = record { id = id; name = c.name; duration = c.duration; freeze = c.freeze; penalty_time = c.penalty_time; verification = false; medals = usual_medals }

-- each number is within its range, as for every contest
abbrev pub are_in_range : (duration : ℕ) → (freeze : Option ℕ) → (penalty : ℕ) → Bool
are_in_range duration freeze penalty =
    nat_lt 0 duration && nat_le duration LONGEST_CONTEST && has_valid_freeze freeze duration && nat_le penalty PENALTY_MINUTES

-- formal_name or else name, duration, scoreboard_freeze_duration, and penalty_time, which is 20 where it
-- isn't there
abbrev pub contest_members : Data → Option ContestMembers
contest_members d =
    option_and_then (λ duration. option_and_then (λ freeze. option_and_then (λ penalty. if are_in_range duration freeze penalty then
    option_map (λ name. record { name = name; duration = duration; freeze = freeze; penalty_time = penalty })
    (first_name (codes "formal_name") (codes "name") d)
    else None)
    (or_usual 20 penalty_of (present_in (codes "penalty_time") d)))
    (optional freeze_of (present_in (codes "scoreboard_freeze_duration") d)))
    (option_and_then span_of (text_in (codes "duration") d))

-- name, solved and penalty
abbrev pub type_members : Data → Option FeedType
type_members d =
    option_and_then (λ name. option_and_then (λ solved. option_map
    (λ penalty. record { name = name; solved = solved; penalty = penalty })
    (flag_or_false (codes "penalty") d)) (flag_or_false (codes "solved") d)) (name_in (codes "name") d)

-- label, name and ordinal
abbrev pub problem_members : Data → Option FeedProblem
problem_members d =
    option_and_then (λ label. option_and_then (λ name. option_map
    (λ ordinal. record { label = label; name = name; ordinal = ordinal })
    (number_in 65_535 (codes "ordinal") d)) (name_in (codes "name") d)) (name_in (codes "label") d)

-- hidden
abbrev pub group_members : Data → Option FeedGroup
group_members d = option_map (λ hidden. record { hidden = hidden }) (flag_or_false (codes "hidden") d)

-- display_name or else name, group_ids, which is empty where it isn't there, and hidden
abbrev pub team_members : Data → Option FeedTeam
team_members d =
    option_and_then (λ name. option_and_then (λ groups. option_map
    (λ hidden. record { name = name; groups = groups; hidden = hidden })
    (flag_or_false (codes "hidden") d)) (or_usual [] ids_in (present_in (codes "group_ids") d)))
    (first_name (codes "display_name") (codes "name") d)

-- team_id, problem_id and contest_time, which may be below zero
abbrev pub submission_members : Data → Option FeedSubmission
submission_members d =
    option_and_then (λ team. option_and_then (λ problem. option_map
    (λ time. record { team = team; problem = problem; time = time })
    (time_in (codes "contest_time") d)) (id_in (codes "problem_id") d)) (id_in (codes "team_id") d)

-- submission_id, judgement_type_id and end_contest_time, which need not be there, and whether it counts:
-- neither valid (2020-03) nor current (2023-06) is false
abbrev pub judgement_members : Data → Option FeedJudgement
judgement_members d =
    option_and_then (λ submission. option_and_then (λ type. option_and_then (λ ended. option_and_then (λ valid. option_map
    (λ current. record { submission = submission; verdict = type; ended = ended; counts = valid && current })
    (flag_or_true (codes "current") d)) (flag_or_true (codes "valid") d))
    (optional_time_in (codes "end_contest_time") d)) (optional_id_in (codes "judgement_type_id") d))
    (id_in (codes "submission_id") d)
