-- The contest that a feed spells, by the last event that names each object (Contest API 2020-03, 2022-07 and
-- 2023-06, event feed). The start is moment 0, and each verdict is released at its submission's time.
use Rattle.std.specs.Prelude.{ℕ, ◌&&◌, ◌||◌, Bool, not, List, [], ◌∷◌, Option, Some, None, Result, Ok, Err, filter, length, map, nat_le, if◌then◌else◌}
use Rattle.std.specs.List.{filter_map, list_any}
use Rattle.std.specs.Option.{option_and_then, option_map}
use Rattle.std.specs.Str.{bytes_eq}
use Rattle.contest_types.specs.PlainRows.{plain_problem, plain_team, plain_type}
use Rattle.contest_types.specs.Places.{is_among, place_of}
use Rattle.contest_types.specs.Setup.{Setup}
use Rattle.contest_types.specs.declared.objects.JudgementType.{JudgementType}
use Rattle.contest_types.specs.declared.objects.Problem.{Problem}
use Rattle.contest_types.specs.declared.objects.Team.{Team}
use Rattle.contest_types.specs.declared.refusal.Refusal.{Refusal}
use Rattle.contest_types.specs.declared.refusal.Refusal.TheVariants.{Malformed, ImportRow}
use Rattle.contest_score.specs.declared.submission.JudgedSubmission.{JudgedSubmission}
use Rattle.contest_files.specs.FieldTexts.{Text}
use Rattle.contest_replay.specs.ReplayLists.{any_language, within}
use Rattle.contest_feed_reader.specs.Objects.{ContestMembers, head_of}
use Rattle.contest_feed_reader.specs.References.{Fault, counts, first_fault, ids_of}
use Rattle.contest_feed_reader.specs.Tables.{tables_in}
use Rattle.contest_feed_reader.specs.Verdicts.{verdict_of}
use Rattle.contest_feed_reader.specs.declared.feed_contest.FeedContest.{FeedContest}
use Rattle.contest_feed_reader.specs.declared.feed_contest.LeftOut.{LeftOut}
use Rattle.contest_feed_reader.specs.declared.objects.FeedGroup.{FeedGroup}
use Rattle.contest_feed_reader.specs.declared.objects.FeedProblem.{FeedProblem}
use Rattle.contest_feed_reader.specs.declared.objects.FeedTeam.{FeedTeam}
use Rattle.contest_feed_reader.specs.declared.objects.FeedType.{FeedType}
use Rattle.contest_feed_reader.specs.declared.row.Row.{Row}
use Rattle.contest_feed_reader.specs.declared.submissions.FeedSubmission.{FeedSubmission}
use Rattle.contest_feed_reader.specs.declared.tables.Tables.{Tables}

abbrev pub type_of : Row FeedType → JudgementType
type_of row = plain_type row.id row.object.name row.object.solved row.object.penalty

abbrev pub problem_of : Row FeedProblem → Problem
problem_of row = plain_problem row.id row.object.label row.object.name row.object.ordinal

-- the group with this id stands, and hides its teams
abbrev pub hides : List (Row FeedGroup) → Text → Bool
hides groups id = list_any (λ group. bytes_eq group.id id && group.object.hidden) groups

-- a team is hidden if it says so, or one of its groups does
abbrev pub is_hidden : List (Row FeedGroup) → FeedTeam → Bool
is_hidden groups team = team.hidden || list_any (hides groups) team.groups

abbrev pub team_of : List (Row FeedGroup) → Row FeedTeam → Team
team_of groups row = record (plain_team row.id row.object.name) { hidden = is_hidden groups row.object }

-- the settings: no groups, and the one language of a replay
abbrev pub settings_of : Row ContestMembers → Tables → Setup
settings_of contest t = record {
  head = head_of contest.id contest.object;
  types = map type_of t.types;
  languages = any_language ∷ [];
  problems = map problem_of t.problems;
  groups = [];
  teams = map (team_of t.groups) t.teams;
}

-- a submission that counts, with its verdict; teams and problems go by their places among these ids
abbrev pub attempt_by : (duration : ℕ) → (teams problems : List Text) → (verdict : Text → Option ℕ) → Row FeedSubmission → Option JudgedSubmission
attempt_by duration teams problems verdict row =
    option_and_then (λ time. option_and_then (λ team. option_map
    (λ problem. record { team = team; problem = problem; time = time; verdict = verdict row.id })
    (place_of row.object.problem problems)) (place_of row.object.team teams)) (within duration row.object.time)

abbrev pub attempt_of : (duration : ℕ) → Tables → Row FeedSubmission → Option JudgedSubmission
attempt_of duration t row = attempt_by duration (ids_of t.teams) (ids_of t.problems) (verdict_of (ids_of t.types) t.judgements) row

-- an attempt before those that aren't earlier
abbrev pub put_by_time : JudgedSubmission → List JudgedSubmission → List JudgedSubmission
put_by_time u [] = u ∷ []
put_by_time u (v ∷ vs) = if nat_le u.time v.time then u ∷ v ∷ vs else v ∷ put_by_time u vs

-- attempts by contest time; those at one time as they stand
abbrev pub by_time : List JudgedSubmission → List JudgedSubmission
by_time [] = []
by_time (u ∷ us) = put_by_time u (by_time us)

abbrev pub attempts_of : (duration : ℕ) → Tables → List JudgedSubmission
attempts_of duration t = by_time (filter_map (attempt_of duration t) t.submissions)

-- how many submissions don't count, and how many judgements are of a submission that doesn't stand
abbrev pub left_out_of : (duration : ℕ) → Tables → LeftOut
left_out_of duration t = record {
  submissions = length (filter (λ row. not (counts duration row)) t.submissions);
  judgements = length (filter (λ row. not (is_among (ids_of t.submissions) row.object.submission)) t.judgements);
}

abbrev pub contest_by : Row ContestMembers → Tables → Option Fault → Result FeedContest Refusal
contest_by contest t (Some fault) = Err (ImportRow fault.0 fault.1)
contest_by contest t None = Ok (record {
  contest = record { settings = settings_of contest t; submissions = attempts_of contest.object.duration t };
  left_out = left_out_of contest.object.duration t;
})

-- the first of the contests is the contest
abbrev pub contest_under : List (Row ContestMembers) → Tables → Result FeedContest Refusal
contest_under [] t = Err Malformed
contest_under (contest ∷ others) t = contest_by contest t (first_fault contest.object.duration t)

-- the contest of these collections, or why they are refused
abbrev pub contest_of : Tables → Result FeedContest Refusal
contest_of t = contest_under t.contests t

abbrev pub contest_if : Result Tables Refusal → Result FeedContest Refusal
contest_if (Ok t) = contest_of t
contest_if (Err refusal) = Err refusal

-- the contest that the bytes of a feed spell, or why they are refused
abbrev pub contest_in_feed : List ℕ → Result FeedContest Refusal
contest_in_feed bytes = contest_if (tables_in bytes)
