-- A contest as the records of a replay build it up, record by record. The start is moment 0, and each
-- verdict is released at its submission's time, so a submission is known by its last verdict.
use Rattle.std.specs.Prelude.{ℕ, ℤ, pos, negsuc, ◌&&◌, ◌||◌, ◌==◌, Bool, false, List, [], ◌∷◌, ◌++◌, Option, Some, None, Result, Ok, Err, if◌then◌else◌, codes, map, filter, fold, max, length, nat_lt, nat_le}
use Rattle.std.specs.Option.{option_and_then, option_map}
use Rattle.std.specs.Str.{bytes_eq}
use Rattle.contest_types.specs.PlainRows.{plain_language}
use Rattle.contest_types.specs.IdText.{is_id}
use Rattle.contest_types.specs.Places.{place_of}
use Rattle.contest_types.specs.RelTimeRead.{reltime_of}
use Rattle.contest_types.specs.Setup.{Setup, is_valid_head}
use Rattle.contest_types.specs.SetupAdditions.{type_addition, problem_addition, team_addition, with_type, with_problem, with_team}
use Rattle.contest_types.specs.declared.contest.ContestHead.{ContestHead}
use Rattle.contest_types.specs.declared.objects.JudgementType.{JudgementType}
use Rattle.contest_types.specs.declared.objects.Language.{Language}
use Rattle.contest_types.specs.declared.objects.Problem.{Problem}
use Rattle.contest_types.specs.declared.objects.Team.{Team}
use Rattle.contest_types.specs.declared.refusal.Cause.{Cause}
use Rattle.contest_types.specs.declared.refusal.Cause.TheVariants as cause
use Rattle.contest_types.specs.declared.limits.TheConstants.{TEAM_SUBMISSIONS}
use Rattle.contest_score.specs.declared.submission.JudgedSubmission.{JudgedSubmission}
use Rattle.contest_replay.specs.declared.replay.submission_row.SubmissionRefs.{SubmissionRefs}
use Rattle.contest_files.specs.FieldTexts.{Text, is_empty}
use Rattle.contest_replay.specs.ReplayRecord.{FiveFields}
use Rattle.contest_replay.specs.ReplayRows.{head_row, type_row, problem_row, team_row}

-- the settings, and the submissions in order
pub record ReplayLists : Type 0 where
  pub settings : Setup
  pub submissions : List JudgedSubmission

-- the one language of a replay
abbrev pub any_language : Language
any_language = plain_language (codes "any") (codes "any")

abbrev pub Judged : Type 0
Judged = Result ReplayLists Cause

-- what is read, handed on, or off its form
abbrev pub or_malformed : {A : Type 0} → (A → Judged) → Option A → Judged
or_malformed next None = Err cause.Malformed
or_malformed next (Some row) = next row

-- the contest with its head alone
abbrev pub lists_of_head : ContestHead → Judged
lists_of_head head =
    if is_valid_head head
    then Ok (record { settings = record { head = head; types = []; languages = any_language ∷ []; problems = []; groups = []; teams = [] }; submissions = [] })
    else Err cause.Malformed

-- the settings that a row leads to
abbrev pub lists_with_settings : ReplayLists → (Bool → Setup) → Result Bool Cause → Judged
lists_with_settings r settings (Ok added) = Ok (record r { settings = settings added })
lists_with_settings r settings (Err c) = Err c

abbrev pub with_type_row : ReplayLists → JudgementType → Judged
with_type_row r row = lists_with_settings r (λ added. with_type added r.settings row) (type_addition r.settings row)

abbrev pub with_problem_row : ReplayLists → Problem → Judged
with_problem_row r row = lists_with_settings r (λ added. with_problem added r.settings row) (problem_addition r.settings row)

abbrev pub with_team_row : ReplayLists → Team → Judged
with_team_row r row = lists_with_settings r (λ added. with_team added r.settings row) (team_addition r.settings row)

-- the submissions of the team at a place
abbrev pub team_submissions : ℕ → List JudgedSubmission → List JudgedSubmission
team_submissions team us = filter (λ u. u.team == team) us

-- the latest of their times, 0 where there is none
abbrev pub last_time : ℕ → List JudgedSubmission → ℕ
last_time team us = fold max 0 (map (λ u. u.time) (team_submissions team us))

-- the place of a judgement type, or nothing for no verdict
abbrev pub verdict_place : Setup → Text → Option (Option ℕ)
verdict_place s text = if is_empty text then Some None else option_map Some (place_of text (map (λ t. t.id) s.types))

abbrev pub refs_of : Setup → FiveFields → Option SubmissionRefs
refs_of s f =
    option_and_then (λ team. option_and_then (λ problem. option_map (λ verdict. record { team = team; problem = problem; verdict = verdict })
    (verdict_place s f.f3)) (place_of f.f1 (map (λ p. p.id) s.problems))) (place_of f.id (map (λ t. t.id) s.teams))

-- the record's team, problem and judgement type, if there is one, are ids
abbrev pub names_ids : FiveFields → Bool
names_ids f = is_id f.id && is_id f.f1 && (is_empty f.f3 || is_id f.f3)

-- a contest time from the start to before the end
abbrev pub within : ℕ → ℤ → Option ℕ
within duration (pos time) = if nat_lt time duration then Some time else None
within duration (negsuc n) = None

-- a submission at a contest time: it counts from its team's last time on
abbrev pub new_submission : ReplayLists → SubmissionRefs → ℕ → JudgedSubmission
new_submission r p time = record { team = p.team; problem = p.problem; time = max time (last_time p.team r.submissions); verdict = p.verdict }

abbrev pub addition_at : ReplayLists → SubmissionRefs → Option ℕ → Judged
addition_at r p None = Err cause.NotOpen
addition_at r p (Some time) = Ok (record r { submissions = r.submissions ++ new_submission r p time ∷ [] })

abbrev pub submission_addition : ReplayLists → SubmissionRefs → ℤ → Judged
submission_addition r p time =
    if nat_le TEAM_SUBMISSIONS (length (team_submissions p.team r.submissions)) then Err cause.TableFull else addition_at r p (within r.settings.head.duration time)

-- why a record names no places: a text that isn't an id, or one that isn't there
abbrev pub reference_fault : FiveFields → Cause
reference_fault f = if names_ids f then cause.UnknownReference else cause.Malformed

-- `submission`: team, problem, contest time, and judgement type or nothing
abbrev pub named_addition : ReplayLists → FiveFields → ℤ → Option SubmissionRefs → Judged
named_addition r f time None = Err (reference_fault f)
named_addition r f time (Some p) = submission_addition r p time

abbrev pub with_submission : ReplayLists → FiveFields → Judged
with_submission r f = or_malformed (λ time. named_addition r f time (refs_of r.settings f)) (reltime_of f.f2)

-- one more record of a contest whose head stands
abbrev pub lists_with : ReplayLists → FiveFields → Judged
lists_with r f =
    if bytes_eq f.kind (codes "submission") then with_submission r f
    else (if bytes_eq f.kind (codes "team") then or_malformed (with_team_row r) (team_row f)
    else (if bytes_eq f.kind (codes "problem") then or_malformed (with_problem_row r) (problem_row f)
    else (if bytes_eq f.kind (codes "type") then or_malformed (with_type_row r) (type_row f) else Err cause.Malformed)))

-- the first record is the contest
abbrev pub first_lists : FiveFields → Judged
first_lists f = if bytes_eq f.kind (codes "contest") then or_malformed lists_of_head (head_row f) else Err cause.Malformed

-- what one more record makes of what was read before
abbrev pub lists_after : Option ReplayLists → FiveFields → Judged
lists_after None f = first_lists f
lists_after (Some r) f = lists_with r f
