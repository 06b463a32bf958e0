-- What an audience sees of a contest (Contest API 2023-06, submissions, judgements and
-- clarifications; DOMjudge manual, "Scoreboard" and "Clarifications").
use Rattle.std.specs.Prelude.{ℕ, ◌-◌, Bool, true, false, ◌&&◌, ◌||◌, nat_lt, List, [], ◌∷◌, ◌++◌, map, Option, Some, None, if◌then◌else◌}
use Rattle.std.specs.List.{flat_map, last_or}
use Rattle.std.specs.Option.{option_map, option_and_then}
use Rattle.std.specs.declared.cmp.Ordering.{Ordering}
use Rattle.contest_types.specs.Setup.{Setup}
use Rattle.contest_types.specs.TeamPlaces.{team_places, group_places, team_id_at, is_of_group, is_public}
use Rattle.contest_types.specs.Order.{by_number, by_text, by_each, in_order}
use Rattle.contest_types.specs.VisibleIds.{clarification_id}
use Rattle.contest_types.specs.Clock.{is_frozen}
use Rattle.contest_types.specs.Masks.{knows_all_of, mask_for, verdict_under}
use Rattle.contest_types.specs.State.{ContestState, submissions_of, releases_on, clarifications_to}
use Rattle.contest_types.specs.declared.audience.Audience.{Audience}
use Rattle.contest_types.specs.declared.audience.Audience.TheVariants as audience
use Rattle.contest_types.specs.declared.submission.Submission.{Submission}
use Rattle.contest_types.specs.declared.submission.Release.{Release}
use Rattle.contest_types.specs.declared.clarification.Clarification.{Clarification}
use Rattle.contest_types.specs.declared.clarification.Addressee.{Addressee}
use Rattle.contest_types.specs.declared.clarification.Addressee.TheVariants.{All as ToAll, Group as ToGroup, Team as ToTeam}
use Rattle.contest_types.specs.declared.clarification.Reference.{Reference}

-- what a release says of the submission that it is on
pub record Judgement : Type 0 where
  pub round : ℕ
  pub verdict : ℕ
  pub time : ℕ

abbrev pub judgement_of : Release → Judgement
judgement_of v = record { round = v.round; verdict = v.verdict; time = v.time }

-- all that was released on a submission, in order
abbrev pub judgements_on : ContestState → Submission → List Judgement
judgements_on x s = map judgement_of (releases_on s.team s.number x.releases)

-- of the releases on a team's submission with this number the last counts
abbrev pub last_on : List Release → (team number : ℕ) → Option Judgement
last_on releases team number = last_or None (map judgement_of (releases_on team number releases))

abbrev pub last_judgement : ContestState → Submission → Option Judgement
last_judgement x s = last_on x.releases s.team s.number

abbrev pub type_of : Option Judgement → Option ℕ
type_of = option_map (λ j. j.verdict)

-- the type that was released last, or none
abbrev pub full_verdict : ContestState → Submission → Option ℕ
full_verdict x s = type_of (last_judgement x s)

-- the same, but none where the submission is frozen
abbrev pub held_verdict : ContestState → Submission → Option ℕ
held_verdict x s = if is_frozen x.fixed.settings x.fixed.marks s.time then None else full_verdict x s

-- the submissions of the team at this place are seen: by the jury and by the team itself, and by
-- anyone unless it is hidden
abbrev pub sees_team : Audience → Setup → ℕ → Bool
sees_team a s team = knows_all_of a team || is_public s team

abbrev pub sees_submission : Audience → ContestState → Submission → Bool
sees_submission a x s = sees_team a x.fixed.settings s.team

-- what the audience sees now of the verdicts on a submission
abbrev pub seen_judgement : Audience → ℕ → ContestState → Submission → Option Judgement
seen_judgement a now x s =
    if sees_submission a x s then verdict_under (mask_for a x.fixed.marks now s.team) x.fixed.settings x.fixed.marks s.time (last_judgement x s) else None

abbrev pub seen_verdict : Audience → ℕ → ContestState → Submission → Option ℕ
seen_verdict a now x s = type_of (seen_judgement a now x s)

-- a file, and where its program starts
pub record Program : Type 0 where
  pub file : List ℕ
  pub entry_point : Option (List ℕ)

-- a submission as an audience sees it: the program is for the team itself and the jury alone
pub record SeenSubmission : Type 0 where
  pub team : ℕ
  pub number : ℕ
  pub time : ℕ
  pub problem : ℕ
  pub language : ℕ
  pub program : Option Program
  pub judgement : Option Judgement

abbrev pub program_of : Submission → Program
program_of s = record { file = s.file; entry_point = s.entry_point }

abbrev pub program_for : Audience → Submission → Option Program
program_for a s = if knows_all_of a s.team then Some (program_of s) else None

abbrev pub seen_submission : Audience → ℕ → ContestState → Submission → SeenSubmission
seen_submission a now x s = record {
  team = s.team;
  number = s.number;
  time = s.time;
  problem = s.problem;
  language = s.language;
  program = program_for a s;
  judgement = seen_judgement a now x s;
}

-- what is seen of one team's submissions
abbrev pub seen_of_team : Audience → ℕ → ContestState → ℕ → List SeenSubmission
seen_of_team a now x team =
    if sees_team a x.fixed.settings team then map (seen_submission a now x) (submissions_of team x.submissions) else []

-- by time, then team id, then number
abbrev pub submission_cmp : Setup → SeenSubmission → SeenSubmission → Ordering
submission_cmp s = by_each (by_number (λ v. v.time) ∷ by_text (λ v. team_id_at s v.team) ∷ by_number (λ v. v.number) ∷ [])

-- all that an audience sees of submissions: gathered team by team, so that the order in which
-- different teams' submissions were accepted never enters
abbrev pub seen_submissions : Audience → ℕ → ContestState → List SeenSubmission
seen_submissions a now x = in_order (submission_cmp x.fixed.settings) (flat_map (seen_of_team a now x) (team_places x.fixed.settings))

-- what goes to a group is heard by the jury and by each team that is in it; the number of a team counts from 1
abbrev pub hears_group : Audience → Setup → ℕ → Bool
hears_group audience.Public s group = false
hears_group (audience.Team number) s group = nat_lt 0 number && is_of_group s group (number - 1)
hears_group audience.Jury s group = true

-- what belongs to an addressee is heard: by the jury and by all to whom it goes
abbrev pub hears : Audience → Setup → Addressee → Bool
hears a s ToAll = true
hears a s (ToGroup group) = hears_group a s group
hears a s (ToTeam team) = knows_all_of a team

abbrev pub sees_clarification : Audience → Setup → Clarification → Bool
sees_clarification a s c = hears a s c.addressee

-- which clarification is answered is told only where that one is heard too
abbrev pub heard_reference : Audience → Setup → Reference → Option Reference
heard_reference a s r = if hears a s r.addressee then Some r else None

-- a clarification as an audience sees it: never who wrote it for the jury, and no key
pub record SeenClarification : Type 0 where
  pub addressee : Addressee
  pub number : ℕ
  pub from_jury : Bool
  pub problem : Option ℕ
  pub reply : Option Reference
  pub text : List ℕ
  pub time : ℕ

abbrev pub seen_clarification : Audience → Setup → Clarification → SeenClarification
seen_clarification a s c = record {
  addressee = c.addressee;
  number = c.number;
  from_jury = c.from_jury;
  problem = c.problem;
  reply = option_and_then (heard_reference a s) c.reply;
  text = c.text;
  time = c.time;
}

-- what is heard of one addressee's clarifications
abbrev pub heard_of : Audience → ContestState → Addressee → List SeenClarification
heard_of a x addressee = if hears a x.fixed.settings addressee then map (seen_clarification a x.fixed.settings) (clarifications_to addressee x.clarifications) else []

-- by time, then by the bytes of the id
abbrev pub clarification_cmp : SeenClarification → SeenClarification → Ordering
clarification_cmp = by_each (by_number (λ c. c.time) ∷ by_text (λ c. clarification_id c.addressee c.number) ∷ [])

abbrev pub addressees : Setup → List Addressee
addressees s = ToAll ∷ (map ToGroup (group_places s) ++ map ToTeam (team_places s))

-- all that an audience hears
abbrev pub seen_clarifications : Audience → ContestState → List SeenClarification
seen_clarifications a x = in_order clarification_cmp (flat_map (heard_of a x) (addressees x.fixed.settings))
