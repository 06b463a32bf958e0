-- What judging a submission rests on and adds (DOMjudge manual, "Judging"; Contest API 2023-06, judgements).
use Rattle.std.specs.Prelude.{ℕ, ◌+◌, List, length, Option, Some, None}
use Rattle.std.specs.List.{filter_map, last_or}
use Rattle.std.specs.Option.{option_map}
use Rattle.contest_types.specs.State.{ContestState, SubmissionRef, releases_on, proposals_for}
use Rattle.contest_types.specs.Sight.{Judgement, SeenSubmission, seen_submissions}
use Rattle.contest_types.specs.declared.audience.Audience.{Audience}
use Rattle.contest_types.specs.declared.audience.Audience.TheVariants.{Jury}
use Rattle.contest_types.specs.declared.proposal.Proposal.{Proposal}
use Rattle.contest_types.specs.declared.submission.Release.{Release}

-- the release that comes next on a submission: its rounds count up from 1
abbrev pub next_release : ContestState → SubmissionRef → (verdict time : ℕ) → Release
next_release x on verdict time = record { team = on.team; number = on.number; round = length (releases_on on.team on.number x.releases) + 1; verdict = verdict; time = time }

-- the proposal that was accepted last for it
abbrev pub last_proposal : ContestState → SubmissionRef → Option Proposal
last_proposal x on = last_or None (proposals_for on.team on.number x.proposals)

-- a judgement that an audience sees, with the submission that it is on
pub record SeenJudgement : Type 0 where
  pub submission : SeenSubmission
  pub judgement : Judgement

abbrev pub judged : SeenSubmission → Option SeenJudgement
judged s = option_map (λ (j : Judgement). record { submission = s; judgement = j }) s.judgement

-- the judgements that an audience sees, in the order of their submissions: the last of each
abbrev pub seen_judgements : Audience → (now : ℕ) → ContestState → List SeenJudgement
seen_judgements a now x = filter_map judged (seen_submissions a now x)

-- a submission that waits for a release, with the proposal that stands for it
pub record Proposed : Type 0 where
  pub submission : SeenSubmission
  pub proposal : Proposal

abbrev pub waiting : ContestState → SeenSubmission → Option Proposed
waiting x s = elim s.judgement [
  | None ↦ option_map (λ (p : Proposal). record { submission = s; proposal = p }) (last_proposal x (record { team = s.team; number = s.number }))
  | (Some j) ↦ None
]

-- what the jury has proposed and not released, in the order of the submissions
abbrev pub open_proposals : (now : ℕ) → ContestState → List Proposed
open_proposals now x = filter_map (waiting x) (seen_submissions Jury now x)
