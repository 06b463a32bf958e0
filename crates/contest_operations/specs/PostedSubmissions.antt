-- A team posts a submission (Contest API 2023-06, submissions): who may, what its body says, and what becomes of it.
use Rattle.std.specs.Prelude.{◌≤◌, ◌<◌, ℕ, Option, Some, None, Result, Ok, Err, length}
use Rattle.contest_types.specs.State.{FixedPart, ContestState}
use Rattle.contest_types.specs.TeamPlaces.{team_id_at}
use Rattle.contest_types.specs.declared.limits.TheConstants.{POSTED_FILE}
use Rattle.contest_types.specs.declared.refusal.Refusal.{Refusal}
use Rattle.contest_types.specs.declared.refusal.Refusal.TheVariants.{RoleForbids}
use Rattle.contest_rules.specs.declared.submitting.WantedSubmission.{WantedSubmission}
use Rattle.contest_operations.specs.Outcomes.{Outcome, told}
use Rattle.contest_requests.specs.SubmissionBodies.{wanted_in}
use Rattle.contest_operations.specs.declared.command.Posted.{Posted}
use Rattle.contest_operations.specs.declared.command.Posted.TheVariants.{Submission as OfSubmission}
use Rattle.contest_requests.specs.declared.request.Request.{Request}
use Rattle.contest_postings.specs.PostSubmission.{submission_done}

abbrev pub posted_as : (team : ℕ) → Result WantedSubmission Refusal → Result Posted Refusal
posted_as team (Err refusal) = Err refusal
posted_as team (Ok wanted) = Ok (OfSubmission team wanted)

-- only a team submits
abbrev pub posted_submission : FixedPart → Option ℕ → Request → Result Posted Refusal
posted_submission f None request = Err RoleForbids
posted_submission f (Some team) request = posted_as team (wanted_in (team_id_at f.settings team) request.key request.body)

-- what is known of it once it is read
abbrev pub IsSoundSubmission : FixedPart → (team : ℕ) → WantedSubmission → Type 0
IsSoundSubmission f team wanted = (team < length f.settings.teams) × (length wanted.file ≤ POSTED_FILE)

abbrev pub submission_outcome : (now team : ℕ) → WantedSubmission → ContestState → Outcome
submission_outcome now team wanted x = told (submission_done now team wanted x)
