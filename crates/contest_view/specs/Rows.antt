-- Submissions as they are loaded: in which order they are listed, and how they are served.
-- Words of private functions: nothing public is said with them.
use Rattle.std.specs.Prelude.{ℕ, [], ◌∷◌, Option, Some, None, if◌then◌else◌}
use Rattle.std.specs.Cmp.{IsTotalOrder}
use Rattle.std.specs.declared.cmp.Ordering.{Ordering}
use Rattle.std.proofs.lemmas.Cmp.{nat_cmp_total, nat_list_cmp_total, on_total, then_total}
use Rattle.contest_types.specs.Order.{by_each, by_number, by_text}
use Rattle.contest_types.specs.Setup.{Setup}
use Rattle.contest_types.specs.TeamPlaces.{team_id_at}
use Rattle.contest_types.specs.Sight.{SeenSubmission, program_for, seen_submission, sees_submission, sees_team}
use Rattle.contest_types.specs.State.{ContestState, FixedPart}
use Rattle.contest_types.specs.VisibleIds.{submission_id}
use Rattle.contest_types.specs.declared.audience.Audience.{Audience}
use Rattle.contest_types.specs.declared.submission.Submission.{Submission}
use Rattle.contest_objects.specs.Items.{Item}
use Rattle.contest_objects.specs.Objects.{submission_data}

-- those of one time: by team id, then number
abbrev pub own_cmp : Setup → Submission → Submission → Ordering
own_cmp s = by_each (by_text (λ r. team_id_at s r.team) ∷ by_number (λ r. r.number) ∷ [])

-- by time, then team id, then number
abbrev pub row_cmp : Setup → Submission → Submission → Ordering
row_cmp s = by_each (by_number (λ r. r.time) ∷ by_text (λ r. team_id_at s r.team) ∷ by_number (λ r. r.number) ∷ [])

pub row_total : (s : Setup) → IsTotalOrder (row_cmp s)
row_total s = then_total (on_total (λ (r : Submission). r.time) nat_cmp_total) (then_total (on_total (λ (r : Submission). team_id_at s r.team) nat_list_cmp_total) (on_total (λ (r : Submission). r.number) nat_cmp_total))

-- the submission, if the audience sees it
abbrev pub if_seen : Audience → FixedPart → Option Submission → Option Submission
if_seen a f None = None
if_seen a f (Some s) = if sees_team a f.settings s.team then Some s else None

-- what is seen of a submission, if anything is
abbrev pub seen_where : Audience → ℕ → ContestState → Submission → Option SeenSubmission
seen_where a now x s = if sees_submission a x s then Some (seen_submission a now x s) else None

-- a submission as an audience is served it, if it is
abbrev pub row_item : FixedPart → Audience → Submission → Option Item
row_item f a s =
    if sees_team a f.settings s.team
    then Some (record { id = submission_id s.team s.number; object = submission_data f s.team s.number s.time s.problem s.language (program_for a s) })
    else None
