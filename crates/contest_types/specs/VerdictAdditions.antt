-- What importing a verdict comes to (own).
use Rattle.std.specs.Prelude.{◌==◌, true, false, not, nat_le, length, Bool, Option, Some, None, Result, Ok, Err, find, if◌then◌else◌}
use Rattle.contest_types.specs.State.{ContestState, SubmissionRef, of_proposal, proposals_for}
use Rattle.contest_types.specs.ValidSubmissions.{is_valid_proposal, is_imported}
use Rattle.contest_types.specs.ValidRejudgings.{has_release}
use Rattle.contest_types.specs.declared.limits.TheConstants.{PROPOSALS}
use Rattle.contest_types.specs.declared.proposal.Proposal.{Proposal}
use Rattle.contest_types.specs.declared.refusal.Cause.{Cause}
use Rattle.contest_types.specs.declared.refusal.Cause.TheVariants.{UnknownReference, KeyReused, TableFull, AlreadyReleased}

-- the proposal that was imported for a submission, if one was
abbrev pub imported_for : ContestState → SubmissionRef → Option Proposal
imported_for x on = find is_imported (proposals_for on.team on.number x.proposals)

-- one for which none was imported yet: there is room for it, and nothing is released
abbrev pub first_addition : ContestState → Proposal → Result Bool Cause
first_addition x p =
    if nat_le PROPOSALS (length (proposals_for p.team p.number x.proposals)) then Err TableFull
    else (if has_release x p.team p.number then Err AlreadyReleased else Ok true)

-- what it names is there; then the verdict that was imported before: an equal one adds nothing
abbrev pub verdict_addition : ContestState → Proposal → Result Bool Cause
verdict_addition x p =
    if not (is_valid_proposal x p) then Err UnknownReference
    else (elim (imported_for x (of_proposal p)) [
      | (Some earlier) ↦ if earlier.verdict == p.verdict then Ok false else Err KeyReused
      | None ↦ first_addition x p
    ])
