-- Proposed verdicts as the jury reads them (own): the last one for each submission that has no release. Nobody else sees any.
use Rattle.std.specs.Prelude.{ℕ, false, [], map, Option, None, is_some, if◌then◌else◌}
use Rattle.std.specs.Option.{option_map}
use Rattle.serde_json.specs.Data.{Data, array}
use Rattle.serde_json.specs.View.{items_of}
use Rattle.contest_types.specs.Judging.{Proposed, open_proposals}
use Rattle.contest_types.specs.Masks.{is_jury}
use Rattle.contest_types.specs.Setup.{Setup}
use Rattle.contest_types.specs.State.{ContestState}
use Rattle.contest_types.specs.declared.audience.Audience.{Audience}
use Rattle.contest_types.specs.declared.proposal.Proposal.{Proposal}
use Rattle.contest_types.specs.declared.submission.Release.{Release}
use Rattle.contest_types.specs.declared.submission.Submission.{Submission}
use Rattle.contest_types.specs.VisibleIds.{submission_id}
use Rattle.contest_objects.specs.Items.{Item}
use Rattle.contest_objects.specs.ProposalObjects.{proposal_data}

-- in the order of the submissions
abbrev pub proposals_data : Audience → ℕ → ContestState → Data
proposals_data a now x =
    array (items_of (if is_jury a then map (λ (p : Proposed). proposal_data x.fixed.settings p.proposal false) (open_proposals now x) else []))

-- Words of private functions, from here on: nothing public is said with them.

abbrev pub proposal_item : Setup → Proposal → Item
proposal_item s p = record { id = submission_id p.team p.number; object = proposal_data s p false }

-- what stands proposed for a submission, by what is last on each
abbrev pub open_of : (last : ℕ → ℕ → Option Proposal) → (released : ℕ → ℕ → Option Release) → Submission → Option Proposal
open_of last released s = if is_some (released s.team s.number) then None else last s.team s.number

-- as it is served
abbrev pub proposal_row : Setup → (last : ℕ → ℕ → Option Proposal) → (released : ℕ → ℕ → Option Release) → Submission → Option Item
proposal_row setup last released s = option_map (proposal_item setup) (open_of last released s)
