-- What is served of the proposals that stand.
use Rattle.std.proofs.Common.{◌≡◌, ◌∙◌, ℕ, true, Option, Some, None, refl, ap, List, map}
use Rattle.std.specs.Prelude.{is_some, if◌then◌else◌}
use Rattle.std.specs.List.{filter_map, last_or}
use Rattle.std.specs.Option.{option_map}
use Rattle.std.proofs.lemmas.Simd.{map-map}
use Rattle.serde_json.specs.Data.{array}
use Rattle.serde_json.specs.View.{items_of}
use Rattle.contest_types.specs.Loads.{loaded_submissions}
use Rattle.contest_types.specs.Judging.{Proposed, open_proposals, waiting}
use Rattle.contest_types.specs.Masks.{is_jury}
use Rattle.contest_types.specs.Setup.{Setup}
use Rattle.contest_types.specs.Sight.{SeenSubmission, judgement_of, last_judgement, seen_submission, seen_submissions}
use Rattle.contest_types.specs.State.{ContestState, of_proposal, of_release, proposals_for, releases_on}
use Rattle.contest_types.specs.Valid.{is_valid}
use Rattle.contest_types.specs.declared.audience.Audience.{Audience}
use Rattle.contest_types.specs.declared.audience.Audience.TheVariants.{Jury, Public, Team}
use Rattle.contest_types.specs.declared.proposal.Proposal.{Proposal}
use Rattle.contest_types.specs.declared.submission.Release.{Release}
use Rattle.contest_types.specs.declared.submission.Submission.{Submission}
use Rattle.contest_objects.specs.Items.{Item, IsOrderOf, array_of}
use Rattle.contest_view.specs.Rows.{row_cmp}
use Rattle.contest_objects.proofs.ListingLemmas.{mapped_served}
use Rattle.contest_view.proofs.SeenOrder.{ServesSeen, items_are}
use Rattle.contest_lists.specs.RowsOn.{last_row}
use Rattle.contest_view.specs.Proposals.{open_of, proposal_item, proposal_row, proposals_data}
use Rattle.contest_types.proofs.LastLemmas.{last_mapped}

-- what stands proposed by the last rows waits in the contest, as the jury sees it
open_is : (now : ℕ) (x : ContestState) (last : ℕ → ℕ → Option Proposal) (released : ℕ → ℕ → Option Release) (s : Submission)
    → ((team number : ℕ) → last team number ≡ last_row of_proposal x.proposals team number) → ((team number : ℕ) → released team number ≡ last_row of_release x.releases team number)
    → open_of last released s ≡ option_map (λ (p : Proposed). p.proposal) (waiting x (seen_submission Jury now x s))
open_is now x last released s lasts releases =
    let on : option_map judgement_of (released s.team s.number) ≡ last_judgement x s =
    ap (option_map judgement_of) (releases s.team s.number) ∙ last_mapped judgement_of None (releases_on s.team s.number x.releases) in
    let shown = seen_submission Jury now x s in
    let proposed : Option Proposal → Option Proposed = option_map (λ (p : Proposal). record { submission = shown; proposal = p }) in
    let same : (o : Option Proposal) → o ≡ option_map (λ (p : Proposed). p.proposal) (proposed o) = elim [ None ↦ refl | (Some p) ↦ refl ] in
    let go : (o : Option Release) → (if is_some o then None else last s.team s.number)
    ≡ option_map (λ (p : Proposed). p.proposal) (elim (option_map judgement_of o) as (λ _. Option Proposed) [ None ↦ proposed (last_or None (proposals_for s.team s.number x.proposals)) | (Some j) ↦ None ]) = elim [
      | None ↦ lasts s.team s.number ∙ same (last_or None (proposals_for s.team s.number x.proposals))
      | (Some r) ↦ refl
    ] in
    go (released s.team s.number)
    ∙ ap (λ o. option_map (λ (p : Proposed). p.proposal) (elim o as (λ _. Option Proposed) [ None ↦ proposed (last_or None (proposals_for s.team s.number x.proposals)) | (Some j) ↦ None ])) on

abbrev pub proposed_item : Setup → Proposed → Item
proposed_item s p = proposal_item s p.proposal

abbrev of_seen : ContestState → SeenSubmission → Option Item
of_seen x v = option_map (proposed_item x.fixed.settings) (waiting x v)

serves : (now : ℕ) (x : ContestState) (last : ℕ → ℕ → Option Proposal) (released : ℕ → ℕ → Option Release)
    → ((team number : ℕ) → last team number ≡ last_row of_proposal x.proposals team number) → ((team number : ℕ) → released team number ≡ last_row of_release x.releases team number)
    → ServesSeen Jury now x (proposal_row x.fixed.settings last released) (of_seen x)
serves now x last released lasts releases s =
    let each : (o : Option Proposed) → option_map (proposal_item x.fixed.settings) (option_map (λ (p : Proposed). p.proposal) o) ≡ option_map (proposed_item x.fixed.settings) o = elim [ None ↦ refl | (Some p) ↦ refl ] in
    ap (option_map (proposal_item x.fixed.settings)) (open_is now x last released s lasts releases) ∙ each (waiting x (seen_submission Jury now x s))

pub proposals_are : (now : ℕ) (x : ContestState) → is_valid x ≡ true → (last : ℕ → ℕ → Option Proposal) (released : ℕ → ℕ → Option Release)
    → ((team number : ℕ) → last team number ≡ last_row of_proposal x.proposals team number) → ((team number : ℕ) → released team number ≡ last_row of_release x.releases team number)
    → (order : List Submission) → IsOrderOf (row_cmp x.fixed.settings) (loaded_submissions x) order → filter_map (proposal_row x.fixed.settings last released) order ≡ map (proposed_item x.fixed.settings) (open_proposals now x)
proposals_are now x valid last released lasts releases order l =
    items_are Jury now x valid (proposal_row x.fixed.settings last released) (of_seen x) (serves now x last released lasts releases) order l
    ∙ mapped_served (proposed_item x.fixed.settings) (waiting x) (seen_submissions Jury now x)

-- to the jury
pub proposals_served : (a : Audience) (now : ℕ) (x : ContestState) → is_jury a ≡ true → array_of (map (proposed_item x.fixed.settings) (open_proposals now x)) ≡ proposals_data a now x
proposals_served Jury now x jury = ap (λ ds. array (items_of ds)) (map-map (λ (i : Item). i.object) (proposed_item x.fixed.settings) (open_proposals now x))
proposals_served Public now x jury = absurd (cc jury)
proposals_served (Team number) now x jury = absurd (cc jury)
