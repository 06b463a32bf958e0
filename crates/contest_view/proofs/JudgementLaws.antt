-- Alike contests show the same verdicts.
use Rattle.std.proofs.Common.{◌≡◌, ◌∙◌, ℕ, false, [], map, sym, ap}
use Rattle.std.specs.Prelude.{if◌then◌else◌}
use Rattle.std.specs.List.{filter_map}
use Rattle.serde_json.specs.Data.{array}
use Rattle.serde_json.specs.View.{items_of}
use Rattle.contest_types.specs.Alike.{Alike, MayBeHeld}
use Rattle.contest_types.specs.Judging.{Proposed, judged, open_proposals, seen_judgements}
use Rattle.contest_types.specs.Masks.{is_jury}
use Rattle.contest_types.specs.declared.audience.Audience.{Audience}
use Rattle.contest_types.specs.State.{ContestState}
use Rattle.contest_types.proofs.SightLemmas.{seen_alike, not_jury}
use Rattle.contest_objects.specs.ProposalObjects.{proposal_data}
use Rattle.contest_objects.specs.Items.{array_of, found_in}
use Rattle.contest_view.specs.Judgements.{item_of, judgement_items}
use Rattle.contest_view.specs.Laws.{AlikeReadTheSameJudgements, AlikeReadTheSameProposals}
use Rattle.contest_view.specs.Proposals.{proposals_data}

pub same_judgements : (a : Audience) (now : ℕ) (x y : ContestState) → MayBeHeld a now x → Alike a x y → judgement_items a now x ≡ judgement_items a now y
same_judgements a now x y held alike =
    ap (λ f. map (item_of f) (seen_judgements a now x)) alike.fixed ∙ ap (λ vs. map (item_of y.fixed) (filter_map judged vs)) (seen_alike a now x y held alike)

pub judgements_alike : AlikeReadTheSameJudgements
judgements_alike a now x y held alike =
    let same = same_judgements a now x y held alike in
    (ap array_of same, λ id. ap (λ items. found_in items id) same)

none_shown : (a : Audience) (now : ℕ) (x : ContestState) → is_jury a ≡ false → proposals_data a now x ≡ array (items_of [])
none_shown a now x h = ap (λ b. array (items_of (if b then map (λ (p : Proposed). proposal_data x.fixed.settings p.proposal false) (open_proposals now x) else []))) h

pub proposals_alike : AlikeReadTheSameProposals
proposals_alike a now x y held alike =
    let no = not_jury a held.no_jury in
    none_shown a now x no ∙ sym (none_shown a now y no)
