-- Alike contests are fed alike.
use Rattle.std.proofs.Common.{◌≡◌, ◌∙◌, ◌++◌, ◌∷◌, ℕ, List, [], ap, codes}
use Rattle.contest_types.specs.Alike.{Alike, MayBeHeld}
use Rattle.contest_types.specs.State.{ContestState, FixedPart}
use Rattle.contest_types.specs.declared.audience.Audience.{Audience}
use Rattle.contest_objects.specs.ContestObjects.{whole_data}
use Rattle.contest_objects.specs.EventFeed.{FeedEvent, whole_event}
use Rattle.contest_objects.specs.Items.{Item}
use Rattle.contest_objects.specs.declared.contest_objects.ContestEndpoint.TheVariants.{Contest, State}
use Rattle.contest_view.specs.Awards.{award_items}
use Rattle.contest_view.specs.Clarifications.{clarification_items}
use Rattle.contest_view.specs.Feeds.{events, seen_events, settings_events}
use Rattle.contest_view.specs.Judgements.{judgement_items}
use Rattle.contest_view.specs.Laws.{AlikeReadTheSameFeed}
use Rattle.contest_view.specs.Reads.{submission_items}
use Rattle.contest_view.proofs.AwardReads.{same_items}
use Rattle.contest_view.proofs.JudgementLaws.{same_judgements}
use Rattle.contest_view.proofs.ReadLaws.{same_clarifications, same_submissions}

same_events : (a : Audience) (now : ℕ) (x y : ContestState) → MayBeHeld a now x → Alike a x y → seen_events a now x ≡ seen_events a now y
same_events a now x y held alike =
    let four : (submissions judgements clarifications awards : List Item) → List FeedEvent = λ submissions judgements clarifications awards.
    events (codes "submissions") submissions ++ (events (codes "judgements") judgements ++ (events (codes "clarifications") clarifications ++ events (codes "awards") awards)) in
    ap (λ is. four is (judgement_items a now x) (clarification_items a x) (award_items a now x)) (same_submissions a now x y held alike)
    ∙ (ap (λ is. four (submission_items a now y) is (clarification_items a x) (award_items a now x)) (same_judgements a now x y held alike)
    ∙ (ap (λ is. four (submission_items a now y) (judgement_items a now y) is (award_items a now x)) (same_clarifications a x y alike)
    ∙ ap (four (submission_items a now y) (judgement_items a now y) (clarification_items a y)) (same_items a now x y held alike)))

pub feed_alike : AlikeReadTheSameFeed
feed_alike a now x y held alike =
    let between : FixedPart → List FeedEvent → List FeedEvent = λ f es.
    whole_event (codes "contest") (whole_data Contest f now) ∷ (settings_events f.settings ++ es) ++ whole_event (codes "state") (whole_data State f now) ∷ [] in
    ap (λ f. between f (seen_events a now x)) alike.fixed ∙ ap (between y.fixed) (same_events a now x y held alike)
