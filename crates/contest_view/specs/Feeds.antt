-- The event feed that an audience is served (Contest API 2023-06, event feed; the order of the collections is own).
use Rattle.std.specs.Prelude.{ℕ, List, [], ◌∷◌, ◌++◌, codes, map}
use Rattle.contest_types.specs.Setup.{Setup}
use Rattle.contest_types.specs.State.{ContestState}
use Rattle.contest_types.specs.declared.audience.Audience.{Audience}
use Rattle.contest_objects.specs.ContestObjects.{whole_data}
use Rattle.contest_objects.specs.EventFeed.{FeedEvent, item_event, whole_event}
use Rattle.contest_objects.specs.Items.{Item}
use Rattle.contest_objects.specs.SettingsObjects.{settings_items}
use Rattle.contest_objects.specs.declared.contest_objects.ContestEndpoint.TheVariants.{Contest, State}
use Rattle.contest_objects.specs.declared.settings_objects.SettingsEndpoint.TheVariants.{Groups, JudgementTypes, Languages, Problems, Teams}
use Rattle.contest_view.specs.Awards.{award_items}
use Rattle.contest_view.specs.Clarifications.{clarification_items}
use Rattle.contest_view.specs.Judgements.{judgement_items}
use Rattle.contest_view.specs.Reads.{submission_items}

-- one event for each object of a collection, in the order in which it is listed
abbrev pub events : (collection : List ℕ) → List Item → List FeedEvent
events collection items = map (item_event collection) items

-- the settings
abbrev pub settings_events : Setup → List FeedEvent
settings_events s =
    events (codes "judgement-types") (settings_items JudgementTypes s)
    ++ (events (codes "languages") (settings_items Languages s)
    ++ (events (codes "problems") (settings_items Problems s)
    ++ (events (codes "groups") (settings_items Groups s)
    ++ events (codes "teams") (settings_items Teams s))))

-- what an audience sees of what happened until a moment
abbrev pub seen_events : Audience → ℕ → ContestState → List FeedEvent
seen_events a now x =
    events (codes "submissions") (submission_items a now x)
    ++ (events (codes "judgements") (judgement_items a now x)
    ++ (events (codes "clarifications") (clarification_items a x)
    ++ events (codes "awards") (award_items a now x)))

-- all of it, between the contest and its state
abbrev pub feed_events : Audience → ℕ → ContestState → List FeedEvent
feed_events a now x =
    whole_event (codes "contest") (whole_data Contest x.fixed now)
    ∷ (settings_events x.fixed.settings ++ seen_events a now x)
    ++ whole_event (codes "state") (whole_data State x.fixed now) ∷ []
