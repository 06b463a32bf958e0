-- The awards as they are served (Contest API 2023-06, awards): those that an audience is shown, in their order.
use Rattle.std.specs.Prelude.{ℕ, List, Option, Some, None, map, if◌then◌else◌}
use Rattle.serde_json.specs.Data.{Data}
use Rattle.contest_types.specs.Setup.{Setup}
use Rattle.contest_types.specs.Masks.{is_audience}
use Rattle.contest_types.specs.State.{ContestState}
use Rattle.contest_types.specs.declared.audience.Audience.{Audience}
use Rattle.contest_score.specs.Awards.{shown_awards}
use Rattle.contest_score.specs.declared.award.Award.{Award}
use Rattle.contest_objects.specs.AwardObjects.{award_item}
use Rattle.contest_objects.specs.Items.{Item, array_of, found_in}

abbrev pub item_of : Setup → Award → Item
item_of s w = award_item s w.id w.citation w.teams

-- those that an audience is shown
abbrev pub award_items : Audience → ℕ → ContestState → List Item
award_items a now x = map (item_of x.fixed.settings) (shown_awards a now x)

-- the same as they are, if there is such an audience: a team may not be there
abbrev pub audience_awards : Audience → ℕ → ContestState → Option (List Award)
audience_awards a now x = if is_audience x.fixed.settings a then Some (shown_awards a now x) else None

-- all of them
abbrev pub awards_data : Audience → ℕ → ContestState → Data
awards_data a now x = array_of (award_items a now x)

-- the one with this id
abbrev pub award_found : Audience → ℕ → ContestState → (id : List ℕ) → Option Data
award_found a now x = found_in (award_items a now x)
