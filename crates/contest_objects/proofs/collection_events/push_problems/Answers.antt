use Rattle.std.proofs.Common.{◌∙◌, ◌++◌, ap, codes, map}
use Rattle.std.specs.Prelude.{slice_get}
use Rattle.std.specs.List.{filter_map}
use Rattle.std.proofs.lemmas.Result.{on_ok_weaker}
use Rattle.contest_types.specs.ProblemPlaces.{problem_order}
use Rattle.contest_objects.specs.CollectionObjects.{event_of}
use Rattle.contest_objects.specs.EventFeed.{item_event}
use Rattle.contest_objects.specs.SettingsObjects.{problem_item}
use Rattle.contest_objects.proofs.ListingLemmas.{all_served}
use Rattle.contest_objects.proofs.collection_events.push_problems.Goals as goal

pub returns : goal.returns
returns c =
    let s = c.args.settings.now in
    on_ok_weaker c.push_objects.result
    (λ e. (rw (c.deref-2.ensures.value, c.in_ok-rows.ensures, c.deref.ensures.value, c.in_ok-places.ensures.order, c.problems.ensures.list) at e)
    ∙ ap (λ is. map event_of c.args.objects.now.items ++ map (item_event (codes "problems")) is) (all_served problem_item (filter_map (slice_get s.problems) (problem_order s))))
    c.push_objects.ensures
