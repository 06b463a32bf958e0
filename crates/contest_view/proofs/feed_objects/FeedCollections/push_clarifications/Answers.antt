use Rattle.std.proofs.Common.{◌∙◌, ◌++◌, ap, codes, map}
use Rattle.std.proofs.lemmas.Result.{on_ok_weaker}
use Rattle.contest_objects.specs.CollectionObjects.{event_of}
use Rattle.contest_objects.specs.Items.{IsOrderOf}
use Rattle.contest_view.specs.Clarifications.{heard_cmp}
use Rattle.contest_view.specs.Feeds.{events}
use Rattle.contest_view.proofs.ClarificationLists.{clarifications_are}
use Rattle.contest_view.proofs.feed_objects.FeedCollections.push_clarifications.Goals as goal

pub returns : goal.returns
returns c x shows =
    let a = c.args.self.now.clarifications.seen.now.audience in
    let order = map (λ r. r.now) c.in_ok-rows.rows.items in
    let listed : IsOrderOf heard_cmp x.clarifications order = rw (c.clarifications-rows.ensures, shows.lists) at c.in_ok-rows.ensures in
    on_ok_weaker c.push_objects.result
    (λ e. (rw (c.deref.ensures.value, shows.lists) at e) ∙ ap (λ is. map event_of c.args.objects.now.items ++ events (codes "clarifications") is) (clarifications_are a x shows.valid order listed))
    c.push_objects.ensures
