use Rattle.std.proofs.Common.{◌∙◌, ◌++◌, ap}
use Rattle.contest_view.specs.Feeds.{seen_events}
use Rattle.contest_view.proofs.feed_objects.feed_objects.Goals as goal

pub returns : goal.returns
returns c x shown awards =
    let seen = c.args.collections.now.submissions.seen.now in
    c.in_ok-push_seen.ensures x shown awards
    ∙ ap (λ es. es ++ seen_events seen.audience seen.now x) (rw (c.new-objects.ensures.items, shown.teams) at c.in_ok-push_settings.ensures)
