use Rattle.std.proofs.Common.{◌∙◌, ◌++◌, ◌≡◌, ap, append_assoc, codes, map, refl}
use Rattle.std.proofs.lemmas.Result.{on_ok_weaker}
use Rattle.contest_lists.specs.RowsOn.{last_row}
use Rattle.contest_types.specs.Loads.{loaded_submissions}
use Rattle.contest_types.specs.State.{of_release}
use Rattle.contest_objects.specs.CollectionObjects.{event_of}
use Rattle.contest_objects.specs.Items.{IsOrderOf}
use Rattle.contest_view.specs.Feeds.{events}
use Rattle.contest_view.specs.Judgements.{judgement_items}
use Rattle.contest_view.specs.Reads.{submission_items}
use Rattle.contest_view.specs.Rows.{row_cmp}
use Rattle.contest_view.proofs.JudgementLemmas.{judgements_are}
use Rattle.contest_view.proofs.SubmissionLists.{submissions_are}
use Rattle.contest_view.proofs.feed_objects.FeedCollections.push_submissions.Goals as goal

pub returns : goal.returns
returns c x shown =
    let a = c.args.self.now.submissions.seen.now.audience in
    let now = c.args.self.now.submissions.seen.now.now in
    let valid = shown.shows.valid in
    let lists = shown.shows.lists in
    let order = map (λ r. r.now) c.in_ok-rows.rows.items in
    let listed : IsOrderOf (row_cmp x.fixed.settings) (loaded_submissions x) order = rw (c.submissions-rows.ensures, lists) at c.in_ok-rows.ensures in
    let old = map event_of c.args.objects.now.items in
    let subs = events (codes "submissions") (submission_items a now x) in
    let first : map event_of c.push_objects.new.objects.items ≡ old ++ subs =
    (rw (c.deref.ensures.value, lists) at c.in_ok-push_objects.ensures) ∙ ap (λ is. old ++ events (codes "submissions") is) (submissions_are a now x valid order listed) in
    on_ok_weaker c.push_objects-2.result
    (λ e. (rw (c.deref-2.ensures.value, shown.judgements, lists) at e)
    ∙ (ap (λ is. map event_of c.push_objects.new.objects.items ++ events (codes "judgements") is) (judgements_are a now x valid (last_row of_release x.releases) (λ team number. refl) order listed)
    ∙ (ap (λ es. es ++ events (codes "judgements") (judgement_items a now x)) first ∙ append_assoc old subs (events (codes "judgements") (judgement_items a now x)))))
    c.push_objects-2.ensures
