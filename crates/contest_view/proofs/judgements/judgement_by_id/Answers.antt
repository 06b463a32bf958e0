use Rattle.std.proofs.Common.{◌≡◌, ◌∙◌, ap, refl}
use Rattle.std.specs.List.{filter_map}
use Rattle.std.specs.Option.{option_map}
use Rattle.serde_json.specs.Written.{compact_text}
use Rattle.contest_types.specs.Loads.{loaded_submissions}
use Rattle.contest_types.specs.State.{of_release}
use Rattle.contest_lists.specs.RowsOn.{last_row}
use Rattle.contest_objects.specs.Items.{found_in}
use Rattle.contest_view.specs.Judgements.{judgement_row}
use Rattle.contest_view.proofs.JudgementLemmas.{judgement_is}
use Rattle.contest_view.proofs.judgements.judgement_by_id.Goals as goal

pub returns : goal.returns
returns c x shows =
    let last = last_row of_release x.releases in
    let found : option_map (λ text. text.items) c.in_ok-found.found ≡ option_map compact_text (found_in (filter_map (judgement_row c.args.seen.now.audience c.args.seen.now.now x.fixed last) (loaded_submissions x)) c.args.id.now) =
    rw (c.submissions-rows.ensures, shows.lists) at c.in_ok-found.ensures in
    found ∙ ap (option_map compact_text) (judgement_is c.args.seen.now.audience c.args.seen.now.now x shows.valid last (λ team number. refl) c.args.id.now)
