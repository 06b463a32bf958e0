use Rattle.std.proofs.Common.{◌≡◌, IfOk, subst}
use Rattle.contest_score.specs.Awards.{Award}
use Rattle.contest_score.proofs.LeastRanks.{group_award}
use Rattle.contest_score.proofs.group_awards.group_winner.Goals as goal

pub returns : goal.returns
returns c =
    let P : Award → Type 0 = λ v. IfOk c.award_to.result (λ w. w ≡ v) in
    let same = group_award c.args.settings.now c.args.rows.now c.args.place c.least_rank.result c.index-groups-place.result c.in_ok-id.id c.in_ok-citation.citation c.requires (rw c.groups.ensures.list at c.index-groups-place.is) (rw c.as_str.ensures.text at c.in_ok-id.ensures) (rw c.as_str-2.ensures.text at c.in_ok-citation.ensures) c.least_rank.ensures in
    subst P same c.award_to.ensures
