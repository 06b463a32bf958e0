use Rattle.std.proofs.Common.{◌∙◌}
use Rattle.contest_score.specs.Awards.{group_winner}
use Rattle.contest_score.proofs.AwardLists.{listed_more}
use Rattle.contest_score.proofs.group_awards.add_group_winners.Goals as goal

pub loop-place-preserved : goal.loop-place-preserved
loop-place-preserved c =
    c.in_ok-add.ensures ∙ listed_more (group_winner c.args.settings.now c.args.rows.now) c.deref-place-items.result.now c.loop-place.place-index 0 c.args.awards.now c.loop-place.awards c.in_ok-group_winner.field-0 c.loop-place-test.true c.loop-place.invariant c.in_ok-group_winner.ensures
