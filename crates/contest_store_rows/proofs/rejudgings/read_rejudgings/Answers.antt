use Rattle.std.proofs.Common.{◌∙◌, ◌+◌, ap}
use Rattle.contest_store_rows.specs.Rejudgings.{rejudging_in}
use Rattle.contest_store_rows.proofs.ListLemmas.{rejudging_more}
use Rattle.contest_store_rows.proofs.rejudgings.read_rejudgings.Goals as goal

pub loop-at-preserved : goal.loop-at-preserved
loop-at-preserved c =
    let s = c.args.settings.now in
    let found = c.in_ok-rejudging.ensures ∙ ap (rejudging_in s (c.loop-at.at + 1) c.index-rows-at.result) c.split_at.ensures.front in
    let more = rejudging_more s c.args.rows.now c.loop-at.left.now c.loop-at.at c.own_rows.result c.loop-at.rejudgings c.index-rows-at.result c.in_ok-rejudging.field-0 c.in-Some.rejudging c.loop-at-test.true c.index-rows-at.is c.own_rows.ensures.value found c.in-Some.is in
    rw (c.in_ok-push.ensures.ok, c.split_at.ensures.back) (c.loop-at.invariant ∙ more)
