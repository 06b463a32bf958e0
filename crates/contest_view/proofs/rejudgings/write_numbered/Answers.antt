use Rattle.std.proofs.Common.{◌∙◌, arith, ◌≡◌, ◌+◌}
use Rattle.contest_objects.specs.JsonTokens.{data_tokens}
use Rattle.contest_view.specs.Rejudgings.{numbered_data}
use Rattle.contest_view.proofs.RejudgingLemmas.{made_more}
use Rattle.contest_view.proofs.rejudgings.write_numbered.Goals as goal

pub loop-place-preserved : goal.loop-place-preserved
loop-place-preserved c =
    let one : c.loop-place.place + 1 ≡ 1 + c.loop-place.place = omega arith in
    let wrote = c.in_ok-write.ensures in (
      made_more (λ p. data_tokens (numbered_data c.args.settings.now p)) 1 c.args.rejudgings.now c.loop-place.place c.index-rejudgings-place.result c.loop-place.out.tokens c.write.new.out.tokens _
          c.loop-place-test.true c.index-rejudgings-place.is c.loop-place.invariant.0 (rw one at wrote.tokens),
      wrote.before ∙ c.loop-place.invariant.1,
    )
