use Rattle.contest_types.specs.Accounts.{comes_before}
use Rattle.contest_lists.proofs.PartLemmas.{one_more_part}
use Rattle.contest_lists.proofs.fixed_changes.part.Goals as goal

pub loop-other-preserved : goal.loop-other-preserved
loop-other-preserved c =
    let before = c.loop-other.invariant in (
      one_more_part (λ b. comes_before b c.args.account.now) c.loop-other.lower.items c.put.new.lower.items _ _ _ c.in-Some.other before.0 c.in-Some.ensures.steps.0 c.in_ok-put.ensures.lower,
      one_more_part (λ b. comes_before c.args.account.now b) c.loop-other.higher.items c.put.new.higher.items _ _ _ c.in-Some.other before.1 c.in-Some.ensures.steps.0 c.in_ok-put.ensures.higher,
    )
