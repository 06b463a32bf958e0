use Rattle.std.proofs.Common.{sym, ◌∙◌}
use Rattle.contest_lists.proofs.PartLemmas.{not_after}
use Rattle.contest_lists.proofs.fixed_changes.put.Goals as goal

pub returns-in_ok-push-clause-higher : goal.returns-in_ok-push-clause-higher
returns-in_ok-push-clause-higher c = not_after c.args.account.now c.args.other c.args.higher.now.items (sym c.comes_before.ensures ∙ c.if-comes_before.true)
