use Rattle.std.proofs.Common.{◌∙◌, take}
use Rattle.contest_store_valid.specs.Accounts.{role_named}
use Rattle.contest_store_valid.proofs.AccountLemmas.{next_role}
use Rattle.contest_store_valid.proofs.accounts.roles_of.Goals as goal

pub loop-account-preserved : goal.loop-account-preserved
loop-account-preserved c = λ id.
    c.in_ok-add_role.ensures (role_named (take c.loop-account.account-index c.args.accounts.now)) c.loop-account.invariant id
    ∙ next_role c.args.accounts.now c.loop-account.account-index c.account-item.result id.now c.loop-account-test.true c.account-item.is
