use Rattle.std.proofs.Common.{take}
use Rattle.contest_store_valid.specs.Accounts.{AreRoles}
use Rattle.contest_store_valid.proofs.accounts.roles_of.Given as goal

abbrev pub invariant-loop-account : goal.invariant-loop-account
invariant-loop-account l = AreRoles (take l.account-index l.accounts) l.roles
