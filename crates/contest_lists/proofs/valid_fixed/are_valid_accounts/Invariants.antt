use Rattle.std.proofs.Common.{◌≡◌, drop}
use Rattle.std.specs.List.{list_all}
use Rattle.contest_types.specs.ValidFixed.{is_valid_account}
use Rattle.contest_lists.proofs.valid_fixed.are_valid_accounts.Given as goal

abbrev pub invariant-loop-account : goal.invariant-loop-account
invariant-loop-account l = list_all (is_valid_account l.settings) l.accounts ≡ list_all (is_valid_account l.settings) (drop l.account-index l.accounts)
