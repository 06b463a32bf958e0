use Rattle.contest_store_changes.proofs.AccountAddition.{account_is_added}
use Rattle.contest_store_changes.proofs.laws.new_accounts_are_rows.Goals as goal

pub returns : goal.returns
returns c = account_is_added
