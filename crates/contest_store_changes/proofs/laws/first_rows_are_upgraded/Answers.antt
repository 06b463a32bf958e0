use Rattle.contest_store_changes.proofs.UpgradedTables.{first_rows_upgraded}
use Rattle.contest_store_changes.proofs.laws.first_rows_are_upgraded.Goals as goal

pub returns : goal.returns
returns c = first_rows_upgraded
