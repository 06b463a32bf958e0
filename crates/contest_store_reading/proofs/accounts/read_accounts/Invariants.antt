use Rattle.std.proofs.Common.{◌≡◌, ◌++◌, drop}
use Rattle.std.specs.Option.{option_map}
use Rattle.contest_store_reading.specs.AccountRows.{accounts_in}
use Rattle.contest_store_reading.proofs.accounts.read_accounts.Given as goal

abbrev pub invariant-loop-row : goal.invariant-loop-row
invariant-loop-row l = accounts_in l.settings l.rows ≡ option_map (λ more. l.accounts ++ more) (accounts_in l.settings (drop l.row-index l.rows))
