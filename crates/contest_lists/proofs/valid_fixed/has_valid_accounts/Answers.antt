use Rattle.std.proofs.Common.{sym, ◌∙◌, arith}
use Rattle.contest_lists.proofs.FixedLemmas.{all_valid}
use Rattle.contest_lists.proofs.valid_fixed.has_valid_accounts.Goals as goal

pub returns-then-are_valid_accounts : goal.returns-then-are_valid_accounts
returns-then-are_valid_accounts c =
    all_valid c.args.fixed.now c.as_slice-accounts.result.now c.are_told_apart.result c.as_slice-accounts.ensures (omega (arith, c.if-accounts-gt-ACCOUNTS.false))
    (sym c.are_valid_accounts.ensures ∙ c.if-are_valid_accounts.true) c.are_told_apart.ensures
