use Rattle.std.proofs.Common.{◌≡◌, length}
use Rattle.contest_lists.proofs.AccountLemmas.{told_apart}
use Rattle.contest_lists.proofs.valid_fixed.are_told_apart.Given as goal

abbrev pub invariant-loop-account : goal.invariant-loop-account
invariant-loop-account l = told_apart l.rest ≡ told_apart l.accounts

abbrev pub decreases-loop-account : goal.decreases-loop-account
decreases-loop-account l = length l.rest
