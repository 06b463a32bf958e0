use Rattle.std.proofs.Common.{◌≡◌, ◌++◌}
use Rattle.std.specs.Vec.Iter.{into_iter_items}
use Rattle.contest_types.specs.State.{with_digest}
use Rattle.contest_lists.proofs.fixed_changes.all_given.Given as goal

abbrev pub invariant-loop-account : goal.invariant-loop-account
invariant-loop-account l = l.all.items ++ with_digest (into_iter_items l.account-iterator) l.id l.digest ≡ with_digest l.fn.accounts.items l.id l.digest
